-- Turns of a `repeat` in which nothing acted.
use Rattle.std.specs.Prelude.{◌≡◌, false, List, ◌∷◌, ◌++◌}
use Rattle.form_term.specs.declared.monomial.Monomial.{Monomial}
use Rattle.form_flow.specs.Outcome.{Outcome, Output, output}

-- an output is one of these
pub record IsAmong (x : Output) (os : List Output) : Type 0 where
  pub before : List Output
  pub behind : List Output
  pub place : os ≡ before ++ x ∷ behind

-- This term comes of one that goes through the block once, and nothing acts on its way.
pub record IsIdle (once : Monomial → Outcome) (m : Monomial) : Type 0 where
  pub start : Monomial
  pub among : IsAmong (output false m) (once start).outputs
