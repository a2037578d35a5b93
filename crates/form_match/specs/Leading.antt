-- What pieces lead to where arguments are open.
use Rattle.std.specs.Prelude.{◌≡◌, ℕ, ◌+◌, ◌^◌, ◌<◌, Bool, true, false, List, [], ◌∷◌, ◌++◌, drop, take, length, flat_map, Option, Some, None, IfSome, option_map, option_to_list}
use Rattle.form_term.specs.declared.piece.Piece.{Piece}
use Rattle.form_term.specs.Arguments.{arguments_of}
use Rattle.form_tree.specs.declared.pattern.PatternPiece.{PatternPiece}
use Rattle.form_tree.specs.declared.pattern.PatternPiece.TheVariants as pieces
use Rattle.form_match.specs.declared.places.Frame.{Frame}
use Rattle.form_match.specs.declared.places.Frame.TheVariants as frames
use Rattle.form_match.specs.declared.trail.Standing.{Standing}
use Rattle.form_match.specs.declared.trail.Trail.{Trail}
use Rattle.form_match.specs.Parts.{IsFront}
use Rattle.form_match.specs.Running.{IsCandidate, ahead, keeping}
use Rattle.form_match.specs.States.{Open, arguments, State, state, moves, reach}
use Rattle.form_bindings.specs.Values.{Binding}

-- whether there is a way on, which is then the only one
abbrev pub LeadsTo : Bool → List State → List Open → List Binding → Type 0
LeadsTo true states os bs = states ≡ state os bs ∷ []
LeadsTo false states os bs = states ≡ []

-- a piece that neither ends arguments nor begins a product nor takes a field
pub record IsPlain (p : PatternPiece) : Type 0 where
  pub no_end : p ≡ pieces.EndOfArguments → ⊥
  pub no_product : p ≡ pieces.Product → ⊥
  pub no_field : (w : ℕ) → p ≡ pieces.Field w → ⊥

-- where so many pieces of these arguments are taken, these are bound, and where they can't be
abbrev pub once_taken : List Piece → List Open → List Binding → Option ℕ → List State
once_taken ps os bs n = option_to_list (option_map (λ len. state (arguments (arguments_of (drop len ps)) ∷ os) bs) n)

-- A piece takes so many pieces of these arguments and has no other way, or it has none.
abbrev pub TakesAlone : List (Option (List Piece)) → PatternPiece → List Piece → (old new : List Binding) → Option ℕ → Type 0
TakesAlone table p ps old new n = (os : List Open) → moves table p (arguments (arguments_of ps) ∷ os) old ≡ once_taken ps os new n

-- what a piece and those behind it lead to where it is left to be tried from a later candidate on
abbrev pub left_behind : List (Option (List Piece)) → PatternPiece → List PatternPiece → List Piece → List Open → List Binding → Option ℕ → List State
left_behind table p behind ps os bs None = []
left_behind table p behind ps os bs (Some c) = ahead table (p ∷ behind) (arguments (arguments_of ps) ∷ os) bs c

-- A piece takes so many pieces of these arguments first, and is tried from a later candidate on then; or it has no way.
abbrev pub TakesThen : List (Option (List Piece)) → PatternPiece → List PatternPiece → List Piece → (old new : List Binding) → ℕ → (n later : Option ℕ) → Type 0
TakesThen table p behind ps old new c n later =
    (os : List Open) → ahead table (p ∷ behind) (arguments (arguments_of ps) ∷ os) old c
    ≡ flat_map (reach table behind) (once_taken ps os new n) ++ left_behind table p behind ps os old later

-- so a field, whatever the arguments without wildcards are
abbrev pub TakesFirst : ℕ → List PatternPiece → List Piece → (old new : List Binding) → ℕ → (n later : Option ℕ) → Type 0
TakesFirst w behind ps old new c n later = (table : List (Option (List Piece))) → TakesThen table (pieces.Field w) behind ps old new c n later

-- What a piece takes of arguments where it is tried from a candidate on, and what is bound and left then.
pub record Takes (table : List (Option (List Piece))) (p : PatternPiece) (behind : List PatternPiece) (ps : List Piece) (at : Standing) (terms : ℕ) (old new : Trail) (n : Option ℕ) : Type 0 where
  pub later : Option ℕ
  pub leads : TakesThen table p behind ps old.bindings new.bindings at.candidate n later
  pub front : IfSome n (λ len. (count : ℕ) × IsFront ps count len)
  pub candidate : IfSome later (λ c. (at.candidate < c) × (c < 2 ^ 64) × IsCandidate p (arguments (arguments_of ps) ∷ []) c)
  pub takes : new.takes.items ≡ old.takes.items
  pub bindings : take (length old.bindings) new.bindings ≡ old.bindings
  pub choices : new.choices.items ≡ keeping later at terms (length old.takes.items) (length old.bindings) old.choices.items

-- so many pieces further, where this is open
abbrev pub next_standing : Standing → ℕ → Frame → Standing
next_standing at count frame = record { piece = at.piece + count; candidate = 0; frame = frame }

-- the functions in a row end, and the factors around them go on; another piece takes nothing of a word
abbrev pub word_end : Standing → ℕ → PatternPiece → Option Standing
word_end at host pieces.EndOfWord = Some (next_standing at 1 (frames.Factors host))
word_end at host p = None
