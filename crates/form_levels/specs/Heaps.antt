-- What statements make of joined terms, where those on which something acted are put into a heap.
use Rattle.std.specs.Prelude.{List, [], ◌∷◌, ◌++◌}
use Rattle.form_term.specs.declared.monomial.Monomial.{Monomial}
use Rattle.form_flow.specs.Outcome.{Outcome}
use Rattle.form_flow.specs.Statement.{Limits}
use Rattle.form_gathered.specs.Joined.{Stand}
use Rattle.form_gathered.specs.declared.joined.JoinedTerm.{JoinedTerm}
use Rattle.form_levels.specs.Runs.{Runs}
use Rattle.form_levels.specs.declared.level.Level.{Level}
use Rattle.form_levels.specs.declared.levels.Levels.{Levels}

-- what the statements of a module are carried out within
abbrev pub limits_of : Levels → Limits
limits_of l = l.compiled.now.limits

-- Of the first those are left on whose way nothing acted; what came of the others was put into the heap.
pub record RunsInto (go : Monomial → Outcome) (js ks old new : List JoinedTerm) : Type 0 where
  pub acted : List JoinedTerm
  pub runs : Runs go js ks acted
  pub put : Stand (old ++ acted) new

-- One more is carried out: where others left these and put this into the heap, all leave those and put that.
abbrev pub OneMore : (Monomial → Outcome) → JoinedTerm → List JoinedTerm → List JoinedTerm → List JoinedTerm → List JoinedTerm → Type 0
OneMore go j idle heap idle2 heap2 = (js old : List JoinedTerm) → RunsInto go js idle old heap → RunsInto go (js ++ j ∷ []) idle2 old heap2

-- all that came of them was put into the heap
pub record AllInto (go : Monomial → Outcome) (js old new : List JoinedTerm) : Type 0 where
  pub idle : List JoinedTerm
  pub acted : List JoinedTerm
  pub runs : Runs go js idle acted
  pub put : Stand (old ++ (idle ++ acted)) new

-- Of a level those are left on whose way nothing acted. What came of the others was put into the heap, and all that came of those
-- on whose way something had acted.
pub record BothInto (go : Monomial → Outcome) (l : Level) (ks old new : List JoinedTerm) : Type 0 where
  pub first : List JoinedTerm
  pub left : List JoinedTerm
  pub second : List JoinedTerm
  pub idle : Runs go l.idle.items ks first
  pub acted : Runs go l.acted.items left second
  pub put : Stand (old ++ (first ++ (left ++ second))) new
