-- Joined terms that are parted by a condition which doesn't ask for the coefficient.
use Rattle.std.proofs.Common.{◌≡◌, Bool, true, false, if◌then◌else◌, List, ◌∷◌, ◌++◌, Option, ap, ◌∙◌}
use Rattle.std.specs.List.{AllByRecursion}
use Rattle.form_base.specs.declared.block.Branch.{Branch}
use Rattle.form_cond.specs.Condition.{holds}
use Rattle.form_frac.specs.Fraction.{Fraction}
use Rattle.form_term.specs.Term.{Term}
use Rattle.form_term.specs.declared.monomial.Monomial.{Monomial}
use Rattle.form_gathered.specs.Joined.{item_of}
use Rattle.form_gathered.specs.declared.joined.JoinedTerm.{JoinedTerm}
use Rattle.form_joined.proofs.Mapped.{all_weaker}
use Rattle.form_flow.specs.Outcome.{Outcome}
use Rattle.form_flow.specs.Ready.{Choice}
use Rattle.form_flow.specs.Statements.{first_branch, is_so}
use Rattle.form_flow.specs.Ways.{run_each}
use Rattle.form_levels.specs.Asks.{asks_coefficient}
use Rattle.form_levels.specs.Parting.{AreSo}
use Rattle.form_levels.specs.Runs.{Runs}
use Rattle.form_levels.proofs.Asked.{holds_whatever}
use Rattle.form_levels.proofs.Running.{runs_beside}
use Rattle.form_levels.proofs.Terms.{runs_by}

-- it is, or isn't, whatever the coefficient
abbrev IsWhatever : Choice → Bool → Term → Type 0
IsWhatever q truth t = (c : Fraction) → holds q.patterns q.condition c t ≡ truth

are_whatever : (q : Choice) (truth : Bool) (js : List JoinedTerm) → asks_coefficient q.condition ≡ false → AreSo q truth js → AllByRecursion (λ j. IsWhatever q truth j.term) js
are_whatever q truth js never =
    all_weaker (λ j. is_so q (item_of j) ≡ truth) (λ j. IsWhatever q truth j.term) (λ j e c. holds_whatever q.patterns c j.sum j.term q.condition never ∙ e) js

module _ (b : Branch Choice (List (Monomial → Outcome))) (bs : List (Branch Choice (List (Monomial → Outcome)))) (last : Option (List (Monomial → Outcome))) (never : asks_coefficient b.condition.condition ≡ false) where
  -- those of which it is so go into its block, the others past it
  pub runs_parted : (these others i a x y : List JoinedTerm) → AreSo b.condition true these → AreSo b.condition false others
      → Runs (run_each b.block) these i a → Runs (first_branch bs last) others x y → Runs (first_branch (b ∷ bs) last) (these ++ others) (i ++ x) (a ++ y)
  runs_parted these others i a x y h g r s =
      let by : (m : Monomial) (truth : Bool) → IsWhatever b.condition truth m.term → first_branch (b ∷ bs) last m ≡ (if truth then run_each b.block m else first_branch bs last m)
      = λ m truth e. ap (λ (t : Bool). if t then run_each b.block m else first_branch bs last m) (e m.coefficient) in
      runs_beside (first_branch (b ∷ bs) last) these others i a x y
      (runs_by (first_branch (b ∷ bs) last) (run_each b.block) (IsWhatever b.condition true) these i a (are_whatever b.condition true these never h) (λ m. by m true) r)
      (runs_by (first_branch (b ∷ bs) last) (first_branch bs last) (IsWhatever b.condition false) others x y (are_whatever b.condition false others never g) (λ m. by m false) s)
