use Rattle.std.proofs.Common.{◌≡◌, ◌∷◌, drop}
use Rattle.form_check.specs.Acting.{rewriting}
use Rattle.form_right_side.specs.Refusal.{listed}
use Rattle.form_right_side.proofs.Loops.{behind}
use Rattle.form_check.proofs.acting.rewritings.Given as goal

-- what was made and what is left give what all give
abbrev pub invariant-loop-also : goal.invariant-loop-also
invariant-loop-also l =
    listed (rewriting l.names) (l.id ∷ l.others) ≡ behind l.rewritings.items (listed (rewriting l.names) (drop l.also-index l.others))
