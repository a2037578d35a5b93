use Rattle.std.proofs.Common.{sym, ◌∙◌}
use Rattle.form_grammar.proofs.Remaining.{none_stays}
use Rattle.form_grammar.proofs.balance.any_stays.Goals as goal

pub loop-place-preserved : goal.loop-place-preserved
loop-place-preserved c = none_stays c.args.weights.now c.loop-place.place _ c.loop-place-test.true c.index-weights-place.is c.loop-place.invariant (sym c.in_ok-stays_first.ensures ∙ c.if-branch.false)
