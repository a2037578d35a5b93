use Rattle.std.proofs.Common.{sym, ◌∙◌}
use Rattle.form_normal.proofs.Places.{placing_goes_on, placing_ends}
use Rattle.form_normal.proofs.factors.place_of.Goals as goal

pub returns-then-is_no_higher-clause-place : goal.returns-then-is_no_higher-clause-place
returns-then-is_no_higher-clause-place c =
    placing_ends c.args.calls.now c.loop-last.rest.now c.in-Some.others.now c.in-Some.last.now c.args.call.now c.in-Some.ensures.cases.0 c.loop-last.invariant (sym c.is_no_higher.ensures ∙ c.if-is_no_higher.true)

pub loop-last-preserved : goal.loop-last-preserved
loop-last-preserved c =
    placing_goes_on c.args.calls.now c.loop-last.rest.now c.in-Some.others.now c.in-Some.last.now c.args.call.now c.in-Some.ensures.cases.0 c.loop-last.invariant (sym c.is_no_higher.ensures ∙ c.if-is_no_higher.false) c.in-Some.ensures.cases.1
