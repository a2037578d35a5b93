use Rattle.std.proofs.Common.{sym, ◌∙◌, arith}
use Rattle.std.proofs.lemmas.List.{nil_from_length}
use Rattle.form_levels.proofs.Parting.{one_taken, all_parted}
use Rattle.form_levels.proofs.choosing.part.Goals as goal

pub loop-term-preserved-in-Continue-branch-2 : goal.loop-term-preserved-in-Continue-branch-2
loop-term-preserved-in-Continue-branch-2 c =
    one_taken c.args.condition.now c.args.terms.items c.loop-term.taken.items c.loop-term.passed.items c.loop-term.term-iterator.rest.items c.next.new.self.rest.items c.push.new.self.items c.in-Some.term
    c.loop-term.invariant c.in-Some.ensures.steps.0 (sym c.in_ok-is_so.ensures ∙ c.if-branch.true) c.in_ok-push.ensures.items

pub returns : goal.returns
returns c =
    let left = c.loop-term.term-iterator.rest.items in
    all_parted c.args.condition.now c.args.terms.items left (record { taken = c.loop-term.taken; passed = c.loop-term.passed }) c.loop-term.invariant (nil_from_length left (omega (arith, c.in-None.ensures.steps)))
