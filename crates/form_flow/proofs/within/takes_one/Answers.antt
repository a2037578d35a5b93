use Rattle.std.proofs.Common.{true, false, length, length-append, ap, sym, ◌∙◌, arith}
use Rattle.form_flow.proofs.Firsts.{rest_shorter}
use Rattle.form_flow.proofs.Untaken.{end_taken, first_taken}
use Rattle.form_flow.proofs.within.takes_one.Goals as goal

pub returns-then-takes_sum : goal.returns-then-takes_sum
returns-then-takes_sum c =
    sym (first_taken c.args.functions.now c.args.function c.loop-part.number c.loop-part.rest.now c.in-Some.part.now c.in-Some.behind.now c.in-Some.ensures c.is_picked.result c.takes_sum.result true c.is_picked.ensures c.takes_sum.ensures c.if-takes_sum.true)
    ∙ c.loop-part.invariant.same

pub overflow_add-number : goal.overflow_add-number
overflow_add-number c = omega (arith, c.loop-part.invariant.number)

pub loop-part-smaller : goal.loop-part-smaller
loop-part-smaller c = rest_shorter c.loop-part.rest.now c.in-Some.part.now c.in-Some.behind.now c.in-Some.ensures

pub loop-part-preserved : goal.loop-part-preserved
loop-part-preserved c =
    let h = c.in-Some.ensures in
    record {
      same =
          sym (first_taken c.args.functions.now c.args.function c.loop-part.number c.loop-part.rest.now c.in-Some.part.now c.in-Some.behind.now h c.is_picked.result c.takes_sum.result false c.is_picked.ensures c.takes_sum.ensures c.if-takes_sum.false)
          ∙ c.loop-part.invariant.same;
      lawful = h.behind_lawful;
      number = omega (arith, c.loop-part.invariant.number, h.some, length-append c.in-Some.part.now c.in-Some.behind.now, ap length h.parts);
    }

pub returns : goal.returns
returns c =
    sym (end_taken c.args.functions.now c.args.function c.loop-part.number c.loop-part.rest.now c.in_default.ensures) ∙ c.loop-part.invariant.same
