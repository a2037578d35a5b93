use Rattle.std.proofs.Common.{true, false, not, sym, ap, ◌∙◌, arith}
use Rattle.form_match.specs.Taken.{takes_thing}
use Rattle.form_match.proofs.Wholly.{untaken_here, untaken_done}
use Rattle.form_match.proofs.whole.are_left.Goals as goal

pub returns-else-is_taken : goal.returns-else-is_taken
returns-else-is_taken g c =
    sym (ap not (c.loop-one.invariant.same ∙ untaken_here (takes_thing c.args.of) c.args.takes.now c.args.list.now c.loop-one.place c.loop-one._one-index false c.loop-one-test.true c.if-is_taken.ensures))

pub loop-one-preserved : goal.loop-one-preserved
loop-one-preserved g c = record {
  at = omega (arith, c.loop-one.invariant.at);
  same = c.loop-one.invariant.same ∙ untaken_here (takes_thing c.args.of) c.args.takes.now c.args.list.now c.loop-one.place c.loop-one._one-index true c.loop-one-test.true c.if-is_taken.ensures;
}

pub returns : goal.returns
returns g c = sym (ap not (c.loop-one.invariant.same ∙ untaken_done (takes_thing c.args.of) c.args.takes.now c.args.list.now c.loop-one.place c.loop-one._one-index c.loop-one-test.false))
