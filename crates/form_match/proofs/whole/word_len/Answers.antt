use Rattle.form_match.proofs.Wholly.{shorter_step, shorter_end}
use Rattle.form_match.proofs.whole.word_len.Goals as goal

pub loop-one-preserved : goal.loop-one-preserved
loop-one-preserved c =
    shorter_step c.args.takes.now c.args.length c.loop-one.left c.loop-one.one-index c.one-item.result c.shortened-left.result c.loop-one-test.true c.one-item.is c.shortened-left.ensures c.loop-one.invariant

pub returns : goal.returns
returns c = shorter_end c.args.takes.now c.args.length c.loop-one.left c.loop-one.one-index c.loop-one-test.false c.loop-one.invariant
