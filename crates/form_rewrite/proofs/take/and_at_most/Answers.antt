use Rattle.form_rewrite.specs.Taking.{and_more}
use Rattle.form_rewrite.proofs.Going.{done, ended, one_more}
use Rattle.form_rewrite.proofs.take.and_at_most.Goals as goal

pub returns-in-Done : goal.returns-in-Done
returns-in-Done c = λ fs is.
    done c.args.pattern.now.fixed fs c.args.most c.loop-made._made c.loop-made.taken (and_more c.args.most c.args.pattern.now.fixed fs c.args.taken)
    c.in_ok-all.field-0 c.in-Done.all c.loop-made-test.true c.in-Done.is (c.in_ok-all.ensures fs is) (c.loop-made.invariant fs is)

pub loop-made-preserved : goal.loop-made-preserved
loop-made-preserved c = λ fs is.
    one_more c.args.pattern.now.fixed fs c.args.most c.loop-made._made c.loop-made.taken (and_more c.args.most c.args.pattern.now.fixed fs c.args.taken)
    c.in_ok-all.field-0 c.in-Another.more c.loop-made-test.true c.in-Another.is (c.in_ok-all.ensures fs is) (c.loop-made.invariant fs is)

pub returns : goal.returns
returns c = λ fs is.
    ended c.args.pattern.now.fixed fs c.args.most c.loop-made._made c.loop-made.taken (and_more c.args.most c.args.pattern.now.fixed fs c.args.taken)
    c.loop-made-test.false (c.loop-made.invariant fs is)
