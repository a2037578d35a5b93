use Rattle.form_module.specs.Sets.{has, is_held}
use Rattle.form_module.proofs.Added.{any_more}
use Rattle.form_module.proofs.expression_set.held.Goals as goal

pub loop-statement-preserved : goal.loop-statement-preserved
loop-statement-preserved c = λ e.
    any_more (is_held e) c.args.statements.now c.loop-statement.statement-index c.statement-item.result (has c.loop-statement.set e) (has c.add_held.new.self e)
    c.loop-statement-test.true c.statement-item.is (c.loop-statement.invariant e) (c.in_ok-add_held.ensures e)
