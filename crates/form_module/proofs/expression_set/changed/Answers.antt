use Rattle.form_module.specs.Sets.{has, is_change}
use Rattle.form_module.proofs.Added.{any_more}
use Rattle.form_module.proofs.expression_set.changed.Goals as goal

pub loop-statement-preserved : goal.loop-statement-preserved
loop-statement-preserved c = λ e.
    any_more (is_change e) c.args.statements.now c.loop-statement.statement-index c.statement-item.result (has c.loop-statement.set e) (has c.add_changed.new.self e)
    c.loop-statement-test.true c.statement-item.is (c.loop-statement.invariant e) (c.in_ok-add_changed.ensures e)
