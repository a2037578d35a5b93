use Rattle.form_module.specs.Printed.{is_print}
use Rattle.form_module.specs.Sets.{has}
use Rattle.form_module.proofs.Added.{any_more}
use Rattle.form_module.proofs.expression_set.printed.Goals as goal

pub loop-statement-preserved : goal.loop-statement-preserved
loop-statement-preserved c = λ e.
    any_more (is_print e) c.statements-statement-items.result.now c.loop-statement.statement-index c.statement-item.result (has c.loop-statement.set e) (has c.add_printed.new.self e)
    c.loop-statement-test.true c.statement-item.is (c.loop-statement.invariant e) (c.in_ok-add_printed.ensures e)
