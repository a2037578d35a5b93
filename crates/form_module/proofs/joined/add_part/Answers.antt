use Rattle.form_module.proofs.Summed.{inputs_put}
use Rattle.form_module.proofs.joined.add_part.Goals as goal

pub returns-in_ok-add_joined-in-Some : goal.returns-in_ok-add_joined-in-Some
returns-in_ok-add_joined-in-Some c =
    inputs_put c.args.statements.now c.args.items.now c.in-Some.outputs.items c.args.table.now c.add_joined.new.table c.in_ok-add_joined-in-Some.field-0
    (rw c.in-Some.is at c.in_ok-outputs.ensures) c.in_ok-add_joined-in-Some.ensures
