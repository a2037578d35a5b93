use Rattle.form_pattern.proofs.LawfulElements.{names-lawful}
use Rattle.form_pattern.proofs.sets.name_elements.Goals as goal

pub returns-clause-lawful : goal.returns-clause-lawful
returns-clause-lawful c = rw c.in_ok-from_vec.ensures (names-lawful c.args.names.now c.args.list.now c.in_ok-ids.ids.items c.in_ok-ids.ensures)
