use Rattle.form_module.proofs.joined.add_item.Goals as goal

pub returns : goal.returns
returns c = rw c.outputs.ensures at c.add_outputs.ensures
