use Rattle.form_module.proofs.result.add.Goals as goal

pub returns : goal.returns
returns c = rw c.outputs.ensures at c.add_all.ensures
