use Rattle.form_levels.proofs.outputs.joined_outputs.Goals as goal

pub returns : goal.returns
returns c = c.outputs_of.ensures c.args.inputs.now (rw c.in-Some.is at c.in_ok-terms.ensures.stand)
