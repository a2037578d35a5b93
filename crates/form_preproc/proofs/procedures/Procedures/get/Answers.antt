use Rattle.form_preproc.proofs.Stored.{found_procedure}
use Rattle.form_preproc.proofs.procedures.Procedures.get.Goals as goal

pub returns : goal.returns
returns c = found_procedure c.args.self.now c.args.name.now c.in_ok-name.name.now c.get.result c.in_ok-name.ensures.0 c.in_ok-name.ensures.1 c.get.ensures.value
