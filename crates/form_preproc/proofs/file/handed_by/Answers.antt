use Rattle.form_preproc.proofs.Asking.{all_handed}
use Rattle.form_preproc.proofs.file.handed_by.Goals as goal

pub returns-clause-plain : goal.returns-clause-plain
returns-clause-plain c = all_handed c.args.machine.handed c.requires
