use Rattle.form_module.proofs.Recordable.{stay_recordable}
use Rattle.form_module.proofs.laws.expressions_stay_recordable.Goals as goal

pub returns : goal.returns
returns c = λ names earlier settings m standing after sound h e. stay_recordable names earlier settings m sound standing after h e
