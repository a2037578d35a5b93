use Rattle.form_module.proofs.Settling.{own}
use Rattle.form_module.proofs.settled.are_own.Goals as goal

pub returns-in-None : goal.returns-in-None
returns-in-None c = own c.args.place c.args.most c.args.terms.now c.are_settled.result c.in-None.is c.are_settled.ensures
