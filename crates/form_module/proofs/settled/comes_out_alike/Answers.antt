use Rattle.form_module.proofs.Settling.{alike}
use Rattle.form_module.proofs.settled.comes_out_alike.Goals as goal

pub returns-then-is_at_rest : goal.returns-then-is_at_rest
returns-then-is_at_rest c =
    alike c.args.is_at_rest c.args.most c.args.standing.now c.args.expression c.args.place c.terms_of.result.now c.are_own.result c.if-is_at_rest.true c.terms_of.ensures c.are_own.ensures
