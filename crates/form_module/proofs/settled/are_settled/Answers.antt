use Rattle.std.proofs.Common.{◌≤◌, length, arith}
use Rattle.form_module.proofs.Carried.{settled}
use Rattle.form_module.proofs.settled.are_settled.Goals as goal

pub returns : goal.returns
returns c =
    let few : length c.args.terms.now ≤ c.args.most = omega (arith, c.if-terms-most.false) in
    settled c.args.most c.args.terms.now c.is_collected.result few c.is_collected.ensures
