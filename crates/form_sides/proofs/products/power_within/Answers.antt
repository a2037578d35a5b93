use Rattle.form_sides.proofs.Pairing.{first_power}
use Rattle.form_sides.proofs.products.power_within.Goals as goal

pub returns-in-1 : goal.returns-in-1
returns-in-1 c =
    let same = c.in-Some.ensures.same in
    rw c.in-1.is (first_power c.args.limit c.args.list.items c.in-Some.list.items same (rw same at c.in-Some.ensures.few))
