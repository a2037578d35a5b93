use Rattle.form_sides.specs.Products.{HavePairs}
use Rattle.form_sides.proofs.Pairing.{if_within, pairs_within}
use Rattle.form_sides.proofs.products.times_within.Goals as goal

pub returns-in-Some : goal.returns-in-Some
returns-in-Some c =
    let max = c.args.limit in
    let all = c.in-Some.all.items in
    if_within c.within.result all max (HavePairs max c.args.fronts.items c.args.list.now) c.within.ensures.same c.within.ensures.few
    (pairs_within c.joined_products.ensures.pairs max c.args.fronts.items c.args.list.now all (rw c.in-Some.is at c.in_ok-all.ensures))
