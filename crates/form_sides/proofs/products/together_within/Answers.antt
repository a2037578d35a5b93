use Rattle.form_sides.specs.Products.{HaveWithin}
use Rattle.form_sides.proofs.Pairing.{if_within, stand_within}
use Rattle.form_sides.proofs.products.together_within.Goals as goal

pub returns-in-Some : goal.returns-in-Some
returns-in-Some c =
    let max = c.args.limit in
    let all = c.in-Some.all.items in
    if_within c.within-in-Some.result all max (HaveWithin max c.args.terms.items) c.within-in-Some.ensures.same c.within-in-Some.ensures.few
    (stand_within max c.args.terms.items all (rw c.in-Some.is at c.in_ok-all.ensures.stand))

pub returns-then-products-lt2 : goal.returns-then-products-lt2
returns-then-products-lt2 c =
    let max = c.args.limit in
    let items = c.args.terms.items in
    if_within c.within.result items max (HaveWithin max items) c.within.ensures.same c.within.ensures.few (stand_within max items items (λ n lists h. h))
