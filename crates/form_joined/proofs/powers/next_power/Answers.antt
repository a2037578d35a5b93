use Rattle.std.proofs.Common.{◌≡◌, ◌+◌, Some, rules}
use Rattle.form_gathered.specs.Joined.{Stand}
use Rattle.form_joined.specs.Products.{paired, singles}
use Rattle.form_joined.proofs.Behind.{power_more}
use Rattle.form_joined.proofs.Weighed.{WeightLaws}
use Rattle.form_joined.proofs.powers.next_power.Goals as goal

pub returns : goal.returns
returns c =
    let laws : WeightLaws = record { moved = c.weights.ensures.moved; paired = c.weights.ensures.paired; each = c.weights.ensures.each; negated = c.weights.ensures.negated } in
    let list = c.args.list.now in
    let last = c.args.last.now in
    let products = c.in-Some-2.products.items in
    let all = c.in-Some-3.all.items in
    let made = c.in_ok-factors.factors in
    let product : paired last.factors (singles list) ≡ Some products = search rules in
    let stand : Stand products all = search rules in
    let same : made ≡ all = search rules in
    let further : c.in-Some.further ≡ last.further + 1 = search rules in
    power_more laws last.further c.in-Some.further list last.factors products all made c.requires c.joined_singles.ensures product stand same further
