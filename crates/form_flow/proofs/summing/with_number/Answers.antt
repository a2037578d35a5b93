use Rattle.std.proofs.Common.{◌≡◌, ap, sym, ◌∙◌}
use Rattle.form_expand.specs.Listing.{single}
use Rattle.form_flow.proofs.Unrenamed.{number_same}
use Rattle.form_flow.proofs.summing.with_number.Goals as goal

pub returns-then-stays : goal.returns-then-stays
returns-then-stays c =
    let copy = c.in_ok-clone.ensures.cases in
    let same : c.in_ok-clone.field-0 ≡ c.args.item.now = λ i. record { coefficient = copy.0 i; term = copy.1 i } in
    number_same c.args.index c.args.value c.args.item.now c.laws.ensures.lowest c.laws.ensures.lawful (sym c.stays.ensures ∙ c.if-stays.true) ∙ ap single (sym same)
