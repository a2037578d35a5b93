use Rattle.std.proofs.Common.{◌≡◌, Err, List, map, ap, sym, ◌∙◌}
use Rattle.std.proofs.lemmas.List.Elements.{All-from_recursion}
use Rattle.form_term.specs.declared.power.DotPower.{DotPower}
use Rattle.form_normal.specs.declared.products.ProductError.TheVariants.{Refused}
use Rattle.form_normal.specs.Lists.{dots_product}
use Rattle.form_normal.specs.Product.{are_in_range, are_dots_in_range}
use Rattle.form_normal.specs.Several.{paired_in, unpaired}
use Rattle.form_normal.proofs.Dots.{IsThere}
use Rattle.form_normal.proofs.Parts.{handed_on}
use Rattle.form_normal.proofs.Together.{terms_of, paired_there, unpaired_product, unpaired_range}
use Rattle.form_normal.proofs.several.powers_of_all.Goals as goal

pub summed_dots-requires : goal.summed_dots-requires
summed_dots-requires c =
    let ts = terms_of c.args.factors.now in
    rw c.in_ok-pairs.ensures.pairs (All-from_recursion IsThere (paired_in ts) (paired_there ts c.in_ok-pairs.ensures.lawful))

pub returns-in_err-sums-clause-refused : goal.returns-in_err-sums-clause-refused
returns-in_err-sums-clause-refused c = λ cause e.
    let ts = terms_of c.args.factors.now in
    let refused = handed_on c.from_residual-in_err-sums.result c.in_err-sums.field-0.0 (Refused cause) c.from_residual-in_err-sums.ensures.1 e in
    let past = c.in_err-sums.ensures.refused cause (ap Err refused) in
    let sums = dots_product (paired_in ts) in
    (past.0, ap are_in_range (sym (unpaired_product ts c.in_ok-pairs.ensures.lawful)) ∙ unpaired_range sums ∙ ap (λ (ds : List DotPower). are_dots_in_range (dots_product ds)) (sym c.in_ok-pairs.ensures.pairs) ∙ past.1)

pub returns-clause-ok : goal.returns-clause-ok
returns-clause-ok c =
    let ts = terms_of c.args.factors.now in
    let sums = c.in_ok-sums.sums.items in
    let read : c.in_ok-unpaired.field-0.items ≡ map unpaired sums = c.in_ok-unpaired.ensures ∙ ap (map unpaired) c.deref.ensures.value in
    let is : sums ≡ dots_product (paired_in ts) = c.in_ok-sums.ensures.ok.0 ∙ ap dots_product c.in_ok-pairs.ensures.pairs in
    (read ∙ ap (map unpaired) is ∙ unpaired_product ts c.in_ok-pairs.ensures.lawful, ap are_in_range read ∙ unpaired_range sums ∙ c.in_ok-sums.ensures.ok.1)
