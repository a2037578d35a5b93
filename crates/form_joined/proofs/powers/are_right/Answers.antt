use Rattle.std.proofs.Common.{◌≡◌, ◌+◌, [], ◌∷◌, ◌++◌, take, get_or, length, ◌<◌, rules, ap, ◌∙◌, sym, subst}
use Rattle.std.specs.List.{AllByRecursion}
use Rattle.form_normal.proofs.Order.{all_append}
use Rattle.std.proofs.lemmas.Grind.{take_at_read}
use Rattle.form_term.specs.declared.monomial.Monomial.{Monomial}
use Rattle.form_reach.specs.Rows.{IsRight}
use Rattle.form_joined.proofs.powers.are_right.Goals as goal

pub loop-item-preserved : goal.loop-item-preserved
loop-item-preserved c =
    let list = c.args.list.now in
    let n = c.loop-item.item-index in
    let item = c.item-item.result in
    let here : IsRight item = search rules in
    let got : get_or list n item ≡ item = search rules in
    let below : n < length list = search rules in
    let more : take (n + 1) list ≡ take n list ++ item ∷ [] = (take_at_read list n item below).1 ∙ ap (λ (m : Monomial). take n list ++ m ∷ []) got in
    subst (AllByRecursion IsRight) (sym more) (all_append IsRight (take n list) (item ∷ []) c.loop-item.invariant (here, tt))
