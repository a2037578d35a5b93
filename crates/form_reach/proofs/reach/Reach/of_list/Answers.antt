use Rattle.std.proofs.Common.{◌≡◌, ◌+◌, [], ◌∷◌, ◌++◌, take, get_or, length, ◌<◌, rules, ap, ◌∙◌}
use Rattle.std.proofs.lemmas.Grind.{take_at_read}
use Rattle.form_term.specs.declared.monomial.Monomial.{Monomial}
use Rattle.form_reach.specs.Reach.{IsWithin}
use Rattle.form_reach.proofs.Reaching.{list_more}
use Rattle.form_reach.proofs.reach.Reach.of_list.Goals as goal

pub loop-item-preserved : goal.loop-item-preserved
loop-item-preserved c =
    let old = c.loop-item.all in
    let new = c.in_ok-all.all in
    let list = c.args.list.now in
    let n = c.loop-item.item-index in
    let item = c.item-item.result in
    let wide : (m : Monomial) → (IsWithin old m → IsWithin new m) × (IsWithin c.in_ok-of_item.field-0 m → IsWithin new m) = search rules in
    let here : IsWithin c.in_ok-of_item.field-0 item = search rules in
    let got : get_or list n item ≡ item = search rules in
    let below : n < length list = search rules in
    let more : take (n + 1) list ≡ take n list ++ item ∷ [] = (take_at_read list n item below).1 ∙ ap (λ (m : Monomial). take n list ++ m ∷ []) got in
    list_more old new (take n list) (take (n + 1) list) item more (λ m. (wide m).0) ((wide item).1 here) c.loop-item.invariant
