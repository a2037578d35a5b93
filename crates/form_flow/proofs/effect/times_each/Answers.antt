use Rattle.std.proofs.Common.{◌≡◌, List, [], ◌∷◌, ap, ◌∙◌, rules}
use Rattle.std.proofs.lemmas.List.{nil_from_length}
use Rattle.form_term.specs.declared.monomial.Monomial.{Monomial}
use Rattle.form_expand.specs.Walks.{all_of}
use Rattle.form_flow.specs.Multiplying.{multiplied_by}
use Rattle.form_flow.specs.Outcome.{made}
use Rattle.form_flow.specs.Sources.{listed}
use Rattle.form_flow.proofs.Multiplied.{one_product, side_nothing}
use Rattle.form_flow.proofs.effect.times_each.Goals as goal

pub returns-in_default : goal.returns-in_default
returns-in_default c =
    let none : c.args.list.now ≡ [] = nil_from_length c.args.list.now c.in_default.ensures.cases in
    ap made (ap (λ (ts : List Monomial). multiplied_by c.args.side (all_of ts) c.args.item) none ∙ side_nothing c.args.side c.args.item)

pub returns-then-is_empty : goal.returns-then-is_empty
returns-then-is_empty c =
    let m = c.args.item in
    let list = c.args.list.now in
    let rest : c.in-Some.rest.now ≡ [] = nil_from_length c.in-Some.rest.now (search rules) in
    let only : list ≡ c.in-Some.term.now ∷ [] = c.in-Some.ensures.cases.0 ∙ ap (λ ts. c.in-Some.term.now ∷ ts) rest in
    c.effect_of_product.ensures (multiplied_by c.args.side (all_of list) m) (one_product c.args.side m c.in-Some.term.now list c.times_one.result only c.times_one.ensures)

pub returns : goal.returns
unfolding listed
returns c = search rules
