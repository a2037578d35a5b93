use Rattle.std.proofs.Common.{List, sym, ap, ◌∙◌}
use Rattle.std.proofs.lemmas.List.{nil_from_length}
use Rattle.std.proofs.lemmas.Result.{err_from_is_err_and}
use Rattle.form_term.specs.declared.monomial.Monomial.{Monomial}
use Rattle.form_expand.specs.Walks.{all_of}
use Rattle.form_flow.specs.Multiplying.{multiplied_by, product_from}
use Rattle.form_flow.specs.Sources.{products_left}
use Rattle.form_flow.proofs.Multiplied.{side_nothing, terms_step, unmade, was_made, was_zero}
use Rattle.form_flow.proofs.effect.Times.next.Goals as goal

pub returns-in_err-made : goal.returns-in_err-made
returns-in_err-made c =
    let t = c.loop-term.self in
    let p = err_from_is_err_and c.from_residual.result c.from_residual.ensures.1 in
    rw (p.1, p.2)
    (unmade (product_from t.side t.item c.in-Some.term.now) (c.in_err-made.field-0.0) (products_left c.args.self.now) (multiplied_by t.side (all_of c.in-Some.rest.now) t.item) (products_left t)
    (sym c.loop-term.invariant ∙ terms_step t.side t.item c.in-Some.term.now t.list.now c.in-Some.rest.now c.in-Some.ensures.cases.0) c.in_err-made.ensures)

pub returns-in-Some-made : goal.returns-in-Some-made
returns-in-Some-made c =
    let t = c.loop-term.self in
    was_made (product_from t.side t.item c.in-Some.term.now) c.in-Some-made.made (products_left c.args.self.now) (multiplied_by t.side (all_of c.in-Some.rest.now) t.item)
    (sym c.loop-term.invariant ∙ terms_step t.side t.item c.in-Some.term.now t.list.now c.in-Some.rest.now c.in-Some.ensures.cases.0) (rw c.in-Some-made.is at c.in_ok-made.ensures)

pub loop-term-preserved : goal.loop-term-preserved
loop-term-preserved c =
    let t = c.loop-term.self in
    sym (was_zero (product_from t.side t.item c.in-Some.term.now) (products_left t) (multiplied_by t.side (all_of c.in-Some.rest.now) t.item)
    (terms_step t.side t.item c.in-Some.term.now t.list.now c.in-Some.rest.now c.in-Some.ensures.cases.0) (rw c.in_default-made.is at c.in_ok-made.ensures))
    ∙ c.loop-term.invariant

pub returns : goal.returns
returns c =
    let t = c.loop-term.self in
    sym c.loop-term.invariant
    ∙ ap (λ (ts : List Monomial). multiplied_by t.side (all_of ts) t.item) (nil_from_length t.list.now c.in_default.ensures.cases)
    ∙ side_nothing t.side t.item
