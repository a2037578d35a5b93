use Rattle.std.proofs.Common.{◌≡◌, Ok, subst}
use Rattle.std.proofs.lemmas.Result.{err_from_is_err_and}
use Rattle.form_expand.specs.Listing.{Listing}
use Rattle.form_module.specs.Answers.{Gives, IsRefused}
use Rattle.form_module.specs.Module.{result_of}
use Rattle.form_module.proofs.module.carried.Goals as goal

pub returns-in_err-side : goal.returns-in_err-side
returns-in_err-side c =
    let p = err_from_is_err_and c.from_residual.result c.from_residual.ensures.1 in λ tree is. rw (p.1, p.2) (c.in_err-side.ensures c.args.expression tree is)

pub returns-in-Some : goal.returns-in-Some
returns-in-Some c = λ tree is. let given = c.in_ok-side.ensures c.args.expression tree is in rw c.in-Some.is at given

pub returns-in_err-terms : goal.returns-in_err-terms
returns-in_err-terms c =
    let p = err_from_is_err_and c.from_residual-in_err-terms.result c.from_residual-in_err-terms.ensures.1 in
    λ tree is. rw (p.1, p.2)
    (subst (λ (l : Listing). IsRefused c.in_err-terms.field-0.0 (result_of c.args.settings.now.max_terms c.args.compiled.now l)) (c.inputs-first.ensures tree is) c.in_err-terms.ensures)

pub returns-in-Some-2 : goal.returns-in-Some-2
returns-in-Some-2 c = λ tree is.
    subst (λ (l : Listing). result_of c.args.settings.now.max_terms c.args.compiled.now l ≡ Ok c.in-Some-2.terms) (c.inputs-first.ensures tree is) (rw c.in-Some-2.is at c.in_ok-terms.ensures)

pub returns : goal.returns
returns c = λ tree is.
    subst (λ (l : Listing). Gives (λ terms. terms) c.result_of.result (result_of c.args.settings.now.max_terms c.args.compiled.now l)) (c.inputs-anew.ensures tree is) c.result_of.ensures
