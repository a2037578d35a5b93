use Rattle.std.proofs.Common.{Option, Result, subst}
use Rattle.form_term.specs.declared.monomial.Monomial.{Monomial}
use Rattle.form_expand.specs.declared.error.ExpandError.{ExpandError}
use Rattle.form_flow.specs.Made.{Makes}
use Rattle.form_flow.proofs.Multiplied.{failed}
use Rattle.form_flow.proofs.effect.effect_of_product.Goals as goal

pub returns-in-Ok : goal.returns-in-Ok
returns-in-Ok c = λ l h. c.of_product.ensures l (subst (λ (r : Result (Option Monomial) ExpandError). Makes r l) c.in-Ok.is h)

pub returns-in-Err : goal.returns-in-Err
returns-in-Err c = λ l h. failed c.in-Err.error l (subst (λ (r : Result (Option Monomial) ExpandError). Makes r l) c.in-Err.is h)
