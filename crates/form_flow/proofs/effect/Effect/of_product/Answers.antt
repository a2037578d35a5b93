use Rattle.std.proofs.Common.{Option, Ok, ap, subst}
use Rattle.form_term.specs.declared.monomial.Monomial.{Monomial}
use Rattle.form_flow.specs.Made.{Makes}
use Rattle.form_flow.specs.Outcome.{made}
use Rattle.form_flow.proofs.effect.Effect.of_product.Goals as goal

pub returns-in-Some : goal.returns-in-Some
returns-in-Some c = λ l h. ap made (subst (λ (o : Option Monomial). Makes (Ok o) l) c.in-Some.is h)

pub returns-in-None : goal.returns-in-None
returns-in-None c = λ l h. ap made (subst (λ (o : Option Monomial). Makes (Ok o) l) c.in-None.is h)
