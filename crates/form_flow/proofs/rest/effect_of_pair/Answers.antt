use Rattle.std.proofs.Common.{ap, subst}
use Rattle.form_expand.specs.Paired.{IsPaired}
use Rattle.form_expand.specs.declared.row.Paired.{Paired}
use Rattle.form_flow.specs.Outcome.{made}
use Rattle.form_flow.proofs.Resting.{of_row}
use Rattle.form_flow.proofs.rest.effect_of_pair.Goals as goal

pub returns-in-One : goal.returns-in-One
returns-in-One c = λ l h. ap made (subst (λ (p : Paired). IsPaired l p) c.in-One.is h)

pub returns-in-Row : goal.returns-in-Row
returns-in-Row c = λ l h. of_row c.in-Row.row l (subst (λ (p : Paired). IsPaired l p) c.in-Row.is h)
