use Rattle.std.proofs.Common.{◌≡◌, [], ◌∷◌, ◌++◌, ap, sym, ◌∙◌, subst}
use Rattle.form_term.specs.Term.{Others, IsTerm}
use Rattle.form_term.specs.FactorLaws.{component_lawful}
use Rattle.form_term.proofs.term.Term.component.Goals as goal

pub from_factors-requires : goal.from_factors-requires
from_factors-requires c =
    let none = c.others.view_is ∙ c.none-others.ensures in
    let made : c.extend_from_slice.new.self.items ≡ c.args.component ∷ [] = c.in_ok-extend_from_slice.ensures.items ∙ ap (λ (o : Others). o.components ++ c.args.component ∷ []) none in
    subst IsTerm (λ i. record { symbols = sym c.new.ensures.items i; others = record (sym none i) { components = sym made i } }) (component_lawful c.args.component)
