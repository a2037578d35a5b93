use Rattle.std.proofs.Common.{◌≡◌, [], ◌∷◌, ◌++◌, ap, sym, ◌∙◌, subst}
use Rattle.form_term.specs.Term.{Others, IsTerm}
use Rattle.form_term.specs.FactorLaws.{function_lawful}
use Rattle.form_term.proofs.term.Term.function.Goals as goal

pub from_factors-requires : goal.from_factors-requires
from_factors-requires c =
    let none = c.others.view_is ∙ c.none-others.ensures in
    let made : c.push.new.self.items ≡ c.args.call ∷ [] = c.in_ok-push.ensures.items ∙ ap (λ (o : Others). o.functions ++ c.args.call ∷ []) none in
    subst IsTerm (λ i. record { symbols = sym c.new.ensures.items i; others = record (sym none i) { functions = sym made i } }) (function_lawful c.args.call c.pieces.ensures.lawful c.requires.small c.requires.shallow)
