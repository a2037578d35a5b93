use Rattle.std.proofs.Common.{◌≡◌, ◌<◌, ◌++◌, List, [], ◌∷◌, ap, ◌∙◌, rules}
use Rattle.std.specs.Prelude.{nat_abs}
use Rattle.std.specs.Int.{w32}
use Rattle.std.proofs.lemmas.Int.{to_z-of_z}
use Rattle.form_term.specs.declared.power.Power.{Power}
use Rattle.form_term.specs.TermLaws.{power_lawful}
use Rattle.form_term.proofs.term.Term.symbol.Goals as goal

pub from_powers-requires : goal.from_powers-requires
from_powers-requires c =
    let p : Power = record { symbol = c.args.symbol; exponent = c.args.exponent } in
    let items : c.push.new.self.items ≡ p ∷ [] = (rw (to_z-of_z w32 c.args.exponent c.ranges.exponent) at c.in_ok-push.ensures.items) ∙ ap (λ (ps : List Power). ps ++ p ∷ []) c.new-powers.ensures.items in
    let there : 0 < nat_abs c.args.exponent = search rules in
    rw items (power_lawful p there c.requires)
