use Rattle.std.proofs.Common.{◌≡◌, map, IfOk, sym, ap, subst, ◌∙◌}
use Rattle.form_term.specs.Term.{Term, IsTerm}
use Rattle.form_expand.specs.Bound.{of_dots, turned_power, turned_dot}
use Rattle.form_expand.proofs.Inverses.{turned_same, turned_lawful}
use Rattle.form_expand.proofs.bound.turned_exponents.Goals as goal

pub from_factors-requires : goal.from_factors-requires
from_factors-requires c =
    let t = c.args.term.now in
    let powers = c.in_ok-powers.ensures ∙ ap (map turned_power) c.powers.ensures.powers in
    let others = c.of_dots.ensures ∙ ap of_dots (c.in_ok-dots.ensures ∙ ap (map turned_dot) c.dots.ensures) in
    let same = ap (λ ps. record { symbols = ps; others = c.of_dots.result }) powers ∙ ap (λ o. record { symbols = map turned_power t.symbols; others = o }) others in
    subst IsTerm (sym same) (turned_lawful t c.requires c.powers.ensures.lawful)

pub returns : goal.returns
returns c =
    let t = c.args.term.now in
    let powers = c.in_ok-powers.ensures ∙ ap (map turned_power) c.powers.ensures.powers in
    let others = c.of_dots.ensures ∙ ap of_dots (c.in_ok-dots.ensures ∙ ap (map turned_dot) c.dots.ensures) in
    let same = ap (λ ps. record { symbols = ps; others = c.of_dots.result }) powers ∙ ap (λ o. record { symbols = map turned_power t.symbols; others = o }) others in
    subst (λ (u : Term). IfOk c.from_factors.result (λ turned. turned ≡ u)) (same ∙ turned_same t c.requires) c.from_factors.ensures
