use Rattle.std.proofs.Common.{◌≡◌, ◌-◌, ◌<◌, ◌∷◌, [], ◌++◌, false, length, get_or, nat_abs, ap, sym, ◌∙◌}
use Rattle.std.specs.List.{list_any}
use Rattle.form_term.specs.Term.{IsTerm}
use Rattle.form_term.specs.Terms.{term}
use Rattle.form_normal.specs.Product.{is_fixed}
use Rattle.form_normal.proofs.Lasting.{reach_of_last, pushed_is_term, on_less, present}
use Rattle.form_normal.proofs.factors.goes_last.Goals as goal

pub returns-in-len1-up : goal.returns-in-len1-up
returns-in-len1-up c =
    let t = c.args.front.now in
    let ps = t.symbols in
    let last = c.last-item.result in
    let none_fixed : list_any is_fixed t.others.deltas ≡ false = ap (list_any is_fixed) (sym c.deltas.ensures) ∙ sym c.has_fixed.ensures ∙ c.if-has_fixed.false in
    let there : 0 < nat_abs c.args.power.exponent = present c.args.power.exponent c.if-power-eq0.false in
    let some : 0 < length ps = rw c.powers.ensures.powers at c.in-len1-up.len_at_least in
    let is : last ≡ get_or ps (length ps - 1) last = rw c.powers.ensures.powers at c.last-item.is in
    on_less c.lt.result last.symbol c.args.power.symbol (IsTerm (term (ps ++ c.args.power ∷ []) t.others) × (0 < nat_abs c.args.power.exponent) × (list_any is_fixed t.others.deltas ≡ false)) c.lt.ensures
    (λ below. let behind = reach_of_last 0 c.args.power.symbol ps last c.powers.ensures.lawful.rising some is below in
    (pushed_is_term t c.args.power c.powers.ensures.lawful behind there (rw c.size.ensures at c.if-size-ge-LARGEST_SIZE.false) c.requires, there, none_fixed))
