use Rattle.std.proofs.Common.{sym, ◌∙◌}
use Rattle.form_frac.specs.Fraction.{add}
use Rattle.form_collect.proofs.ShortLists.{alike, some_from, two_added}
use Rattle.form_collect.proofs.short.sum_of.Goals as goal

pub returns : goal.returns
returns c =
    let one = c.args.one.now in
    let two = c.args.two.now in
    two_added one two c.in-Ok.sum (sym c.compare.ensures.order ∙ alike c.compare.result c.if-ne.ensures)
    (some_from (add one.coefficient two.coefficient) _ c.in-Ok.sum c.in-Ok.ensures) (sym c.is_zero.ensures ∙ c.if-is_zero.false)
