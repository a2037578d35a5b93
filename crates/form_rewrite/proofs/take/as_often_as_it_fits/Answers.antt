use Rattle.std.proofs.Common.{◌≡◌, sym, ap, ◌∙◌, arith}
use Rattle.form_rewrite.specs.Taking.{fits_times}
use Rattle.form_rewrite.proofs.take.as_often_as_it_fits.Goals as goal

pub returns-then-times-eq0 : goal.returns-then-times-eq0
returns-then-times-eq0 c = λ some.
    let none : fits_times c.args.term c.args.found.takes ≡ 0 = ap (fits_times c.args.term) (sym c.as_slice.ensures) ∙ sym c.fits_times-times.ensures ∙ c.if-times-eq0.true in
    absurd (omega (arith, some, none))
