use Rattle.std.proofs.Common.{◌≡◌, refl, ap, ◌∙◌, arith}
use Rattle.form_expand.specs.Kept.{listing}
use Rattle.form_expand.specs.Listing.{limited, single}
use Rattle.form_expand.proofs.Filling.{power_none}
use Rattle.form_expand.proofs.Powers.{power_made}
use Rattle.form_expand.proofs.power.short_power.Goals as goal

pub returns-then-power-eq0-clause-list : goal.returns-then-power-eq0-clause-list
returns-then-power-eq0-clause-list c =
    let max = c.args.limit in
    let whole = listing c.args.whole.now in
    ap (limited max) (c.single.ensures ∙ ap single c.unit.ensures) ∙ power_none max whole c.args.power c.if-power-eq0.true

pub returns-clause-list : goal.returns-clause-list
returns-clause-list c =
    let m = c.in-Some.term.now in
    let same = c.in_ok-front.ensures.cases in
    let front : c.in_ok-front.front ≡ m = λ i. record { coefficient = same.0 i; term = same.1 i } in
    power_made c.args.limit c.args.whole.now c.in_ok-front.front m c.times_often.result (listing c.in_ok-made.made) c.args.power (c.if-not-is_alone.ensures.0 refl) c.in-Some.ensures.first.0 front
    (omega (arith, c.if-power-eq0.false)) c.times_often.ensures c.in_ok-made.ensures
