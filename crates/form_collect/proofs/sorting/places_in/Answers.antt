use Rattle.std.proofs.Common.{◌+◌, get_or, set, drop, refl, ap, sym, subst, ◌∙◌, arith, rules}
use Rattle.form_collect.specs.declared.sorting.Keyed.{Keyed}
use Rattle.form_collect.proofs.Standing.{IsStood, none_stood, stood_within, stood_next, stood_end}
use Rattle.form_collect.proofs.sorting.places_in.Goals as goal

pub loop-keyed-init : goal.loop-keyed-init
loop-keyed-init c = (refl, none_stood c.args.keys.now _ (search rules) c.requires.within c.requires.apart)

pub stand_at-requires : goal.stand_at-requires
stand_at-requires c =
    let l = c.loop-keyed in
    let none : Keyed = record { key = 0; tie = 0; place = 0 } in
    stood_within c.args.keys.now l.places.items l.keyed-index l.invariant.1 (get_or c.args.keys.now l.keyed-index none) c.loop-keyed-test.true none refl

pub loop-keyed-preserved : goal.loop-keyed-preserved
loop-keyed-preserved c =
    let l = c.loop-keyed in
    let keys = c.args.keys.now in
    let none : Keyed = record { key = 0; tie = 0; place = 0 } in
    let k = get_or keys l.keyed-index none in (
      omega (arith, l.invariant.0),
      subst (λ ns. IsStood keys ns (drop (l.keyed-index + 1) keys) (l.keyed-index + 1)) (ap (set l.places.items k.place) (sym l.invariant.0) ∙ sym c.stand_at.ensures)
          (stood_next keys l.places.items l.keyed-index l.invariant.1 k c.loop-keyed-test.true none refl),
    )

pub returns-clause-long : goal.returns-clause-long
returns-clause-long c = c.loop-keyed.invariant.1.long

pub returns-clause-stand : goal.returns-clause-stand
returns-clause-stand c =
    let l = c.loop-keyed in
    stood_end c.args.keys.now l.places.items l.keyed-index l.invariant.1 (omega (arith, c.loop-keyed-test.false))
