use Rattle.std.proofs.Common.{rules, to_z-of_z, SFits, sym, ◌∙◌}
use Rattle.std.specs.Int.{w128}
use Rattle.form_frac.proofs.Fractions.{compared_positive, compared_negative, compared_above, compared_below}
use Rattle.form_frac.proofs.frac.Frac.cmp.Goals as goal

pub returns-in-true-true : goal.returns-in-true-true
returns-in-true-true c =
    let left : SFits w128 c.numerator.result = search rules in
    let right : SFits w128 c.numerator-2.result = search rules in
    let p = simp to_z-of_z at c.in-true-true.is-0 in
    let q = simp to_z-of_z at c.in-true-true.is-1 in
    c.cmp_sizes.ensures ∙ sym (compared_negative c.args.self c.args.other _ _ c.numerator.ensures.value c.numerator-2.ensures.value p q)

pub returns-in-true-false : goal.returns-in-true-false
returns-in-true-false c =
    let left : SFits w128 c.numerator.result = search rules in
    let right : SFits w128 c.numerator-2.result = search rules in
    let p = simp to_z-of_z at c.in-true-false.is-0 in
    let q = simp to_z-of_z at c.in-true-false.is-1 in
    sym (compared_below c.args.self c.args.other _ _ c.numerator.ensures.value c.numerator-2.ensures.value p q c.numerator-2.ensures.lowest)

pub returns-in-false-true : goal.returns-in-false-true
returns-in-false-true c =
    let left : SFits w128 c.numerator.result = search rules in
    let right : SFits w128 c.numerator-2.result = search rules in
    let p = simp to_z-of_z at c.in-false-true.is-0 in
    let q = simp to_z-of_z at c.in-false-true.is-1 in
    sym (compared_above c.args.self c.args.other _ _ c.numerator.ensures.value c.numerator-2.ensures.value p q c.numerator.ensures.lowest)

pub returns-in-false-false : goal.returns-in-false-false
returns-in-false-false c =
    let left : SFits w128 c.numerator.result = search rules in
    let right : SFits w128 c.numerator-2.result = search rules in
    let p = simp to_z-of_z at c.in-false-false.is-0 in
    let q = simp to_z-of_z at c.in-false-false.is-1 in
    c.cmp_sizes-in-false-false.ensures ∙ sym (compared_positive c.args.self c.args.other _ _ c.numerator.ensures.value c.numerator-2.ensures.value p q)
