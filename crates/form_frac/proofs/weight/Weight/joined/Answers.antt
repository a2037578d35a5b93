use Rattle.std.proofs.Common.{◌≡◌, Some, None, sym, ◌∙◌, ap₂, ℕ, ◌+◌, ◌*◌, ◌/◌, le-add_left, le-add_right, le_refl, subst, ◌<◌}
use Rattle.form_frac.proofs.Fractions.{gcd_some}
use Rattle.form_frac.specs.Weight.{Weight, join}
use Rattle.form_frac.proofs.Ranges.{checked, none_by_denominator, none_by_size, found_both, of_found, worked_out, join_by, found_weight, found_size, multiple_some}
use Rattle.form_frac.proofs.weight.Weight.joined.Goals as goal

pub nonzero_div-left_factor : goal.nonzero_div-left_factor
nonzero_div-left_factor c = subst (λ (x : ℕ). 0 < x) (sym c.gcd-divisor.ensures.value) (gcd_some c.self.inside.denominator c.other.inside.denominator c.other.invariant.is_over_some)

pub nonzero_div-right_factor : goal.nonzero_div-right_factor
nonzero_div-right_factor c = subst (λ (x : ℕ). 0 < x) (sym c.gcd-divisor.ensures.value) (gcd_some c.self.inside.denominator c.other.inside.denominator c.other.invariant.is_over_some)

pub returns-in_err-denominator : goal.returns-in_err-denominator
returns-in_err-denominator c =
    let a : Weight = record { denominator = c.self.inside.denominator; size = c.self.inside.size } in
    let b : Weight = record { denominator = c.other.inside.denominator; size = c.other.inside.size } in
    let joined = sym (ap₂ join c.self.view_is c.other.view_is) ∙ join_by c.gcd-divisor.result a b c.gcd-divisor.ensures.value c.self.invariant c.other.invariant in
    c.from_residual.ensures ∙ sym (joined ∙ none_by_denominator (worked_out c.gcd-divisor.result a b) (sym c.in_err-denominator.was ∙ c.product_size.ensures))

pub returns-in_err-left : goal.returns-in_err-left
returns-in_err-left c =
    let g = c.gcd-divisor.result in
    let a : Weight = record { denominator = c.self.inside.denominator; size = c.self.inside.size } in
    let b : Weight = record { denominator = c.other.inside.denominator; size = c.other.inside.size } in
    let joined = sym (ap₂ join c.self.view_is c.other.view_is) ∙ join_by g a b c.gcd-divisor.ensures.value c.self.invariant c.other.invariant in
    c.from_residual-in_err-left.ensures
    ∙ sym (joined ∙ none_by_size (worked_out g a b) (a.size * (b.denominator / g)) (le-add_right (a.size * (b.denominator / g)) (b.size * (a.denominator / g))) (sym c.in_err-left.was ∙ c.product_size-2.ensures))

pub returns-in_err-right : goal.returns-in_err-right
returns-in_err-right c =
    let g = c.gcd-divisor.result in
    let a : Weight = record { denominator = c.self.inside.denominator; size = c.self.inside.size } in
    let b : Weight = record { denominator = c.other.inside.denominator; size = c.other.inside.size } in
    let joined = sym (ap₂ join c.self.view_is c.other.view_is) ∙ join_by g a b c.gcd-divisor.ensures.value c.self.invariant c.other.invariant in
    c.from_residual-in_err-right.ensures
    ∙ sym (joined ∙ none_by_size (worked_out g a b) (b.size * (a.denominator / g)) (le-add_left (b.size * (a.denominator / g)) (a.size * (b.denominator / g))) (sym c.in_err-right.was ∙ c.product_size-3.ensures))

pub returns-in_err-size : goal.returns-in_err-size
returns-in_err-size c =
    let g = c.gcd-divisor.result in
    let a : Weight = record { denominator = c.self.inside.denominator; size = c.self.inside.size } in
    let b : Weight = record { denominator = c.other.inside.denominator; size = c.other.inside.size } in
    let joined = sym (ap₂ join c.self.view_is c.other.view_is) ∙ join_by g a b c.gcd-divisor.ensures.value c.self.invariant c.other.invariant in
    let total : None ≡ checked (a.size * (b.denominator / g) + b.size * (a.denominator / g)) =
    of_found (a.size * (b.denominator / g)) (b.size * (a.denominator / g)) c.in_ok-left.left c.in_ok-right.right None
    (sym c.in_ok-left.was ∙ c.product_size-2.ensures) (sym c.in_ok-right.was ∙ c.product_size-3.ensures) (sym c.in_err-size.was ∙ c.sum_size.ensures) in
    c.from_residual-in_err-size.ensures
    ∙ sym (joined ∙ none_by_size (worked_out g a b) (a.size * (b.denominator / g) + b.size * (a.denominator / g)) (le_refl (a.size * (b.denominator / g) + b.size * (a.denominator / g))) total)

pub invariant_of-result : goal.invariant_of-result
invariant_of-result c =
    let g = c.gcd-divisor.result in
    let a : Weight = record { denominator = c.self.inside.denominator; size = c.self.inside.size } in
    let b : Weight = record { denominator = c.other.inside.denominator; size = c.other.inside.size } in
    let below = found_weight g a b c.in_ok-denominator.denominator
    (multiple_some a.denominator b.denominator g c.gcd-divisor.ensures.value c.self.invariant.is_over_some c.other.invariant.is_over_some)
    (sym c.in_ok-denominator.was ∙ c.product_size.ensures) in
    record { is_over_some = below.0; is_small_below = below.1; is_small_above = found_size (c.in_ok-left.left + c.in_ok-right.right) c.in_ok-size.size (sym c.in_ok-size.was ∙ c.sum_size.ensures) }

pub returns : goal.returns
returns c =
    let g = c.gcd-divisor.result in
    let a : Weight = record { denominator = c.self.inside.denominator; size = c.self.inside.size } in
    let b : Weight = record { denominator = c.other.inside.denominator; size = c.other.inside.size } in
    let joined = sym (ap₂ join c.self.view_is c.other.view_is) ∙ join_by g a b c.gcd-divisor.ensures.value c.self.invariant c.other.invariant in
    let total : Some c.in_ok-size.size ≡ checked (a.size * (b.denominator / g) + b.size * (a.denominator / g)) =
    of_found (a.size * (b.denominator / g)) (b.size * (a.denominator / g)) c.in_ok-left.left c.in_ok-right.right (Some c.in_ok-size.size)
    (sym c.in_ok-left.was ∙ c.product_size-2.ensures) (sym c.in_ok-right.was ∙ c.product_size-3.ensures) (sym c.in_ok-size.was ∙ c.sum_size.ensures) in
    found_both (worked_out g a b) c.in_ok-denominator.denominator c.in_ok-size.size (sym c.in_ok-denominator.was ∙ c.product_size.ensures) total ∙ sym joined
