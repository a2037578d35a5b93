use Rattle.std.proofs.Common.{sym, ◌∙◌, ap₂, ◌*◌, le_refl}
use Rattle.form_frac.specs.Weight.{Weight, times}
use Rattle.form_frac.proofs.Paired.{crossed}
use Rattle.form_frac.proofs.Ranges.{none_by_denominator, none_by_size, found_both, times_is}
use Rattle.form_frac.proofs.weight.Weight.multiplied.Goals as goal

pub returns-in_err-denominator : goal.returns-in_err-denominator
returns-in_err-denominator c =
    let a : Weight = record { denominator = c.self.inside.denominator; size = c.self.inside.size } in
    let b : Weight = record { denominator = c.other.inside.denominator; size = c.other.inside.size } in
    let made = sym (ap₂ times c.self.view_is c.other.view_is) ∙ times_is a b in
    c.from_residual.ensures ∙ sym (made ∙ none_by_denominator (crossed a b) (sym c.in_err-denominator.was ∙ c.product_size.ensures))

pub returns-in_err-size : goal.returns-in_err-size
returns-in_err-size c =
    let a : Weight = record { denominator = c.self.inside.denominator; size = c.self.inside.size } in
    let b : Weight = record { denominator = c.other.inside.denominator; size = c.other.inside.size } in
    let made = sym (ap₂ times c.self.view_is c.other.view_is) ∙ times_is a b in
    c.from_residual-in_err-size.ensures ∙ sym (made ∙ none_by_size (crossed a b) (a.size * b.size) (le_refl (a.size * b.size)) (sym c.in_err-size.was ∙ c.product_size-2.ensures))

pub returns : goal.returns
returns c =
    let a : Weight = record { denominator = c.self.inside.denominator; size = c.self.inside.size } in
    let b : Weight = record { denominator = c.other.inside.denominator; size = c.other.inside.size } in
    let made = sym (ap₂ times c.self.view_is c.other.view_is) ∙ times_is a b in
    found_both (crossed a b) c.in_ok-denominator.denominator c.in_ok-size.size (sym c.in_ok-denominator.was ∙ c.product_size.ensures) (sym c.in_ok-size.was ∙ c.product_size-2.ensures) ∙ sym made
