use Rattle.std.proofs.Common.{sym, ◌∙◌, ap, ap₂, ◌+◌, le_refl, refl}
use Rattle.form_frac.specs.Weight.{Weight, join}
use Rattle.form_frac.proofs.Ranges.{none_by_size, found_both, join_whole}
use Rattle.form_frac.proofs.weight.Weight.whole_join.Goals as goal

pub returns-in_err-size : goal.returns-in_err-size
returns-in_err-size c =
    let a : Weight = record { denominator = c.self.inside.denominator; size = c.self.inside.size } in
    let b : Weight = record { denominator = c.other.inside.denominator; size = c.other.inside.size } in
    let left = ap (λ (w : Weight). w.denominator) c.self.view_is ∙ c.requires.left in
    let right = ap (λ (w : Weight). w.denominator) c.other.view_is ∙ c.requires.right in
    let joined = sym (ap₂ join c.self.view_is c.other.view_is) ∙ join_whole a b left right in
    c.from_residual.ensures ∙ sym (joined ∙ none_by_size (record { denominator = 1; size = a.size + b.size }) (a.size + b.size) (le_refl (a.size + b.size)) (sym c.in_err-size.was ∙ c.sum_size.ensures))

pub returns : goal.returns
returns c =
    let a : Weight = record { denominator = c.self.inside.denominator; size = c.self.inside.size } in
    let b : Weight = record { denominator = c.other.inside.denominator; size = c.other.inside.size } in
    let left = ap (λ (w : Weight). w.denominator) c.self.view_is ∙ c.requires.left in
    let right = ap (λ (w : Weight). w.denominator) c.other.view_is ∙ c.requires.right in
    let joined = sym (ap₂ join c.self.view_is c.other.view_is) ∙ join_whole a b left right in
    found_both (record { denominator = 1; size = a.size + b.size }) 1 c.in_ok-size.size refl (sym c.in_ok-size.was ∙ c.sum_size.ensures) ∙ sym joined
