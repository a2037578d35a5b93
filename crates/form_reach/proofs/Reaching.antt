-- How far terms reach.
use Rattle.std.proofs.Common.{◌≡◌, ℕ, ◌+◌, ◌*◌, ◌/◌, ◌≤◌, Bool, true, false, List, [], ◌∷◌, ◌++◌, max, Some, refl, ap, sym, subst, ◌∙◌, arith, le_trans, mul-le-mul, eqb}
use Rattle.std.specs.Prelude.{nat_abs, sum_by, pos}
use Rattle.std.proofs.lemmas.List.Sums.{sum_by-cons}
use Rattle.std.specs.List.{AllByRecursion}
use Rattle.form_normal.proofs.Order.{all_append, all_map}
use Rattle.std.proofs.lemmas.Nat.Gcd.{le_of_dvd}
use Rattle.form_frac.specs.Fraction.{Fraction, lcm}
use Rattle.form_frac.specs.Weight.{Weight, IsWeight, join}
use Rattle.form_frac.proofs.Joined.{join_parts, lcm_some}
use Rattle.form_frac.proofs.Values.{lcm_left, lcm_right}
use Rattle.form_frac.proofs.Within.{quotient_some}
use Rattle.form_term.specs.declared.power.Power.{Power}
use Rattle.form_term.specs.declared.power.DotPower.{DotPower}
use Rattle.form_term.specs.declared.monomial.Monomial.{Monomial}
use Rattle.form_term.specs.Term.{exponent_in}
use Rattle.form_reach.specs.declared.reach.Reach.{Reach}
use Rattle.form_reach.specs.Reach.{IsUnder, IsWithin, degree_of_dots}

-- ---- one term

pub dots_sum : (ds : List DotPower) → degree_of_dots ds ≡ sum_by (λ (d : DotPower). nat_abs d.exponent) ds
dots_sum [] = refl
dots_sum (d ∷ ds) = ap (λ n. nat_abs d.exponent + n) (dots_sum ds) ∙ sym (sum_by-cons (λ (e : DotPower). nat_abs e.exponent) d ds)

pub exponent_under : (ps : List Power) (symbol : ℕ) → nat_abs (exponent_in ps symbol) ≤ sum_by (λ (p : Power). nat_abs p.exponent) ps
exponent_under [] symbol = omega arith
exponent_under (p ∷ ps) symbol = step (eqb p.symbol symbol) refl (sum_by-cons (λ (q : Power). nat_abs q.exponent) p ps) (exponent_under ps symbol)
  where
    step : (b : Bool) → eqb p.symbol symbol ≡ b → sum_by (λ (q : Power). nat_abs q.exponent) (p ∷ ps) ≡ nat_abs p.exponent + sum_by (λ (q : Power). nat_abs q.exponent) ps
        → nat_abs (exponent_in ps symbol) ≤ sum_by (λ (q : Power). nat_abs q.exponent) ps → nat_abs (exponent_in (p ∷ ps) symbol) ≤ sum_by (λ (q : Power). nat_abs q.exponent) (p ∷ ps)
    step true e sum rest = rw e (omega (arith, sum))
    step false e sum rest = rw e (omega (arith, sum, rest))

-- ---- several

under_left : (a b c : Weight) (f : Fraction) → IsWeight a → IsWeight b → join a b ≡ Some c → IsUnder a f → IsUnder c f
under_left a b c f v u e h =
    let parts = join_parts a b c e in
    let some = lcm_some a.denominator b.denominator v.is_over_some u.is_over_some in
    let divides = lcm_left a.denominator b.denominator in
    let same : a.size ≤ a.size = omega arith in
    let once : a.size * 1 ≤ a.size * (lcm a.denominator b.denominator / a.denominator) = mul-le-mul same (quotient_some a.denominator (lcm a.denominator b.denominator) divides some) in
    subst (λ (w : Weight). IsUnder w f) (sym parts.0) (record { lowest = h.lowest; below = le_trans h.below (le_of_dvd some divides); above = omega (arith, h.above, once) })

under_right : (a b c : Weight) (f : Fraction) → IsWeight a → IsWeight b → join a b ≡ Some c → IsUnder b f → IsUnder c f
under_right a b c f v u e h =
    let parts = join_parts a b c e in
    let some = lcm_some a.denominator b.denominator v.is_over_some u.is_over_some in
    let divides = lcm_right a.denominator b.denominator in
    let same : b.size ≤ b.size = omega arith in
    let once : b.size * 1 ≤ b.size * (lcm a.denominator b.denominator / b.denominator) = mul-le-mul same (quotient_some b.denominator (lcm a.denominator b.denominator) divides some) in
    subst (λ (w : Weight). IsUnder w f) (sym parts.0) (record { lowest = h.lowest; below = le_trans h.below (le_of_dvd some divides); above = omega (arith, h.above, once) })

wider : (r t : Reach) (m : Monomial) → r.exponents ≤ t.exponents → r.size ≤ t.size → (IsUnder r.weight m.coefficient → IsUnder t.weight m.coefficient) → IsWithin r m → IsWithin t m
wider r t m exponents size weight h = record {
  lawful = h.lawful;
  symbols = λ symbol. le_trans (h.symbols symbol) exponents;
  dots = le_trans h.dots exponents;
  small = le_trans h.small size;
  coefficient = weight h.coefficient;
}

module _ (r s t : Reach) (v : IsWeight r.weight) (u : IsWeight s.weight) (exponents : t.exponents ≡ max r.exponents s.exponents) (size : t.size ≡ max r.size s.size) (weight : join r.weight s.weight ≡ Some t.weight) (m : Monomial) where
  pub wider_left : IsWithin r m → IsWithin t m
  wider_left = wider r t m (omega (arith, exponents)) (omega (arith, size)) (under_left r.weight s.weight t.weight m.coefficient v u weight)

  pub wider_right : IsWithin s m → IsWithin t m
  wider_right = wider s t m (omega (arith, exponents)) (omega (arith, size)) (under_right r.weight s.weight t.weight m.coefficient v u weight)

pub list_more : (r t : Reach) (before after : List Monomial) (m : Monomial) → after ≡ before ++ m ∷ [] → ((n : Monomial) → IsWithin r n → IsWithin t n) → IsWithin t m → AllByRecursion (IsWithin r) before → AllByRecursion (IsWithin t) after
list_more r t before after m e wide h all = subst (AllByRecursion (IsWithin t)) (sym e) (all_append (IsWithin t) before (m ∷ []) (all_map (IsWithin r) (IsWithin t) wide before all) (h, tt))
