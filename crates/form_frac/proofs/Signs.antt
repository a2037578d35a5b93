-- Negatives, reciprocals and the order of fractions, by their values.
use Rattle.std.proofs.Common.{◌≡◌, ℕ, zero, suc, ◌*◌, ◌/◌, ◌<◌, ◌≤◌, ℤ, pos, negsuc, ◌+ℤ◌, ◌*ℤ◌, ◌<ℤ◌, neg_ℤ, nat_abs, true, false, Some, int_cmp, Ordering, Less, Equal, Greater, refl, sym, ◌∙◌, ap, ap₂, subst, arith, le-leb, le-ltb, mul_comm, mul-pos}
use Rattle.std.proofs.Math.Nat.{div_self}
use Rattle.std.proofs.lemmas.Nat.Gcd.{dvd_refl}
use Rattle.std.proofs.lemmas.Int.{ints}
use Rattle.std.proofs.lemmas.Map.Lookups.{exact_signed}
use Rattle.std.specs.Cmp.{int_cmp_is, int_ranks}
use Rattle.std.specs.Ordering.{MatchOrdering}
use Rattle.std.specs.Int.{is_negative}
use lib.IntN.{zero-*ℤ}
use Rattle.form_frac.specs.Fraction.{Fraction, IsLowest, largest, whole, gcd, reduced, in_range, add, multiply, reciprocal, negate, compare, is_below_zero}
use Rattle.form_frac.proofs.Divisors.{gcd_from_IsGcd}
use Rattle.form_frac.proofs.Fractions.{signed_times_size, whole_is_lowest, some_if, common, left_brought, right_brought, summed, add_is, times_one, int_cmp_below, quotients_some}
use Rattle.form_frac.proofs.Integers.{nat_abs-neg, neg_times_size}
use Rattle.form_frac.proofs.Reduced.{reduced_scaled, lowest_again, negate_lowest, denominator_some}
use Rattle.form_frac.proofs.Values.{value_of_sum}

-- ---- 0 and 1 over any number

pub zero_reduced : (d : ℕ) → 1 ≤ d → reduced (pos 0) d ≡ whole (pos 0)
zero_reduced d some =
    let below : 1 * d ≡ d = omega arith in
    ap₂ (λ (x : ℤ) (y : ℕ). reduced x y) (sym (zero-*ℤ (pos d))) (sym below)
    ∙ reduced_scaled (pos 0) 1 d some
    ∙ lowest_again (whole (pos 0)) (whole_is_lowest (pos 0) (omega arith))

one_reduced : (d : ℕ) → 1 ≤ d → reduced (pos d) d ≡ whole (pos 1)
one_reduced d some =
    let once : 1 * d ≡ d = omega arith in
    ap₂ (λ (x y : ℕ). reduced (pos x) y) (sym once) (sym once)
    ∙ reduced_scaled (pos 1) 1 d some
    ∙ lowest_again (whole (pos 1)) (whole_is_lowest (pos 1) (omega arith))

-- ---- the negative

summed_as : (d : ℕ) (a c s : ℤ) → d ≤ largest → nat_abs a ≤ largest → nat_abs c ≤ largest → a +ℤ c ≡ s → nat_abs s ≤ largest → summed d a c ≡ Some (reduced s d)
summed_as d a c s below left right e both = rw (e, le-leb d largest below, le-leb _ largest left, le-leb _ largest right, le-leb _ largest both) refl

nothing_left : (z : ℤ) → z +ℤ neg_ℤ z ≡ pos 0
nothing_left z = omega (arith, ints)

pub sum_with_negative : (f : Fraction) → IsLowest f → add f (negate f) ≡ Some (whole (pos 0))
sum_with_negative f l =
    let d = f.denominator in
    let n = f.numerator in
    let itself : d / gcd d d ≡ 1 = ap (λ (x : ℕ). d / x) (gcd_from_IsGcd d d d (dvd_refl d, dvd_refl d, λ e p q. p)) ∙ div_self l.is_over_some in
    let small : nat_abs (neg_ℤ n) ≤ largest = subst (λ (x : ℕ). x ≤ largest) (sym (nat_abs-neg n)) l.is_small_above in
    add_is f (negate f) l (negate_lowest f l)
    ∙ ap (λ (x : ℕ). summed (d * x) (n *ℤ pos x) (neg_ℤ n *ℤ pos x)) itself
    ∙ ap₂ (λ (x y : ℤ). summed (d * 1) x y) (times_one n) (times_one (neg_ℤ n))
    ∙ summed_as (d * 1) n (neg_ℤ n) (pos 0) (omega (arith, l.is_small_below)) l.is_small_above small (nothing_left n) (omega arith)
    ∙ ap Some (zero_reduced (d * 1) (omega (arith, l.is_over_some)))

-- ---- the reciprocal

one_made : (y z : ℤ) (d e : ℕ) → y *ℤ z ≡ pos (d * e) → 1 ≤ d * e → multiply (record { numerator = y; denominator = d }) (record { numerator = z; denominator = e }) ≡ Some (whole (pos 1))
unfolding multiply
one_made y z d e is some = ap in_range (ap (λ (x : ℤ). reduced x (d * e)) is ∙ one_reduced (d * e) some)

times_turned : (n : ℤ) (d : ℕ) (r : Fraction) → 1 ≤ d → reciprocal (record { numerator = n; denominator = d }) ≡ Some r →
    (multiply (record { numerator = n; denominator = d }) r ≡ Some (whole (pos 1))) × (is_below_zero r ≡ is_negative n)
times_turned (pos zero) d r some e = cc
times_turned (pos (suc n)) d r some e =
    let is : r ≡ record { numerator = pos d; denominator = suc n } = cc in
    let up : is_negative (pos d) ≡ false = le-ltb d 0 (omega arith) in
    let same : is_negative (pos (suc n)) ≡ false = le-ltb (suc n) 0 (omega arith) in
    rw is (one_made (pos (suc n)) (pos d) d (suc n) (ap pos (mul_comm (suc n) d)) (mul-pos some (omega arith)), up ∙ sym same)
times_turned (negsuc n) (suc d) r some e =
    let is : r ≡ record { numerator = negsuc d; denominator = suc n } = cc in
    rw is (one_made (negsuc n) (negsuc d) (suc d) (suc n) (ap pos (mul_comm (suc n) (suc d))) (mul-pos some (omega arith)), refl)
times_turned (negsuc n) zero r some e = absurd (omega arith)

pub product_with_reciprocal : (f r : Fraction) → IsLowest f → reciprocal f ≡ Some r → multiply f r ≡ Some (whole (pos 1))
product_with_reciprocal f r l e = (times_turned f.numerator f.denominator r l.is_over_some e).0

pub sign_of_reciprocal : (f r : Fraction) → IsLowest f → reciprocal f ≡ Some r → is_below_zero r ≡ is_below_zero f
sign_of_reciprocal f r l e = (times_turned f.numerator f.denominator r l.is_over_some e).1

-- ---- the order

sign_of_multiple : (z : ℤ) (k : ℕ) → 1 ≤ k → int_cmp (z *ℤ pos k) (pos 0) ≡ int_cmp z (pos 0)
sign_of_multiple (pos zero) k some = ap (λ (x : ℤ). int_cmp x (pos 0)) (zero-*ℤ (pos k))
sign_of_multiple (pos (suc n)) k some =
    let large : pos 0 <ℤ pos (suc n * k) = let h : 0 < suc n * k = mul-pos (omega arith) some in omega (arith, ints, h) in
    let above : pos 0 <ℤ pos (suc n) = omega (arith, ints) in
    sym (int_cmp_is (pos (suc n * k)) (pos 0) Greater large) ∙ int_cmp_is (pos (suc n)) (pos 0) Greater above
sign_of_multiple (negsuc n) k some =
    ap (λ (x : ℤ). int_cmp x (pos 0)) (signed_times_size true (suc n) k)
    ∙ int_cmp_below (suc n * k) 0 (mul-pos (omega arith) some)
    ∙ sym (int_cmp_below (suc n) 0 (omega arith))

sign_of_difference : (a b : ℤ) → int_cmp a b ≡ int_cmp (a +ℤ neg_ℤ b) (pos 0)
sign_of_difference a b = int_cmp_is (a +ℤ neg_ℤ b) (pos 0) (int_cmp a b) (moved (int_cmp a b) (int_ranks a b))
  where
    moved : (r : Ordering) → MatchOrdering r (a <ℤ b) (a ≡ b) (b <ℤ a) → MatchOrdering r ((a +ℤ neg_ℤ b) <ℤ pos 0) ((a +ℤ neg_ℤ b) ≡ pos 0) (pos 0 <ℤ (a +ℤ neg_ℤ b))
    moved Less h = omega (arith, ints, h)
    moved Equal h = omega (arith, ints, h)
    moved Greater h = omega (arith, ints, h)

-- one fraction is below another one where their difference is below 0
pub compared_by_difference : (f g d : Fraction) → IsLowest f → IsLowest g → add f (negate g) ≡ Some d → compare f g ≡ int_cmp d.numerator (pos 0)
unfolding compare
compared_by_difference f g d l m e =
    let below = negate_lowest g m in
    let a = f.numerator *ℤ pos g.denominator in
    let b = g.numerator *ℤ pos f.denominator in
    let difference = left_brought f (negate g) +ℤ right_brought f (negate g) in
    let is = (some_if _ (reduced difference (common f (negate g))) d (sym e ∙ add_is f (negate g) l below)).1 in
    let multiple : 1 ≤ common f (negate g) = mul-pos l.is_over_some (left_some g.denominator f.denominator m.is_over_some) in
    let some : 1 ≤ d.denominator = subst (λ (x : Fraction). 1 ≤ x.denominator) (sym is) (denominator_some difference (common f (negate g)) multiple) in
    let value : d.numerator *ℤ pos (f.denominator * g.denominator) ≡ (a +ℤ neg_ℤ b) *ℤ pos d.denominator =
    value_of_sum f (negate g) d l below e ∙ ap (λ (x : ℤ). (a +ℤ x) *ℤ pos d.denominator) (neg_times_size g.numerator f.denominator) in
    sign_of_difference a b
    ∙ sym (sign_of_multiple (a +ℤ neg_ℤ b) d.denominator some)
    ∙ ap (λ (x : ℤ). int_cmp x (pos 0)) (sym value)
    ∙ sign_of_multiple d.numerator (f.denominator * g.denominator) (mul-pos l.is_over_some m.is_over_some)
  where
    left_some : (n d : ℕ) → 1 ≤ n → 1 ≤ n / gcd d n
    left_some n d some = quotients_some d n some

-- and only equal fractions compare equal
pub compared_equal : (f g : Fraction) → IsLowest f → IsLowest g → compare f g ≡ Equal → f ≡ g
unfolding compare
compared_equal f g l m e =
    let crosswise : f.numerator *ℤ pos g.denominator ≡ g.numerator *ℤ pos f.denominator = exact_signed (f.numerator *ℤ pos g.denominator) (g.numerator *ℤ pos f.denominator) e in
    sym (lowest_again f l)
    ∙ sym (reduced_scaled f.numerator f.denominator g.denominator m.is_over_some)
    ∙ ap₂ (λ (x : ℤ) (y : ℕ). reduced x y) crosswise (mul_comm f.denominator g.denominator)
    ∙ reduced_scaled g.numerator g.denominator f.denominator l.is_over_some
    ∙ lowest_again g m
