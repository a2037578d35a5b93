-- How weights are reckoned, one step after the other: each is out of range, or found.
use Rattle.std.proofs.Common.{◌≡◌, ℕ, ◌+◌, ◌*◌, ◌/◌, ◌≤◌, Bool, true, false, nat_le, if◌then◌else◌, Option, Some, None, refl, sym, ◌∙◌, ap, ap₂, le_trans, le-leb, leb-true, true≢false, mul_assoc, mul-one, subst, mul-pos}
use Rattle.std.proofs.Math.Nat.{mul-div_cancel, mul-div_cancel_left, mul-div_cancel', div-mul_cancel, pos_of_dvd_of_pos}
use Rattle.form_frac.specs.Fraction.{gcd, lcm, largest}
use Rattle.form_frac.proofs.Divisors.{gcd_is, quotient_dvd}
use Rattle.form_frac.proofs.Fractions.{gcd_one, none_if, some_if}
use Rattle.form_frac.specs.Weight.{Weight, IsWeight, if_in_range, join, times}
use Rattle.form_frac.proofs.Paired.{crossed}

-- a number where it is in range
abbrev pub checked : ℕ → Option ℕ
checked n = if nat_le n largest then Some n else None

-- ---- out of range

pub none_by_denominator : (w : Weight) → None ≡ checked w.denominator → if_in_range w ≡ None
none_by_denominator w h = let e = none_if (nat_le w.denominator largest) w.denominator h in rw e refl

too_large : (m n : ℕ) → m ≤ n → nat_le m largest ≡ false → nat_le n largest ≡ false
too_large m n le e = at (nat_le n largest) refl
  where
    at : (p : Bool) → nat_le n largest ≡ p → nat_le n largest ≡ false
    at false q = q
    at true q = absurd (true≢false (sym (le-leb m largest (le_trans le (leb-true n largest q))) ∙ e))

pub none_by_size : (w : Weight) (n : ℕ) → n ≤ w.size → None ≡ checked n → if_in_range w ≡ None
none_by_size w n le h = at (nat_le w.denominator largest) refl
  where
    at : (p : Bool) → nat_le w.denominator largest ≡ p → if_in_range w ≡ None
    at true p = let e = too_large n w.size le (none_if (nat_le n largest) n h) in rw (p, e) refl
    at false p = rw p refl

-- ---- found

pub found_both : (w : Weight) (d s : ℕ) → Some d ≡ checked w.denominator → Some s ≡ checked w.size → Some (record { denominator = d; size = s }) ≡ if_in_range w
found_both w d s p q =
    let below = some_if (nat_le w.denominator largest) w.denominator d p in
    let above = some_if (nat_le w.size largest) w.size s q in
    ap₂ (λ (x y : ℕ). Some (record { denominator = x; size = y })) below.1 above.1 ∙ rw (below.0, above.0) refl

-- what was found of two sizes is what their sum is asked of
pub of_found : (x y m n : ℕ) (o : Option ℕ) → Some m ≡ checked x → Some n ≡ checked y → o ≡ checked (m + n) → o ≡ checked (x + y)
of_found x y m n o p q e = e ∙ ap₂ (λ (a b : ℕ). checked (a + b)) (some_if (nat_le x largest) x m p).1 (some_if (nat_le y largest) y n q).1

-- ---- put together by what both denominators have in common

abbrev pub worked_out : ℕ → Weight → Weight → Weight
worked_out g a b = record { denominator = a.denominator * (b.denominator / g); size = a.size * (b.denominator / g) + b.size * (a.denominator / g) }

multiple_over_right : (m n : ℕ) → 1 ≤ n → m * (n / gcd m n) / n ≡ m / gcd m n
multiple_over_right m n some =
    let g = gcd m n in
    let d = gcd_is m n in
    let swapped : m * (n / g) ≡ m / g * n =
    ap (λ (x : ℕ). x * (n / g)) (sym (div-mul_cancel g d.0)) ∙ mul_assoc (m / g) g (n / g) ∙ ap (λ (x : ℕ). m / g * x) (mul-div_cancel' g d.1) in
    ap (λ (x : ℕ). x / n) swapped ∙ mul-div_cancel (m / g) some

join_is : (a b : Weight) → IsWeight a → IsWeight b → join a b ≡ if_in_range (worked_out (gcd a.denominator b.denominator) a b)
unfolding join lcm
join_is a b v u = rw (mul-div_cancel_left (b.denominator / gcd a.denominator b.denominator) v.is_over_some, multiple_over_right a.denominator b.denominator u.is_over_some) refl

pub join_by : (g : ℕ) (a b : Weight) → g ≡ gcd a.denominator b.denominator → IsWeight a → IsWeight b → join a b ≡ if_in_range (worked_out g a b)
join_by g a b e v u = join_is a b v u ∙ ap (λ (x : ℕ). if_in_range (worked_out x a b)) (sym e)

pub join_whole : (a b : Weight) → a.denominator ≡ 1 → b.denominator ≡ 1 → join a b ≡ if_in_range (record { denominator = 1; size = a.size + b.size })
unfolding join lcm
join_whole a b p q = rw (p, q, gcd_one 1) (ap₂ (λ (x y : ℕ). if_in_range (record { denominator = 1; size = x + y })) (mul-one a.size) (mul-one b.size))

-- ---- multiplied

pub times_is : (a b : Weight) → times a b ≡ if_in_range (crossed a b)
unfolding times
times_is a b = refl

pub times_whole : (a b : Weight) → a.denominator ≡ 1 → b.denominator ≡ 1 → times a b ≡ if_in_range (record { denominator = 1; size = a.size * b.size })
unfolding times
times_whole a b p q = rw (p, q) refl

-- ---- the weight that is found

pub found_weight : (g : ℕ) (a b : Weight) (d : ℕ) → 1 ≤ a.denominator * (b.denominator / g) → Some d ≡ checked (a.denominator * (b.denominator / g)) → (1 ≤ d) × (d ≤ largest)
found_weight g a b d some p =
    let below = some_if (nat_le (a.denominator * (b.denominator / g)) largest) (a.denominator * (b.denominator / g)) d p in
    (subst (λ (x : ℕ). 1 ≤ x) (sym below.1) some, subst (λ (x : ℕ). x ≤ largest) (sym below.1) (leb-true _ _ below.0))

pub found_size : (n s : ℕ) → Some s ≡ checked n → s ≤ largest
found_size n s p = let above = some_if (nat_le n largest) n s p in subst (λ (x : ℕ). x ≤ largest) (sym above.1) (leb-true _ _ above.0)

pub multiple_some : (m n g : ℕ) → g ≡ gcd m n → 1 ≤ m → 1 ≤ n → 1 ≤ m * (n / g)
multiple_some m n g e some_m some_n =
    subst (λ (x : ℕ). 1 ≤ m * (n / x)) (sym e) (mul-pos some_m (pos_of_dvd_of_pos (quotient_dvd n (gcd m n) (gcd_is m n).1) some_n))
