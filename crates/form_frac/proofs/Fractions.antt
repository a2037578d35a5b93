-- Fractions by their signs and sizes.
use Rattle.std.proofs.Common.{true≢false, ◌<ℤ◌, ◌≡◌, ℕ, zero, suc, ◌*◌, ◌/◌, ◌<◌, ◌≤◌, ℤ, pos, negsuc, ◌+ℤ◌, ◌*ℤ◌, neg_ℤ, nat_abs, Bool, true, false, ◌&&◌, nat_le, Option, Some, None, Result, Err, ok_or, option_map, int_cmp, nat_cmp, Ordering, Less, Equal, Greater, refl, sym, ◌∙◌, ap, ap₂, subst, arith, le-ltb, le_trans, leb-true, not, mul-one, mul-zero, zero-mul, mul_comm, mul_assoc, mul-pos, if◌then◌else◌, le-leb, div-le_self}
use Rattle.std.proofs.Math.Nat.{mul-div_cancel_left, mul-div_cancel, mul-div_cancel', one-dvd, pos_of_dvd_of_pos, div-mul_cancel, zero-div, div-one}
use Rattle.std.proofs.lemmas.Nat.Gcd.{dvd_refl}
use Rattle.std.proofs.lemmas.Int.{ints}
use Rattle.std.specs.Cmp.{int_cmp_is, ranks}
use Rattle.std.specs.Ordering.{MatchOrdering}
use mathlib.Core.Bool.{beq}
use Rattle.std.specs.Int.{IsGcd, ◌∣◌, is_negative}
use Rattle.form_frac.proofs.Divisors.{gcd_is, gcd_from_IsGcd, coprime_quotients, quotient_dvd, coprime_crosswise, IsGcd-crosswise, quotients_times}
use Rattle.form_frac.specs.Fraction.{Fraction, IsLowest, largest, whole, gcd, signed, over, reduced, in_range, is_in_range, lcm, add, multiply, make, compare}
use Rattle.form_frac.specs.declared.frac_error.FracError.{FracError}
use Rattle.form_frac.specs.declared.frac_error.FracError.TheVariants.{Overflow, DivideByZero}

-- ---- signs and sizes

pub nat_abs-signed : (b : Bool) (n : ℕ) → nat_abs (signed b n) ≡ n
nat_abs-signed false n = refl
nat_abs-signed true zero = refl
nat_abs-signed true (suc n) = refl

pub signed_is : (z : ℤ) → signed (is_negative z) (nat_abs z) ≡ z
signed_is (pos n) = let e : is_negative (pos n) ≡ false = le-ltb n 0 (omega arith) in rw e refl
signed_is (negsuc n) = refl

pub over-signed : (b : Bool) (n g : ℕ) → over (signed b n) g ≡ signed b (n / g)
over-signed false n g = refl
over-signed true zero g = rw zero-div refl
over-signed true (suc n) g = refl

-- ---- lowest terms

pub gcd_one : (n : ℕ) → gcd n 1 ≡ 1
gcd_one n = gcd_from_IsGcd n 1 1 (one-dvd n, dvd_refl 1, λ d p q. q)

pub gcd_swap : (a b : ℕ) → gcd a b ≡ gcd b a
gcd_swap a b = let h = gcd_is b a in gcd_from_IsGcd a b (gcd b a) (h.1, h.0, λ d p q. h.2 d q p)

pub gcd_some : (n d : ℕ) → 0 < d → 0 < gcd n d
gcd_some n d some = pos_of_dvd_of_pos (gcd_is n d).1 some

pub whole_is_lowest : (z : ℤ) → nat_abs z ≤ largest → IsLowest (whole z)
whole_is_lowest z h = record { is_over_some = omega arith; is_coprime = gcd_one (nat_abs z); is_small_above = h; is_small_below = omega arith }

-- what both parts of a fraction are divided by is the greatest that divides both, so they have nothing left in common
pub quotients_some : (n d : ℕ) → 1 ≤ d → 1 ≤ d / gcd n d
quotients_some n d some = pos_of_dvd_of_pos (quotient_dvd d (gcd n d) (gcd_is n d).1) some

pub quotients_coprime : (n d : ℕ) → 1 ≤ d → gcd (n / gcd n d) (d / gcd n d) ≡ 1
quotients_coprime n d some = gcd_from_IsGcd _ _ 1 (coprime_quotients n d (gcd n d) (gcd_some n d some) (gcd_is n d))

pub reduced_is : (b : Bool) (n d : ℕ) → reduced (signed b n) d ≡ record { numerator = signed b (n / gcd n d); denominator = d / gcd n d }
unfolding reduced
reduced_is b n d = rw nat_abs-signed (rw over-signed refl)

-- ---- ranges

in_range-signed : (b : Bool) (n d : ℕ) → n ≤ largest → d ≤ largest → in_range (record { numerator = signed b n; denominator = d }) ≡ Some (record { numerator = signed b n; denominator = d })
in_range-signed b n d p q =
    let above : nat_le (nat_abs (signed b n)) largest ≡ true = rw nat_abs-signed (le-leb n largest p) in
    let below : nat_le d largest ≡ true = le-leb d largest q in
    rw (above, below) refl

pub in_range-reduced : (z : ℤ) (d : ℕ) → nat_abs z ≤ largest → d ≤ largest → in_range (reduced z d) ≡ Some (reduced z d)
in_range-reduced z d p q =
    let e = ap (λ (x : ℤ). reduced x d) (sym (signed_is z)) ∙ reduced_is (is_negative z) (nat_abs z) d in
    ap in_range e ∙ in_range-signed (is_negative z) _ _ (le_trans (div-le_self (nat_abs z) (gcd (nat_abs z) d)) p) (le_trans (div-le_self d (gcd (nat_abs z) d)) q) ∙ ap Some (sym e)

pub none_above : (b : Bool) (n d : ℕ) → nat_le n largest ≡ false → in_range (record { numerator = signed b n; denominator = d }) ≡ None
none_above b n d e = rw nat_abs-signed (rw e refl)

pub none_below : (b : Bool) (n d : ℕ) → nat_le d largest ≡ false → in_range (record { numerator = signed b n; denominator = d }) ≡ None
none_below b n d e = at (nat_le (nat_abs (signed b n)) largest) refl
  where
    at : (p : Bool) → nat_le (nat_abs (signed b n)) largest ≡ p → in_range (record { numerator = signed b n; denominator = d }) ≡ None
    at true p = rw (p, e) refl
    at false p = rw p refl

-- ---- products

quotient_of_products : (m n k l : ℕ) → k ∣ m → l ∣ n → 0 < k → 0 < l → m * n / (k * l) ≡ m / k * (n / l)
quotient_of_products m n k l p q some_k some_l = ap (λ (x : ℕ). x / (k * l)) (sym (quotients_times m n k l p q)) ∙ mul-div_cancel (m / k * (n / l)) (mul-pos some_k some_l)

pub signed_times : (p q : Bool) (m n : ℕ) → signed p m *ℤ signed q n ≡ signed (not (beq p q)) (m * n)
signed_times false false m n = refl
signed_times false true m zero = rw mul-zero refl
signed_times false true m (suc n) = refl
signed_times true false zero n = rw zero-mul refl
signed_times true false (suc m) n = refl
signed_times true true zero zero = refl
signed_times true true zero (suc n) = rw zero-mul refl
signed_times true true (suc m) zero = rw mul-zero refl
signed_times true true (suc m) (suc n) = refl

pub signed_times_size : (p : Bool) (m n : ℕ) → signed p m *ℤ pos n ≡ signed p (m * n)
signed_times_size false m n = refl
signed_times_size true zero n = rw zero-mul refl
signed_times_size true (suc m) n = refl

pub product_is : (a c : ℤ) → a *ℤ c ≡ signed (not (beq (is_negative a) (is_negative c))) (nat_abs a * nat_abs c)
product_is a c = ap₂ (λ x y. x *ℤ y) (sym (signed_is a)) (sym (signed_is c)) ∙ signed_times (is_negative a) (is_negative c) (nat_abs a) (nat_abs c)

coprime_of : (f : Fraction) → IsLowest f → IsGcd (nat_abs f.numerator) f.denominator 1
coprime_of f l = rw l.is_coprime at (gcd_is (nat_abs f.numerator) f.denominator)

-- what is left of a product's parts, once each numerator and the other denominator are divided by what they have in common
abbrev pub size_left : Fraction → Fraction → ℕ
size_left f h = nat_abs f.numerator / gcd (nat_abs f.numerator) h.denominator * (nat_abs h.numerator / gcd (nat_abs h.numerator) f.denominator)

abbrev pub denominator_left : Fraction → Fraction → ℕ
denominator_left f h = f.denominator / gcd (nat_abs h.numerator) f.denominator * (h.denominator / gcd (nat_abs f.numerator) h.denominator)

pub left_coprime : (f h : Fraction) → IsLowest f → IsLowest h → gcd (size_left f h) (denominator_left f h) ≡ 1
left_coprime f h l m = gcd_from_IsGcd _ _ 1 (coprime_crosswise _ _ _ _ _ _ l.is_over_some m.is_over_some (coprime_of f l) (coprime_of h m) (gcd_is _ _) (gcd_is _ _))

pub denominator_left_some : (f h : Fraction) → IsLowest f → IsLowest h → 1 ≤ denominator_left f h
denominator_left_some f h l m = mul-pos (quotients_some (nat_abs h.numerator) f.denominator l.is_over_some) (quotients_some (nat_abs f.numerator) h.denominator m.is_over_some)

pub multiply_is : (f h : Fraction) → IsLowest f → IsLowest h →
    multiply f h ≡ in_range (record { numerator = signed (not (beq (is_negative f.numerator) (is_negative h.numerator))) (size_left f h); denominator = denominator_left f h })
unfolding multiply
multiply_is f h l m =
    let g = gcd (nat_abs f.numerator) h.denominator in
    let k = gcd (nat_abs h.numerator) f.denominator in
    let sign = not (beq (is_negative f.numerator) (is_negative h.numerator)) in
    let left = gcd_is (nat_abs f.numerator) h.denominator in
    let right = gcd_is (nat_abs h.numerator) f.denominator in
    let some_g : 0 < g = gcd_some (nat_abs f.numerator) h.denominator m.is_over_some in
    let some_k : 0 < k = gcd_some (nat_abs h.numerator) f.denominator l.is_over_some in
    let both = gcd_from_IsGcd _ _ (g * k) (IsGcd-crosswise (nat_abs f.numerator) f.denominator (nat_abs h.numerator) h.denominator g k l.is_over_some m.is_over_some (coprime_of f l) (coprime_of h m) left right) in
    let above = ap (λ (x : ℕ). nat_abs f.numerator * nat_abs h.numerator / x) both ∙ quotient_of_products (nat_abs f.numerator) (nat_abs h.numerator) g k left.0 right.0 some_g some_k in
    let below = ap (λ (x : ℕ). f.denominator * h.denominator / x) (both ∙ mul_comm g k) ∙ quotient_of_products f.denominator h.denominator k g right.1 left.1 some_k some_g in
    ap in_range (ap (λ z. reduced z (f.denominator * h.denominator)) (product_is f.numerator h.numerator)
    ∙ reduced_is sign (nat_abs f.numerator * nat_abs h.numerator) (f.denominator * h.denominator)
    ∙ ap₂ (λ n d. record { numerator = signed sign n; denominator = d }) above below)

pub multiply_none_above : (f h : Fraction) → IsLowest f → IsLowest h → nat_le (size_left f h) largest ≡ false → multiply f h ≡ None
multiply_none_above f h l m e = multiply_is f h l m ∙ none_above _ (size_left f h) (denominator_left f h) e

pub multiply_none_below : (f h : Fraction) → IsLowest f → IsLowest h → nat_le (denominator_left f h) largest ≡ false → multiply f h ≡ None
multiply_none_below f h l m e = multiply_is f h l m ∙ none_below _ (size_left f h) (denominator_left f h) e

-- ---- what is found in range

pub none_if : {A : Type 0} (p : Bool) (a : A) → None ≡ (if p then Some a else None) → p ≡ false
none_if true a e = cc
none_if false a e = refl

pub some_if : {A : Type 0} (p : Bool) (a b : A) → Some b ≡ (if p then Some a else None) → (p ≡ true) × (b ≡ a)
some_if true a b e = (refl, cc)
some_if false a b e = cc

-- ---- sums

-- a sum once its denominators' multiple is worked out by what both have in common
abbrev pub left_factor : Fraction → Fraction → ℕ
left_factor f h = h.denominator / gcd f.denominator h.denominator

abbrev pub right_factor : Fraction → Fraction → ℕ
right_factor f h = f.denominator / gcd f.denominator h.denominator

abbrev pub common : Fraction → Fraction → ℕ
common f h = f.denominator * left_factor f h

abbrev pub left_brought : Fraction → Fraction → ℤ
left_brought f h = f.numerator *ℤ pos (left_factor f h)

abbrev pub right_brought : Fraction → Fraction → ℤ
right_brought f h = h.numerator *ℤ pos (right_factor f h)

pub common_over_right : (f h : Fraction) → IsLowest h → common f h / h.denominator ≡ right_factor f h
common_over_right f h m =
    let g = gcd f.denominator h.denominator in
    let d = gcd_is f.denominator h.denominator in
    let swapped : common f h ≡ right_factor f h * h.denominator =
    ap (λ (x : ℕ). x * left_factor f h) (sym (div-mul_cancel g d.0)) ∙ mul_assoc (right_factor f h) g (left_factor f h) ∙ ap (λ (x : ℕ). right_factor f h * x) (mul-div_cancel' g d.1) in
    ap (λ (x : ℕ). x / h.denominator) swapped ∙ mul-div_cancel (right_factor f h) m.is_over_some

-- the sum of two numbers over one denominator, where all is in range
abbrev pub summed : ℕ → ℤ → ℤ → Option Fraction
summed d a c = if nat_le d largest && (is_in_range a && (is_in_range c && is_in_range (a +ℤ c))) then Some (reduced (a +ℤ c) d) else None

pub add_is : (f h : Fraction) → IsLowest f → IsLowest h → add f h ≡ summed (common f h) (left_brought f h) (right_brought f h)
unfolding add lcm
add_is f h l m = rw (mul-div_cancel_left (left_factor f h) l.is_over_some, common_over_right f h m) refl

-- how the sum comes out, one step after the other: each is refused, or found

pub sum_none_common : (f h : Fraction) → IsLowest f → IsLowest h →
    None ≡ (if nat_le (common f h) largest then Some (common f h) else None) → add f h ≡ None
sum_none_common f h l m e = let p = none_if (nat_le (common f h) largest) (common f h) e in add_is f h l m ∙ rw p refl

pub sum_none_left : (f h : Fraction) → IsLowest f → IsLowest h → (k : ℕ) →
    Some k ≡ (if nat_le (common f h) largest then Some (common f h) else None) →
    None ≡ (if is_in_range (left_brought f h) then Some (left_brought f h) else None) → add f h ≡ None
sum_none_left f h l m k d e =
    let p = (some_if (nat_le (common f h) largest) (common f h) k d).0 in
    let q = none_if (is_in_range (left_brought f h)) (left_brought f h) e in
    add_is f h l m ∙ rw (p, q) refl

pub sum_none_right : (f h : Fraction) → IsLowest f → IsLowest h → (k : ℕ) (a : ℤ) →
    Some k ≡ (if nat_le (common f h) largest then Some (common f h) else None) →
    Some a ≡ (if is_in_range (left_brought f h) then Some (left_brought f h) else None) →
    None ≡ (if is_in_range (right_brought f h) then Some (right_brought f h) else None) → add f h ≡ None
sum_none_right f h l m k a d e e' =
    let p = (some_if (nat_le (common f h) largest) (common f h) k d).0 in
    let q = (some_if (is_in_range (left_brought f h)) (left_brought f h) a e).0 in
    let r = none_if (is_in_range (right_brought f h)) (right_brought f h) e' in
    add_is f h l m ∙ rw (p, q, r) refl

pub sum_none : (f h : Fraction) → IsLowest f → IsLowest h → (k : ℕ) (a c : ℤ) →
    Some k ≡ (if nat_le (common f h) largest then Some (common f h) else None) →
    Some a ≡ (if is_in_range (left_brought f h) then Some (left_brought f h) else None) →
    Some c ≡ (if is_in_range (right_brought f h) then Some (right_brought f h) else None) →
    None ≡ (if is_in_range (a +ℤ c) then Some (a +ℤ c) else None) → add f h ≡ None
sum_none f h l m k a c d e e' t =
    let p = some_if (nat_le (common f h) largest) (common f h) k d in
    let q = some_if (is_in_range (left_brought f h)) (left_brought f h) a e in
    let r = some_if (is_in_range (right_brought f h)) (right_brought f h) c e' in
    let u = ap₂ (λ x y. is_in_range (x +ℤ y)) (sym q.1) (sym r.1) ∙ none_if (is_in_range (a +ℤ c)) (a +ℤ c) t in
    add_is f h l m ∙ rw (p.0, q.0, r.0, u) refl

pub sum_some : (f h : Fraction) → IsLowest f → IsLowest h → (k : ℕ) (a c s : ℤ) →
    Some k ≡ (if nat_le (common f h) largest then Some (common f h) else None) →
    Some a ≡ (if is_in_range (left_brought f h) then Some (left_brought f h) else None) →
    Some c ≡ (if is_in_range (right_brought f h) then Some (right_brought f h) else None) →
    Some s ≡ (if is_in_range (a +ℤ c) then Some (a +ℤ c) else None) →
    in_range (reduced (signed (is_negative s) (nat_abs s)) k) ≡ add f h
sum_some f h l m k a c s d e e' t =
    let p = some_if (nat_le (common f h) largest) (common f h) k d in
    let q = some_if (is_in_range (left_brought f h)) (left_brought f h) a e in
    let r = some_if (is_in_range (right_brought f h)) (right_brought f h) c e' in
    let u = some_if (is_in_range (a +ℤ c)) (a +ℤ c) s t in
    let whole_sum : s ≡ left_brought f h +ℤ right_brought f h = u.1 ∙ ap₂ (λ x y. x +ℤ y) q.1 r.1 in
    let in_sum : is_in_range (left_brought f h +ℤ right_brought f h) ≡ true = ap₂ (λ x y. is_in_range (x +ℤ y)) (sym q.1) (sym r.1) ∙ u.0 in
    ap (λ x. in_range (reduced x k)) (signed_is s)
    ∙ ap₂ (λ x y. in_range (reduced x y)) whole_sum p.1
    ∙ in_range-reduced (left_brought f h +ℤ right_brought f h) (common f h) (leb-true _ _ in_sum) (leb-true _ _ p.0)
    ∙ sym (add_is f h l m ∙ rw (p.0, q.0, r.0, in_sum) refl)

pub common_some : (f h : Fraction) → IsLowest f → IsLowest h → 1 ≤ common f h
common_some f h l m = mul-pos l.is_over_some (factor_some h m)
  where
    factor_some : (h : Fraction) → IsLowest h → 1 ≤ left_factor f h
    factor_some h m = pos_of_dvd_of_pos (quotient_dvd h.denominator (gcd f.denominator h.denominator) (gcd_is f.denominator h.denominator).1) m.is_over_some

-- ---- whole numbers

pub times_one : (z : ℤ) → z *ℤ pos 1 ≡ z
times_one z = ap (λ (x : ℤ). x *ℤ pos 1) (sym (signed_is z)) ∙ signed_times_size (is_negative z) (nat_abs z) 1 ∙ ap (λ x. signed (is_negative z) x) (mul-one (nat_abs z)) ∙ signed_is z

pub reduced_one : (z : ℤ) → reduced z 1 ≡ whole z
reduced_one z = ap (λ (x : ℤ). reduced x 1) (sym (signed_is z)) ∙ reduced_is (is_negative z) (nat_abs z) 1
    ∙ ap₂ (λ n d. record { numerator = n; denominator = d })
    (ap (λ x. signed (is_negative z) (nat_abs z / x)) (gcd_one (nat_abs z)) ∙ ap (λ x. signed (is_negative z) x) (div-one (nat_abs z)) ∙ signed_is z)
    (ap (λ x. 1 / x) (gcd_one (nat_abs z)))

pub whole_in_range : (z : ℤ) → in_range (whole z) ≡ (if is_in_range z then Some (whole z) else None)
whole_in_range z = at (is_in_range z) refl
  where
    at : (p : Bool) → is_in_range z ≡ p → in_range (whole z) ≡ (if is_in_range z then Some (whole z) else None)
    at true p = rw p refl
    at false p = rw p refl

pub multiply_whole : (f h : Fraction) → f.denominator ≡ 1 → h.denominator ≡ 1 →
    multiply f h ≡ (if is_in_range (f.numerator *ℤ h.numerator) then Some (whole (f.numerator *ℤ h.numerator)) else None)
unfolding multiply
multiply_whole f h p q = rw (p, q) (ap in_range (reduced_one (f.numerator *ℤ h.numerator)) ∙ whole_in_range (f.numerator *ℤ h.numerator))

pub add_whole : (f h : Fraction) → IsLowest f → IsLowest h → f.denominator ≡ 1 → h.denominator ≡ 1 →
    add f h ≡ (if is_in_range (f.numerator +ℤ h.numerator) then Some (whole (f.numerator +ℤ h.numerator)) else None)
add_whole f h l m p q =
    let factors = ap₂ (λ x y. y / gcd x y) p q ∙ ap (λ x. 1 / x) (gcd_one 1) in
    let others = ap₂ (λ x y. x / gcd x y) p q ∙ ap (λ x. 1 / x) (gcd_one 1) in
    let over : common f h ≡ 1 = ap₂ (λ x y. x * y) p factors in
    let left : left_brought f h ≡ f.numerator = ap (λ x. f.numerator *ℤ pos x) factors ∙ times_one f.numerator in
    let right : right_brought f h ≡ h.numerator = ap (λ x. h.numerator *ℤ pos x) others ∙ times_one h.numerator in
    let in_left : is_in_range f.numerator ≡ true = le-leb _ _ l.is_small_above in
    let in_right : is_in_range h.numerator ≡ true = le-leb _ _ m.is_small_above in
    add_is f h l m ∙ ap (λ x. summed x (left_brought f h) (right_brought f h)) over ∙ ap₂ (λ x y. summed 1 x y) left right ∙ rw (in_left, in_right, reduced_one) refl

-- what is found in range, made whole
mapped : {A B : Type 0} (F : A → B) (p : Bool) (a : A) (o : Option A) → o ≡ (if p then Some a else None) → option_map F o ≡ (if p then Some (F a) else None)
mapped F true a o e = ap (option_map F) e
mapped F false a o e = ap (option_map F) e

pub whole_sum_is : (f h : Fraction) (x y : ℤ) → x ≡ f.numerator → y ≡ h.numerator → IsLowest f → IsLowest h → f.denominator ≡ 1 → h.denominator ≡ 1 →
    (o : Option ℤ) → o ≡ (if is_in_range (x +ℤ y) then Some (x +ℤ y) else None) → option_map whole o ≡ add f h
whole_sum_is f h x y ex ey l m p q o e =
    mapped whole (is_in_range (x +ℤ y)) (x +ℤ y) o e ∙ ap₂ (λ a c. if is_in_range (a +ℤ c) then Some (whole (a +ℤ c)) else None) ex ey ∙ sym (add_whole f h l m p q)

pub whole_product_is : (f h : Fraction) (x y : ℤ) → x ≡ f.numerator → y ≡ h.numerator → f.denominator ≡ 1 → h.denominator ≡ 1 →
    (o : Option ℤ) → o ≡ (if is_in_range (x *ℤ y) then Some (x *ℤ y) else None) → option_map whole o ≡ multiply f h
whole_product_is f h x y ex ey p q o e =
    mapped whole (is_in_range (x *ℤ y)) (x *ℤ y) o e ∙ ap₂ (λ a c. if is_in_range (a *ℤ c) then Some (whole (a *ℤ c)) else None) ex ey ∙ sym (multiply_whole f h p q)

-- ---- what is made of two whole numbers

differ_from_false : (p : Bool) → not (beq p false) ≡ p
differ_from_false true = refl
differ_from_false false = refl

differ_from_true : (p : Bool) → not (beq p true) ≡ not p
differ_from_true true = refl
differ_from_true false = refl

signed_not : (z : ℤ) → signed (not (is_negative z)) (nat_abs z) ≡ neg_ℤ z
signed_not (pos n) = let e : is_negative (pos n) ≡ false = le-ltb n 0 (omega arith) in rw e refl
signed_not (negsuc n) = refl

pub make_none : (n d : ℤ) → d ≡ pos 0 → make n d ≡ Err DivideByZero
unfolding make
make_none n d e = rw e refl

abbrev pub made : Bool → ℤ → ℕ → Result Fraction FracError
made b n d = ok_or (in_range (reduced (signed b (nat_abs n)) d)) Overflow

pub make_is : (n d : ℤ) → 0 < nat_abs d → make n d ≡ made (not (beq (is_negative n) (is_negative d))) n (nat_abs d)
unfolding make
make_is n (pos zero) some = absurd (omega arith)
make_is n (pos (suc d)) some =
    let e : is_negative (pos (suc d)) ≡ false = le-ltb (suc d) 0 (omega arith) in
    sym (ap (λ x. made (not (beq (is_negative n) x)) n (suc d)) e ∙ ap (λ x. made x n (suc d)) (differ_from_false (is_negative n)) ∙ ap (λ x. ok_or (in_range (reduced x (suc d))) Overflow) (signed_is n))
make_is n (negsuc d) some =
    sym (ap (λ x. made x n (suc d)) (differ_from_true (is_negative n)) ∙ ap (λ x. ok_or (in_range (reduced x (suc d))) Overflow) (signed_not n))

pub made_is : (n d : ℤ) (above below : ℕ) (o : Option Fraction) (r : Result Fraction FracError) → above ≡ nat_abs n → below ≡ nat_abs d → 0 < nat_abs d →
    o ≡ in_range (reduced (signed (not (beq (is_negative n) (is_negative d))) above) below) → r ≡ ok_or o Overflow → r ≡ make n d
made_is n d above below o r p q some e f =
    f ∙ ap (λ x. ok_or x Overflow) (e ∙ ap₂ (λ x y. in_range (reduced (signed (not (beq (is_negative n) (is_negative d))) x) y)) p q) ∙ sym (make_is n d some)

-- ---- upside down

abbrev pub turned : Fraction → Fraction
turned f = record { numerator = signed (is_negative f.numerator) f.denominator; denominator = nat_abs f.numerator }

pub turned_is_lowest : (f : Fraction) → IsLowest f → 0 < nat_abs f.numerator → IsLowest (turned f)
turned_is_lowest f l some =
    let size = nat_abs-signed (is_negative f.numerator) f.denominator in
    record {
      is_over_some = some;
      is_coprime = ap (λ x. gcd x (nat_abs f.numerator)) size ∙ gcd_swap f.denominator (nat_abs f.numerator) ∙ l.is_coprime;
      is_small_above = subst (λ (x : ℕ). x ≤ largest) (sym size) l.is_small_below;
      is_small_below = l.is_small_above;
    }

-- ---- the order

pub compare_is : (f h : Fraction) →
    compare f h ≡ int_cmp (signed (is_negative f.numerator) (nat_abs f.numerator * h.denominator)) (signed (is_negative h.numerator) (nat_abs h.numerator * f.denominator))
unfolding compare
compare_is f h = ap₂ (λ x y. int_cmp x y) (scaled f.numerator h.denominator) (scaled h.numerator f.denominator)
  where
    scaled : (z : ℤ) (d : ℕ) → z *ℤ pos d ≡ signed (is_negative z) (nat_abs z * d)
    scaled z d = ap (λ (x : ℤ). x *ℤ pos d) (sym (signed_is z)) ∙ signed_times_size (is_negative z) (nat_abs z) d

pub int_cmp_pos : (x y : ℕ) → int_cmp (pos x) (pos y) ≡ nat_cmp x y
int_cmp_pos x y = sym (int_cmp_is (pos x) (pos y) (nat_cmp x y) (lifted (nat_cmp x y) (ranks x y)))
  where
    lifted : (r : Ordering) → MatchOrdering r (x < y) (x ≡ y) (y < x) → MatchOrdering r (pos x <ℤ pos y) (pos x ≡ pos y) (pos y <ℤ pos x)
    lifted Less h = omega (arith, ints)
    lifted Equal h = ap pos h
    lifted Greater h = omega (arith, ints)

pub int_cmp_neg : (x y : ℕ) → int_cmp (signed true x) (signed true y) ≡ nat_cmp y x
int_cmp_neg x y = sym (int_cmp_is (signed true x) (signed true y) (nat_cmp y x) (lifted (nat_cmp y x) (ranks y x)))
  where
    lifted : (r : Ordering) → MatchOrdering r (y < x) (y ≡ x) (x < y) → MatchOrdering r (signed true x <ℤ signed true y) (signed true x ≡ signed true y) (signed true y <ℤ signed true x)
    lifted Less h = omega (arith, ints)
    lifted Equal h = ap (λ n. signed true n) (sym h)
    lifted Greater h = omega (arith, ints)

pub int_cmp_above : (x y : ℕ) → 0 < y → int_cmp (signed false x) (signed true y) ≡ Greater
int_cmp_above x y some = let above : signed true y <ℤ signed false x = omega (arith, ints) in sym (int_cmp_is (signed false x) (signed true y) Greater above)

pub int_cmp_below : (x y : ℕ) → 0 < x → int_cmp (signed true x) (signed false y) ≡ Less
int_cmp_below x y some = let below : signed true x <ℤ signed false y = omega (arith, ints) in sym (int_cmp_is (signed true x) (signed false y) Less below)

-- the order of two fractions by their signs
compared : (f h : Fraction) (p q : Bool) (x y : ℤ) → x ≡ f.numerator → y ≡ h.numerator → is_negative x ≡ p → is_negative y ≡ q →
    compare f h ≡ int_cmp (signed p (nat_abs f.numerator * h.denominator)) (signed q (nat_abs h.numerator * f.denominator))
compared f h p q x y ex ey ep eq =
    compare_is f h ∙ ap₂ (λ s t. int_cmp (signed s (nat_abs f.numerator * h.denominator)) (signed t (nat_abs h.numerator * f.denominator)))
    (ap (λ z. is_negative z) (sym ex) ∙ ep) (ap (λ z. is_negative z) (sym ey) ∙ eq)

size_some : (f : Fraction) (d : ℕ) (x : ℤ) → x ≡ f.numerator → is_negative x ≡ true → 0 < d → 0 < nat_abs f.numerator * d
size_some f d x e n some = mul-pos (below_zero_some f.numerator (ap (λ z. is_negative z) (sym e) ∙ n)) some
  where
    below_zero_some : (z : ℤ) → is_negative z ≡ true → 0 < nat_abs z
    below_zero_some (pos n) e = let k : is_negative (pos n) ≡ false = le-ltb n 0 (omega arith) in absurd (true≢false (sym e ∙ k))
    below_zero_some (negsuc n) e = omega arith

pub compared_positive : (f h : Fraction) (x y : ℤ) → x ≡ f.numerator → y ≡ h.numerator → is_negative x ≡ false → is_negative y ≡ false →
    compare f h ≡ nat_cmp (nat_abs f.numerator * h.denominator) (nat_abs h.numerator * f.denominator)
compared_positive f h x y ex ey p q = compared f h false false x y ex ey p q ∙ int_cmp_pos (nat_abs f.numerator * h.denominator) (nat_abs h.numerator * f.denominator)

pub compared_negative : (f h : Fraction) (x y : ℤ) → x ≡ f.numerator → y ≡ h.numerator → is_negative x ≡ true → is_negative y ≡ true →
    compare f h ≡ nat_cmp (nat_abs h.numerator * f.denominator) (nat_abs f.numerator * h.denominator)
compared_negative f h x y ex ey p q = compared f h true true x y ex ey p q ∙ int_cmp_neg (nat_abs f.numerator * h.denominator) (nat_abs h.numerator * f.denominator)

pub compared_above : (f h : Fraction) (x y : ℤ) → x ≡ f.numerator → y ≡ h.numerator → is_negative x ≡ false → is_negative y ≡ true → IsLowest f → compare f h ≡ Greater
compared_above f h x y ex ey p q l = compared f h false true x y ex ey p q ∙ int_cmp_above _ _ (size_some h f.denominator y ey q l.is_over_some)

pub compared_below : (f h : Fraction) (x y : ℤ) → x ≡ f.numerator → y ≡ h.numerator → is_negative x ≡ true → is_negative y ≡ false → IsLowest h → compare f h ≡ Less
compared_below f h x y ex ey p q m = compared f h true false x y ex ey p q ∙ int_cmp_below _ _ (size_some f h.denominator x ex p m.is_over_some)
