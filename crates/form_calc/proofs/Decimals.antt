-- Digits, and the decimal number that they write.
use Rattle.std.proofs.Common.{◌≡◌, ℕ, zero, suc, ◌+◌, ◌-◌, ◌*◌, ◌≤◌, ◌<◌, ℤ, pos, neg_ℤ, ◌*ℤ◌, nat_le, Bool, true, false, if◌then◌else◌, List, [], ◌∷◌, Option, Some, None, refl, sym, ap, ◌∙◌, arith}
use Rattle.std.specs.Prelude.{◌==◌, fold}
use Rattle.std.specs.List.{list_all}
use Rattle.std.proofs.Math.IntN.{neg_ℤ-+ℤ}
use Rattle.std.proofs.lemmas.Bool.{and_parts, leb-false, lt-leb}
use Rattle.form_calc.specs.Number as numbers
use Rattle.form_calc.specs.Number.{largest, is_in_range, in_range, minus, with_digit_below, zero as nothing, read_up, read_down, number_of}
use Rattle.form_calc.specs.Calculation.{is_digit}
use Rattle.form_calc.specs.Expression.{decimal}
use Rattle.form_calc.proofs.Spaces.{unlike}

abbrev shown_if : Bool → ℕ → Option ℤ
shown_if is n = if is then Some (pos n) else None

above : (m top n : ℕ) → m ≤ n → nat_le m top ≡ false → nat_le n top ≡ false
above m top n h e =
    let f : top < m = leb-false m top e in
    lt-leb n top (omega arith)

abbrev more_decimal : ℕ → List ℕ → ℕ
more_decimal m ds = fold (λ value digit. value * 10 + (digit - 48)) m ds

-- one more digit behind a number that may be out of range
further : (m d : ℕ) → numbers.with_digit (in_range (pos m)) d ≡ in_range (pos (m * 10 + (d - 48)))
further m d = by (nat_le m largest) refl
  where
    larger : m ≤ m * 10 + (d - 48)
    larger = omega arith

    added : m * 10 ≤ m * 10 + (d - 48)
    added = omega arith

    more : (is : Bool) → nat_le (m * 10) largest ≡ is → numbers.plus (shown_if is (m * 10)) (Some (pos (d - 48))) ≡ in_range (pos (m * 10 + (d - 48)))
    more true e = refl
    more false e = sym (ap (λ (is : Bool). shown_if is (m * 10 + (d - 48))) (above (m * 10) largest (m * 10 + (d - 48)) added e))

    by : (is : Bool) → nat_le m largest ≡ is → numbers.with_digit (shown_if is m) d ≡ in_range (pos (m * 10 + (d - 48)))
    by true e = more (nat_le (m * 10) largest) refl
    by false e = sym (ap (λ (is : Bool). shown_if is (m * 10 + (d - 48))) (above m largest (m * 10 + (d - 48)) larger e))

up : (m : ℕ) (ds : List ℕ) → read_up (in_range (pos m)) ds ≡ in_range (pos (more_decimal m ds))
unfolding read_up
up m [] = refl
up m (d ∷ ds) = ap (λ n. read_up n ds) (further m d) ∙ up (m * 10 + (d - 48)) ds

-- ---- below 0

abbrev chosen : Bool → ℤ → Option ℤ
chosen is n = if is then Some n else None

abbrev below : ℕ → ℤ
below m = neg_ℤ (pos m)

tenfold : (m : ℕ) → below m *ℤ pos 10 ≡ below (m * 10)
tenfold zero = refl
tenfold (suc m) = refl

above_below : (m n : ℕ) → m ≤ n → is_in_range (below m) ≡ false → is_in_range (below n) ≡ false
above_below zero n h e = absurd cc
above_below (suc m) zero h e = absurd (omega arith)
above_below (suc m) (suc n) h e = let k : m ≤ n = omega arith in above m largest n k e

further_below : (m d : ℕ) → with_digit_below (in_range (below m)) d ≡ in_range (below (m * 10 + (d - 48)))
further_below m d = by (is_in_range (below m)) refl
  where
    larger : m ≤ m * 10 + (d - 48)
    larger = omega arith

    added : m * 10 ≤ m * 10 + (d - 48)
    added = omega arith

    out : is_in_range (below (m * 10 + (d - 48))) ≡ false → None ≡ in_range (below (m * 10 + (d - 48)))
    out e = sym (ap (λ (is : Bool). chosen is (below (m * 10 + (d - 48)))) e)

    more : (is : Bool) → is_in_range (below (m * 10)) ≡ is → minus (chosen is (below (m * 10))) (Some (pos (d - 48))) ≡ in_range (below (m * 10 + (d - 48)))
    more true e = ap in_range (sym (neg_ℤ-+ℤ (pos (m * 10)) (pos (d - 48))))
    more false e = out (above_below (m * 10) (m * 10 + (d - 48)) added e)

    by : (is : Bool) → is_in_range (below m) ≡ is → with_digit_below (chosen is (below m)) d ≡ in_range (below (m * 10 + (d - 48)))
    by true e = ap (λ n. minus (in_range n) (Some (pos (d - 48)))) (tenfold m) ∙ more (is_in_range (below (m * 10))) refl
    by false e = out (above_below m (m * 10 + (d - 48)) larger e)

down : (m : ℕ) (ds : List ℕ) → read_down (in_range (below m)) ds ≡ in_range (below (more_decimal m ds))
unfolding read_down
down m [] = refl
down m (d ∷ ds) = ap (λ n. read_down n ds) (further_below m d) ∙ down (m * 10 + (d - 48)) ds

-- ---- the sign

abbrev number_if : Bool → Bool → List ℕ → List ℕ → Option ℤ
number_if minus plus digits text = if minus then read_down nothing digits else (if plus then read_up nothing digits else read_up nothing text)

pub number_alone : (ds : List ℕ) → list_all is_digit ds ≡ true → number_of ds ≡ in_range (pos (decimal ds))
number_alone [] h = refl
number_alone (d ∷ ds) h =
    let digit = (and_parts (is_digit d) (list_all is_digit ds) h).0 in
    ap (λ (is : Bool). number_if is (d == 43) ds (d ∷ ds)) (unlike is_digit d 45 digit refl)
    ∙ ap (λ (is : Bool). number_if false is ds (d ∷ ds)) (unlike is_digit d 43 digit refl)
    ∙ up 0 (d ∷ ds)

pub number_above : (ds : List ℕ) → list_all is_digit ds ≡ true → number_of (43 ∷ ds) ≡ in_range (pos (decimal ds))
number_above ds h = up 0 ds

pub number_below : (ds : List ℕ) → list_all is_digit ds ≡ true → number_of (45 ∷ ds) ≡ in_range (neg_ℤ (pos (decimal ds)))
number_below ds h = down 0 ds
