-- Digits by places.
use Rattle.std.proofs.Common.{◌≡◌, ◌∙◌, refl, ap, ℕ, ◌+◌, ◌-◌, ◌*◌, ◌/◌, ◌%◌, ◌<◌, max, ◌⊎◌, inl, inr, eq-zero-or-pos, List, [], ◌∷◌, length, get_or, take, drop, arith, zero, suc, add-one}
use Rattle.std.proofs.lemmas.List.{get_or_past}
use Rattle.std.proofs.lemmas.List.Sums.{fold_more}
use Rattle.form_number.specs.Numbers.{value_of}
use Rattle.form_number.specs.Totals.{units, units_below, with_digit, AreDigits}

-- the digit at a place, and those above it
units_drop : (digits : List ℕ) (place : ℕ) → units (drop place digits) ≡ get_or digits place 0 + 10 * units (drop (place + 1) digits)
units_drop [] zero = refl
units_drop [] (suc place) = rw add-one refl
units_drop (digit ∷ digits) zero = refl
units_drop (digit ∷ digits) (suc place) = rw add-one (rw add-one at (units_drop digits place))

-- A digit that is put at a place is above those before it.
below_with_digit : (digits : List ℕ) (place digit above : ℕ) → units_below (take (place + 1) (with_digit digits place digit)) above ≡ units_below (take place digits) (digit + 10 * above)
below_with_digit digits zero digit above = refl
below_with_digit [] (suc place) digit above = rw add-one refl
below_with_digit (first ∷ digits) (suc place) digit above = rw add-one (rw add-one at (ap (λ rest. first + 10 * rest) (below_with_digit digits place digit above)))

-- Those above it stay as they were.
drop_with_digit : (digits : List ℕ) (place digit : ℕ) → drop (place + 1) (with_digit digits place digit) ≡ drop (place + 1) digits
drop_with_digit digits zero digit = refl
drop_with_digit [] (suc place) digit = rw add-one refl
drop_with_digit (first ∷ digits) (suc place) digit = rw add-one (rw add-one at (drop_with_digit digits place digit))

-- both at once, with a number that is to be added above it
digit_written : (old new : List ℕ) (place digit above : ℕ) → new ≡ with_digit old place digit → units_below (take (place + 1) new) (above + units (drop (place + 1) new)) ≡ units_below (take place old) (digit + 10 * (above + units (drop (place + 1) old)))
digit_written old new place digit above written = rw written (rw (drop_with_digit old place digit) (below_with_digit old place digit _))

-- What is left to add is the carry, at the next place.
pub carried : (old new : List ℕ) (place value carry : ℕ) → carry ≡ (get_or old place 0 + value) / 10 → new ≡ with_digit old place ((get_or old place 0 + value) % 10) → units_below (take (place + 1) new) (carry + units (drop (place + 1) new)) ≡ units_below (take place old) (value + units (drop place old))
carried old new place value carry over written = digit_written old new place _ carry written ∙ ap (units_below (take place old)) (omega (arith, over, units_drop old place))

-- Behind the last digit it is 0.
pub digit_below : (digits : List ℕ) (place : ℕ) → AreDigits digits → get_or digits place 0 < 10
digit_below digits place are = at (eq-zero-or-pos (length digits - place))
  where
    at : (length digits - place ≡ 0) ⊎ (0 < length digits - place) → get_or digits place 0 < 10
    at (inl none) = let last = get_or_past digits place 0 (omega arith) in omega arith
    at (inr within) = are place 0 (omega arith)

-- A carry that stays as it was has fewer digits before it: adding it comes to an end.
pub carry_falls : (digits : List ℕ) (place value carry after : ℕ) → AreDigits digits → 0 < value → carry ≡ (get_or digits place 0 + value) / 10 → after ≡ max (length digits) (place + 1) → carry + (after - (place + 1)) < value + (length digits - place)
carry_falls digits place value carry after are some over long = at (eq-zero-or-pos (length digits - place))
  where
    at : (length digits - place ≡ 0) ⊎ (0 < length digits - place) → carry + (after - (place + 1)) < value + (length digits - place)
    at (inl none) = let last = get_or_past digits place 0 (omega arith) in omega arith
    at (inr within) = omega (arith, digit_below digits place are)

-- Digits are parted at any place.
pub units_parted : (digits : List ℕ) (place : ℕ) → units_below (take place digits) (units (drop place digits)) ≡ units digits
units_parted [] zero = refl
units_parted [] (suc place) = refl
units_parted (digit ∷ digits) zero = refl
units_parted (digit ∷ digits) (suc place) = ap (λ rest. digit + 10 * rest) (units_parted digits place)

-- the last of some bytes is the lowest digit
value_more : (bytes : List ℕ) (place : ℕ) → place < length bytes → value_of (take (place + 1) bytes) ≡ (get_or bytes place 0 - 48) + 10 * value_of (take place bytes)
value_more bytes place within = omega (arith, fold_more (λ value digit. value * 10 + (digit - 48)) 0 bytes place 0 within)

-- What is left to add is the carry and the bytes before this one, at the next place.
pub byte_carried : (old new bytes : List ℕ) (place carry value next : ℕ) → place < length bytes → value ≡ carry + (get_or bytes (length bytes - 1 - place) 0 - 48) → next ≡ (get_or old place 0 + value) / 10 → new ≡ with_digit old place ((get_or old place 0 + value) % 10) → units_below (take (place + 1) new) (next + value_of (take (length bytes - (place + 1)) bytes) + units (drop (place + 1) new)) ≡ units_below (take place old) (carry + value_of (take (length bytes - place) bytes) + units (drop place old))
byte_carried old new bytes place carry value next within sum over written =
    let same : length bytes - (place + 1) ≡ length bytes - 1 - place = omega arith in
    let more : length bytes - place ≡ (length bytes - 1 - place) + 1 = omega arith in
    let byte = value_more bytes (length bytes - 1 - place) (omega arith) in
    rw (same, more) (digit_written old new place _ _ written ∙ ap (units_below (take place old)) (omega (arith, sum, over, byte, units_drop old place)))
