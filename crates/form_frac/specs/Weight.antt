-- Weights: how large sums of fractions can become, in whatever order they are added.
use Rattle.std.specs.Prelude.{◌≡◌, ◌≤◌, ◌<◌, ℕ, ◌+◌, ◌*◌, ◌/◌, ◌&&◌, nat_le, nat_abs, ℤ, pos, ◌+ℤ◌, ◌*ℤ◌, if◌then◌else◌, List, [], ◌∷◌, map, flat_map, fold, sum_by, length, Option, Some, None, option_and_then}
use Rattle.std.specs.Int.{◌∣◌}
use Rattle.std.specs.List.{AllByRecursion}
use Rattle.form_frac.specs.Fraction.{Fraction, IsLowest, largest, lcm, add, reduced}

-- A number that the denominators of some fractions divide, and what the sizes of their numerators add up to at most, once
-- they are brought to it.
pub record Weight : Type 0 where
  pub denominator : ℕ
  pub size : ℕ

-- what holds of each: over at least 1, and both in range
pub record IsWeight (w : Weight) : Type 0 where
  pub is_over_some : 1 ≤ w.denominator
  pub is_small_below : w.denominator ≤ largest
  pub is_small_above : w.size ≤ largest

-- a weight, where both of its parts are in range
abbrev pub if_in_range : Weight → Option Weight
if_in_range w = if nat_le w.denominator largest && nat_le w.size largest then Some w else None

-- that of one fraction
abbrev pub of : Fraction → Weight
of f = record { denominator = f.denominator; size = nat_abs f.numerator }

-- Of fractions and others: brought to the least common multiple and added. None exactly where a part is out of range.
unfoldable pub join : Weight → Weight → Option Weight
join a b =
    let common = lcm a.denominator b.denominator in
    if_in_range (record { denominator = common; size = a.size * (common / a.denominator) + b.size * (common / b.denominator) })

-- Of the products of each of some fractions with each of others. None exactly where a part is out of range.
unfoldable pub times : Weight → Weight → Option Weight
times a b = if_in_range (record { denominator = a.denominator * b.denominator; size = a.size * b.size })

-- ---- what they weigh

-- a fraction brought to a number that its denominator divides: its numerator over that
abbrev pub brought : ℕ → Fraction → ℤ
brought k f = f.numerator *ℤ pos (k / f.denominator)

abbrev pub brought_sum : ℕ → List Fraction → ℤ
brought_sum k [] = pos 0
brought_sum k (f ∷ fs) = brought k f +ℤ brought_sum k fs

abbrev pub brought_sizes : ℕ → List Fraction → ℕ
brought_sizes k fs = sum_by (λ f. nat_abs (brought k f)) fs

-- the sum of fractions over a number that their denominators divide; over each such number it is the same
abbrev pub sum_over : ℕ → List Fraction → Fraction
sum_over k fs = reduced (brought_sum k fs) k

-- A fraction is the sum of these, of which there is one at least, and they weigh so much at most.
pub record IsSum (w : Weight) (total : Fraction) (fs : List Fraction) : Type 0 where
  pub some : 0 < length fs
  pub lowest : AllByRecursion IsLowest fs
  pub divided : AllByRecursion (λ f. f.denominator ∣ w.denominator) fs
  pub sizes : brought_sizes w.denominator fs ≤ w.size
  pub is : total ≡ sum_over w.denominator fs

-- ---- products

-- a fraction times another one, whatever its parts
abbrev pub product : Fraction → Fraction → Fraction
product f g = reduced (f.numerator *ℤ g.numerator) (f.denominator * g.denominator)

-- each of some fractions times each of others
abbrev pub products : List Fraction → List Fraction → List Fraction
products fs gs = flat_map (λ f. map (product f) gs) fs

-- ---- the left fold

-- a fraction and others behind it, added from left to right; none where that overflows
abbrev pub added_up : Fraction → List Fraction → Option Fraction
added_up f fs = fold (λ sum g. option_and_then (λ a. add a g) sum) (Some f) fs
