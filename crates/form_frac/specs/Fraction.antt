-- Coefficients: fractions in lowest terms, and how they are reckoned with.
use Rattle.std.specs.Prelude.{◌≡◌, ℕ, zero, suc, ◌≤◌, ◌*◌, ◌/◌, ◌%◌, max, ℤ, pos, negsuc, ◌+ℤ◌, ◌*ℤ◌, neg_ℤ, nat_abs, Bool, ◌==◌, ◌&&◌, nat_le, if◌then◌else◌, Option, Some, None, Result, Err}
use Rattle.std.specs.Int.{is_negative}
use Rattle.std.specs.Option.{ok_or}
use Rattle.std.specs.Ordering.{int_cmp}
use Rattle.std.specs.declared.cmp.Ordering.{Ordering}
use Rattle.form_frac.specs.declared.frac_error.FracError.{FracError}
use Rattle.form_frac.specs.declared.frac_error.FracError.TheVariants.{Overflow, DivideByZero}

-- A numerator with its sign over a denominator.
pub record Fraction : Type 0 where
  pub numerator : ℤ
  pub denominator : ℕ

-- the size that neither may pass, 2^127-1
abbrev pub largest : ℕ
largest = 170141183460469231731687303715884105727

-- a whole number
abbrev pub whole : ℤ → Fraction
whole n = record { numerator = n; denominator = 1 }

-- the greatest number from n down that divides both, 0 where there is none
unfoldable pub divisor_from : ℕ → ℕ → ℕ → ℕ
divisor_from zero a b = 0
divisor_from (suc n) a b = if (a % suc n == 0) && (b % suc n == 0) then suc n else divisor_from n a b

-- The greatest common divisor: the greatest number that divides both, and 0 for 0 and 0.
unfoldable pub gcd : ℕ → ℕ → ℕ
gcd a b = divisor_from (max a b) a b

-- a number over g, without a rest where g divides it
abbrev pub over : ℤ → ℕ → ℤ
over (pos n) g = pos (n / g)
over (negsuc n) g = neg_ℤ (pos (suc n / g))

-- n/d in lowest terms, d being at least 1
unfoldable pub reduced : ℤ → ℕ → Fraction
reduced n d = let g = gcd (nat_abs n) d in record { numerator = over n g; denominator = d / g }

-- a number by its sign and its size
abbrev pub signed : Bool → ℕ → ℤ
signed is_below size = if is_below then neg_ℤ (pos size) else pos size

abbrev pub is_in_range : ℤ → Bool
is_in_range n = nat_le (nat_abs n) largest

-- What a coefficient is: in lowest terms over at least 1, and both parts in range.
pub record IsLowest (f : Fraction) : Type 0 where
  pub is_over_some : 1 ≤ f.denominator
  pub is_coprime : gcd (nat_abs f.numerator) f.denominator ≡ 1
  pub is_small_above : nat_abs f.numerator ≤ largest
  pub is_small_below : f.denominator ≤ largest

-- a fraction, where both of its parts are in range
abbrev pub in_range : Fraction → Option Fraction
in_range f = if is_in_range f.numerator && nat_le f.denominator largest then Some f else None

-- n over d in lowest terms, with the sign at the numerator
unfoldable pub make : ℤ → ℤ → Result Fraction FracError
make n (pos zero) = Err DivideByZero
make n (pos (suc d)) = ok_or (in_range (reduced n (suc d))) Overflow
make n (negsuc d) = ok_or (in_range (reduced (neg_ℤ n) (suc d))) Overflow

-- the least common multiple
unfoldable pub lcm : ℕ → ℕ → ℕ
lcm a b = a * (b / gcd a b)

-- The sum: both are brought to the least common multiple of their denominators, and what comes is reduced. It overflows
-- exactly where that multiple, a brought numerator or their sum is out of range.
unfoldable pub add : Fraction → Fraction → Option Fraction
add a b =
    let common = lcm a.denominator b.denominator in
    let left = a.numerator *ℤ pos (common / a.denominator) in
    let right = b.numerator *ℤ pos (common / b.denominator) in
    let all_in_range = nat_le common largest && (is_in_range left && (is_in_range right && is_in_range (left +ℤ right))) in
    if all_in_range then Some (reduced (left +ℤ right) common) else None

-- The product in lowest terms. It overflows exactly where a part of that is out of range.
unfoldable pub multiply : Fraction → Fraction → Option Fraction
multiply a b = in_range (reduced (a.numerator *ℤ b.numerator) (a.denominator * b.denominator))

-- a fraction upside down, with the sign at the numerator; none for 0
abbrev pub reciprocal : Fraction → Option Fraction
reciprocal f = turned f.numerator f.denominator
  where
    turned : ℤ → ℕ → Option Fraction
    turned (pos zero) d = None
    turned (pos (suc n)) d = Some (record { numerator = pos d; denominator = suc n })
    turned (negsuc n) d = Some (record { numerator = neg_ℤ (pos d); denominator = suc n })

abbrev pub negate : Fraction → Fraction
negate a = record { numerator = neg_ℤ a.numerator; denominator = a.denominator }

-- The order by value: a/b is below c/d where a*d is below c*b.
unfoldable pub compare : Fraction → Fraction → Ordering
compare a b = int_cmp (a.numerator *ℤ pos b.denominator) (b.numerator *ℤ pos a.denominator)

-- The value of a fraction is n/d: its numerator times d is n times its denominator.
abbrev pub HasValue : Fraction → ℤ → ℤ → Type 0
HasValue f n d = f.numerator *ℤ d ≡ n *ℤ pos f.denominator

abbrev pub is_zero : Fraction → Bool
is_zero a = nat_abs a.numerator == 0

-- 1 or -1
abbrev pub has_size_one : Fraction → Bool
has_size_one a = (nat_abs a.numerator == 1) && (a.denominator == 1)

abbrev pub is_below_zero : Fraction → Bool
is_below_zero a = is_negative a.numerator
