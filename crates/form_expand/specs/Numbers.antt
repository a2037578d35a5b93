-- The lists of numbers and symbols, each to a power.
use Rattle.std.specs.Prelude.{ℕ, zero, suc, ℤ, pos, negsuc, nat_abs, nat_le, if◌then◌else◌, Option, Some, None, option_and_then, Result, Ok, Err}
use Rattle.form_base.specs.declared.cause.Cause.TheVariants.{Overflow, DivideByZero, PowerRange}
use Rattle.form_frac.specs.Fraction.{Fraction, whole, largest, make, multiply, is_zero}
use Rattle.form_frac.specs.declared.frac_error.FracError.{FracError}
use Rattle.form_frac.specs.declared.frac_error.FracError.TheVariants as errors
use Rattle.form_term.specs.Term.{one, symbol_power, largest_exponent}
use Rattle.form_term.specs.Monomial.{unit}
use Rattle.form_expand.specs.Listing.{Listing, nothing, single, refusal}

-- a fraction times itself, so many factors from the left; none where a product overflows
unfoldable pub raised : Fraction → ℕ → Option Fraction
raised f zero = Some (whole (pos 1))
raised f (suc zero) = Some f
raised f (suc (suc k)) = option_and_then (λ p. multiply p f) (raised f (suc k))

abbrev pub of_coefficient : Option Fraction → Listing
of_coefficient None = refusal Overflow
of_coefficient (Some f) = single (record { coefficient = f; term = one })

-- a fraction to a power of at least 1; 0 has no terms
abbrev pub of_fraction : Result Fraction FracError → ℕ → Listing
of_fraction (Err errors.Overflow) k = refusal Overflow
of_fraction (Err errors.DivideByZero) k = refusal DivideByZero
of_fraction (Ok f) k = if is_zero f then nothing else of_coefficient (raised f k)

-- A whole number to a power, a negative power being one of its inverse. Power 0 is 1.
unfoldable pub number_list : ℕ → ℤ → Listing
number_list n (pos zero) = single unit
number_list n (pos (suc k)) = if nat_le n largest then of_fraction (make (pos n) (pos 1)) (suc k) else refusal Overflow
number_list n (negsuc k) = if nat_le n largest then of_fraction (make (pos 1) (pos n)) (suc k) else refusal Overflow

-- a symbol to a power
unfoldable pub symbol_list : ℕ → ℤ → Listing
symbol_list s k = if nat_le (nat_abs k) largest_exponent then single (record { coefficient = whole (pos 1); term = symbol_power s k }) else refusal PowerRange
