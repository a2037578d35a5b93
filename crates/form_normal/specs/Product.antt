-- The product of terms with their coefficients.
use Rattle.std.specs.Prelude.{◌≡◌, ℕ, ◌+◌, ◌/◌, ◌%◌, ◌==◌, max, nat_le, Bool, true, false, not, ◌&&◌, ◌||◌, ℤ, pos, ◌+ℤ◌, nat_abs, List, [], ◌∷◌, ◌++◌, map, filter, flat_map, fold, sum, Option, Some, None, option_map, option_and_then, Result, Ok, Err, if◌then◌else◌}
use Rattle.std.specs.List.{range_with_len, list_all, list_any}
use Rattle.form_base.specs.declared.cause.Cause.{Cause}
use Rattle.form_base.specs.declared.cause.Cause.TheVariants.{Overflow, PowerRange, TermSize}
use Rattle.form_frac.specs.Fraction.{Fraction, whole, multiply, negate}
use Rattle.form_term.specs.Factor.{imaginary_factor, function_factor, non_commuting_factor}
use Rattle.form_term.specs.Term.{Term, Others, Call, one, symbol_power, exponent_of, reach_of, powers_of, imaginary_exponent, component_order, delta_order, call_order, largest_exponent, largest_size, largest_depth, size, depth}
use Rattle.form_term.specs.declared.power.Power.{Power}
use Rattle.form_term.specs.declared.power.DotPower.{DotPower}
use Rattle.form_term.specs.declared.index.Index.{Index}
use Rattle.form_term.specs.declared.index.Index.TheVariants.{Fixed, Declared, Dummy}
use Rattle.form_term.specs.declared.index.Delta.{Delta}
use Rattle.form_term.specs.declared.monomial.Monomial.{Monomial}
use Rattle.form_normal.specs.declared.products.ProductError.{ProductError}
use Rattle.form_normal.specs.declared.products.ProductError.TheVariants.{Refused, Memory}
use Rattle.form_normal.specs.Lists.{in_order, dots_product}

-- the left fold of the factors' coefficients by `multiply`, 1 without factors; none where a product overflows
abbrev pub coefficient_of : List Monomial → Option Fraction
coefficient_of [] = Some (whole (pos 1))
coefficient_of (m ∷ ms) = fold (λ c n. option_and_then (λ a. multiply a n.coefficient) c) (Some m.coefficient) ms

-- how many factors have `i_`
abbrev pub imaginary_count : List Term → ℕ
imaginary_count ts = sum (map imaginary_exponent ts)

-- the sign of a product: two `i_` are -1
abbrev pub is_turned : List Term → Bool
is_turned ts = (imaginary_count ts / 2) % 2 == 1

abbrev pub turned : Bool → Fraction → Fraction
turned is_negative c = if is_negative then negate c else c

-- the exponent of a symbol in a product of terms: the sum of its exponents in the factors
abbrev pub exponent_sum : List Term → ℕ → ℤ
exponent_sum [] symbol = pos 0
exponent_sum (t ∷ ts) symbol = exponent_of t symbol +ℤ exponent_sum ts symbol

-- how many symbols are declared up to the last one of these terms
abbrev pub reach_of_all : List Term → ℕ
reach_of_all [] = 0
reach_of_all (t ∷ ts) = max (reach_of t.symbols) (reach_of_all ts)

-- The powers of symbols in a product, by their exponents.
unfoldable pub symbols_product : List Term → List Power
symbols_product ts = powers_of (range_with_len 0 (reach_of_all ts)) (exponent_sum ts)

-- a delta of two equal fixed indices is 1, and of two different ones 0
abbrev pub is_one_of : Index → Index → Bool
is_one_of (Fixed m) (Fixed n) = m == n
is_one_of i j = false

abbrev pub is_zero_of : Index → Index → Bool
is_zero_of (Fixed m) (Fixed n) = not (m == n)
is_zero_of i j = false

abbrev pub is_one : Delta → Bool
is_one d = is_one_of d.first d.second

abbrev pub is_zero : Delta → Bool
is_zero d = is_zero_of d.first d.second

-- whether both indices are fixed
abbrev pub is_fixed : Delta → Bool
is_fixed d = is_one d || is_zero d

-- whether a product is 0
abbrev pub vanishes : List Term → Bool
vanishes ts = list_any is_zero (flat_map (λ t. t.others.deltas) ts)

-- The other factors of a product: dot products with the sums of their exponents, the lists joined and in order, and
-- the non-commuting functions as they stand one after another.
unfoldable pub others_product : List Term → Others
others_product ts = record {
  is_imaginary = imaginary_count ts % 2 == 1;
  dots = dots_product (flat_map (λ t. t.others.dots) ts);
  components = in_order component_order (flat_map (λ t. t.others.components) ts);
  deltas = filter (λ d. not (is_one d)) (in_order delta_order (flat_map (λ t. t.others.deltas) ts));
  functions = in_order call_order (flat_map (λ t. t.others.functions) ts);
  word = flat_map (λ t. t.others.word) ts;
}

-- The product of terms without regard to limits.
abbrev pub term_product : List Term → Term
term_product ts = record { symbols = symbols_product ts; others = others_product ts }

-- whether each exponent is within its limit
abbrev pub are_in_range : List Power → Bool
are_in_range ps = list_all (λ p. nat_le (nat_abs p.exponent) largest_exponent) ps

abbrev pub are_dots_in_range : List DotPower → Bool
are_dots_in_range ds = list_all (λ d. nat_le (nat_abs d.exponent) largest_exponent) ds

-- a term within the limits; one with an exponent past its limit is refused, and then one with too many factors or
-- nested too deep
abbrev pub limited : Term → Result Term Cause
limited t =
    if are_in_range t.symbols && are_dots_in_range t.others.dots
    then (if nat_le (size t) largest_size && nat_le (depth t) largest_depth then Ok t else Err TermSize)
    else Err PowerRange

-- a coefficient and a term together
abbrev pub joined : Option Fraction → Result Term Cause → Result (Option Monomial) Cause
joined None term = Err Overflow
joined (Some c) (Ok t) = Ok (Some (record { coefficient = c; term = t }))
joined (Some c) (Err cause) = Err cause

-- The product of factors, from the left: none where it is 0; else the product, or the cause of its refusal, which is
-- first that of the coefficients, then that of the exponents, then that of the size.
unfoldable pub product : List Monomial → Result (Option Monomial) Cause
product factors =
    let ts = map (λ m. m.term) factors in
    if vanishes ts then Ok None else joined (option_map (turned (is_turned ts)) (coefficient_of factors)) (limited (term_product ts))

-- the product of two factors
abbrev pub product_of : Monomial → Monomial → Result (Option Monomial) Cause
product_of left right = product (left ∷ right ∷ [])

-- a number as a factor
abbrev pub number_alone : Fraction → Monomial
number_alone number = record { coefficient = number; term = one }

-- a power of a symbol as a factor
abbrev pub power_alone : Power → Monomial
power_alone power = record { coefficient = whole (pos 1); term = symbol_power power.symbol power.exponent }

-- `i_` as a factor
abbrev pub imaginary_alone : Monomial
imaginary_alone = record { coefficient = whole (pos 1); term = imaginary_factor }

-- a commuting and a non-commuting function as a factor
abbrev pub function_alone : Call → Monomial
function_alone c = record { coefficient = whole (pos 1); term = function_factor c }

abbrev pub word_alone : Call → Monomial
word_alone c = record { coefficient = whole (pos 1); term = non_commuting_factor c }

-- a factor is what 1 gives with it, and what it gives as a product alone
pub record StandsAlone (m : Monomial) : Type 0 where
  pub by_one : product_of (record { coefficient = whole (pos 1); term = one }) m ≡ Ok (Some m)
  pub alone : product (m ∷ []) ≡ Ok (Some m)

-- What multiplying by a factor answered, where the front was old and is new: whether there is a product, or why it is
-- refused. Without a product the front is as it was.
abbrev pub Multiplies : Result Bool ProductError → Monomial → Monomial → Monomial → Type 0
Multiplies (Ok true) old factor new = product_of old factor ≡ Ok (Some new)
Multiplies (Ok false) old factor new = (product_of old factor ≡ Ok None) × (new ≡ old)
Multiplies (Err (Refused cause)) old factor new = (product_of old factor ≡ Err cause) × (new ≡ old)
Multiplies (Err Memory) old factor new = new ≡ old

-- as a factor alone it is past the limits of terms
abbrev pub IsTooLarge : Term → Type 0
IsTooLarge t = product (record { coefficient = whole (pos 1); term = t } ∷ []) ≡ Err TermSize
