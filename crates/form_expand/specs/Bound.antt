-- The lists of symbols that wildcards stand for, and of factors to a power that a wildcard stands for: each as a list and the
-- power that it is written out to.
use Rattle.std.specs.Prelude.{ℕ, ℤ, neg_ℤ, nat_abs, nat_le, ◌==◌, Bool, true, false, not, ◌&&◌, ◌||◌, if◌then◌else◌, List, [], ◌∷◌, map, Option, Some, None, option_map}
use Rattle.std.specs.Int.{is_negative}
use Rattle.form_base.specs.declared.cause.Cause.{Cause}
use Rattle.form_base.specs.declared.cause.Cause.TheVariants.{DivideByZero, PowerRange}
use Rattle.form_frac.specs.Fraction.{Fraction, reciprocal}
use Rattle.form_term.specs.declared.monomial.Monomial.{Monomial}
use Rattle.form_term.specs.declared.power.DotPower.{DotPower}
use Rattle.form_term.specs.declared.power.Power.{Power}
use Rattle.form_term.specs.Monomial.{unit}
use Rattle.form_term.specs.Term.{Term, Others, is_nothing}
use Rattle.form_normal.specs.Product.{product}
use Rattle.form_tree.specs.declared.tree.Base.{Base}
use Rattle.form_tree.specs.declared.tree.Base.TheVariants as bases
use Rattle.form_expand.specs.declared.ended.Ended.{Ended}
use Rattle.form_expand.specs.declared.ended.Ended.TheVariants as ends
use Rattle.form_expand.specs.Listing.{Listing, single, refusal, powers}
use Rattle.form_expand.specs.Meanings.{Meanings, vector_of, index_of, component_of, terms_bound, exponent_bound}
use Rattle.form_expand.specs.Numbers.{number_list, symbol_list}
use Rattle.form_expand.specs.Singles.{of_product, imaginary_list, dot_list, component_list, delta_list}

-- a list to a power, written out
abbrev pub powered : ℕ → Listing × ℕ → Listing
powered max f = powers max f.0 f.1

-- a list that is refused in place of a power
abbrev pub refused_power : Listing × ℕ
refused_power = (refusal PowerRange, 1)

-- an exponent behind a sign, or after `/`
abbrev pub turned_by : Bool → ℤ → ℤ
turned_by is_turned k = if is_turned then neg_ℤ k else k

-- besides symbols and dot products there is nothing
abbrev pub is_invertible : Term → Bool
is_invertible t = is_nothing (record t.others { dots = [] })

abbrev pub turned_power : Power → Power
turned_power p = record { symbol = p.symbol; exponent = neg_ℤ p.exponent }

abbrev pub turned_dot : DotPower → DotPower
turned_dot d = record { left = d.left; right = d.right; exponent = neg_ℤ d.exponent }

-- dot products alone
abbrev pub of_dots : List DotPower → Others
of_dots ds = record { is_imaginary = false; dots = ds; components = []; deltas = []; functions = []; word = [] }

abbrev pub turned_exponents : Term → Term
turned_exponents t = record { symbols = map turned_power t.symbols; others = record t.others { dots = map turned_dot t.others.dots } }

abbrev pub inverted_by : Term → Option Fraction → Listing
inverted_by t None = refusal DivideByZero
inverted_by t (Some c) = of_product (product (record { coefficient = c; term = turned_exponents t } ∷ []))

-- The inverse of an expression: 0 has none, and of others those alone that are one term of a number, symbols and dot
-- products.
unfoldable pub inverse : List Monomial → Listing
inverse [] = refusal DivideByZero
inverse (m ∷ []) = if is_invertible m.term then inverted_by m.term (reciprocal m.coefficient) else refusal PowerRange
inverse (m ∷ n ∷ ms) = refusal PowerRange

abbrev pub as_it_is : List Monomial → Listing
as_it_is ms = record { terms = ms; end = None }

abbrev pub unless_refused : Option Cause → Listing → Listing
unless_refused None l = l
unless_refused (Some cause) l = refusal cause

-- What is to be multiplied where an expression stands after `/` or not, to a negative power or not: where either inverts, it
-- has to have an inverse, also where they cancel.
abbrev pub base_of : Bool → Bool → List Monomial → Listing
base_of false false ms = as_it_is ms
base_of true true ms = unless_refused (inverse ms).end (as_it_is ms)
base_of true false ms = inverse ms
base_of false true ms = inverse ms

-- A symbol that stands for these terms, to a power; to the power 0 it is 1. It stands for itself where it isn't bound.
abbrev pub wild_list_by : ℕ → Bool → ℤ → Option (List Monomial) → Listing × ℕ
wild_list_by s is_over k None = (symbol_list s (turned_by is_over k), 1)
wild_list_by s is_over k (Some ms) = if nat_abs k == 0 then (single unit, 1) else (base_of is_over (is_negative k) ms, nat_abs k)

unfoldable pub wild_list : Meanings → ℕ → Bool → ℤ → Listing × ℕ
wild_list all s is_over k = wild_list_by s is_over k (terms_bound all s)

-- the largest power, in size, of what isn't a symbol or a dot product
abbrev pub largest_power : ℕ
largest_power = 1000

-- the exponent of a number, where an inverse of 0 stays one after `/` too
abbrev pub number_exponent : ℕ → Bool → ℤ → ℤ
number_exponent n is_over k = if (n == 0) && is_negative k then k else turned_by is_over k

abbrev pub number_raised : ℕ → Bool → ℤ → Listing × ℕ
number_raised n is_over k = if nat_le (nat_abs k) largest_power then (number_list n (number_exponent n is_over k), 1) else refused_power

-- The exponent that a wildcard stands for, behind its sign; none where it stands for no whole number.
abbrev pub exponent_in : Meanings → Bool → ℕ → Option ℤ
exponent_in all is_minus n = option_map (turned_by is_minus) (exponent_bound all n)

abbrev pub to_exponent : (ℤ → Listing × ℕ) → Option ℤ → Listing × ℕ
to_exponent list None = refused_power
to_exponent list (Some k) = list k

-- an exponent as a power of what has no inverse
abbrev pub power_in : Option ℤ → Option ℕ
power_in None = None
power_in (Some k) = if is_negative k || not (nat_le (nat_abs k) largest_power) then None else Some (nat_abs k)

abbrev pub with_power : Listing → Option ℕ → Listing × ℕ
with_power l None = refused_power
with_power l (Some n) = (l, n)

-- a list to such a power
abbrev pub raised : Listing → Option ℤ → Listing × ℕ
raised l k = with_power l (power_in k)

-- a base that is one piece
unfoldable pub list_of_base : Meanings → Base → Bool → Option ℤ → Listing × ℕ
list_of_base all (bases.Number n) is_over k = to_exponent (number_raised n is_over) k
list_of_base all (bases.Symbol s) is_over k = to_exponent (λ k. (symbol_list s (turned_by is_over k), 1)) k
list_of_base all (bases.Wild s) is_over k = to_exponent (wild_list all s is_over) k
list_of_base all (bases.Dot p q) is_over k = to_exponent (λ k. (dot_list (vector_of all p) (vector_of all q) (turned_by is_over k), 1)) k
list_of_base all bases.Imaginary is_over k = raised imaginary_list k
list_of_base all (bases.Component c) is_over k = raised (component_list (component_of all c)) k
list_of_base all (bases.Delta i j) is_over k = raised (delta_list (index_of all i) (index_of all j)) k

-- the power to which something ends, where it is one
abbrev pub power_by : Meanings → Ended → Option ℕ
power_by all (ends.Power n) = Some n
power_by all (ends.Raised by) = power_in (exponent_in all by.is_minus by.symbol)

-- a list that ends so
abbrev pub powered_by : Meanings → Ended → Listing → Listing × ℕ
powered_by all by l = with_power l (power_by all by)
