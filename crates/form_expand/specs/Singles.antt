-- The lists of factors that are one term at most: `i_`, dot products, components, deltas and functions.
use Rattle.std.specs.Prelude.{◌≡◌, ℕ, ℤ, pos, nat_abs, nat_le, Bool, true, false, if◌then◌else◌, List, [], ◌∷◌, ◌++◌, Option, Some, None, Result, Ok, Err}
use Rattle.form_base.specs.declared.cause.Cause.{Cause}
use Rattle.form_base.specs.declared.cause.Cause.TheVariants.{Overflow, PowerRange}
use Rattle.form_frac.specs.Fraction.{whole}
use Rattle.form_term.specs.declared.index.Index.{Index}
use Rattle.form_term.specs.declared.index.Component.{Component}
use Rattle.form_term.specs.declared.monomial.Monomial.{Monomial}
use Rattle.form_term.specs.Monomial.{unit, summands_of}
use Rattle.form_term.specs.Factor.{dot_of, delta_of, imaginary_factor, dot_factor, component_factor, delta_factor, function_factor, non_commuting_factor}
use Rattle.form_term.specs.Term.{Term, Call, Argument, expression, call_of, largest_exponent}
use Rattle.form_normal.specs.Product.{product}
use Rattle.form_normal.specs.declared.products.ProductError.{ProductError}
use Rattle.form_normal.specs.declared.products.ProductError.TheVariants.{Refused, Memory}
use Rattle.form_collect.specs.Collecting.{collected}
use Rattle.form_expand.specs.Listing.{Listing, nothing, single, refusal}

-- the list of a product: its term, or none where it is 0
abbrev pub of_product : Result (Option Monomial) Cause → Listing
of_product (Ok (Some m)) = single m
of_product (Ok None) = nothing
of_product (Err cause) = refusal cause

-- a term as a factor alone
abbrev pub once : Term → Monomial
once t = record { coefficient = whole (pos 1); term = t }

-- The product of one factor.
unfoldable pub alone : Term → Listing
alone t = of_product (product (once t ∷ []))

abbrev pub imaginary_list : Listing
imaginary_list = alone imaginary_factor

-- the dot product of two vectors to a power
unfoldable pub dot_list : ℕ → ℕ → ℤ → Listing
dot_list p q k =
    if nat_le (nat_abs k) largest_exponent then (if nat_le (nat_abs k) 0 then single unit else alone (dot_factor (dot_of p q k))) else refusal PowerRange

abbrev pub component_list : Component → Listing
component_list c = alone (component_factor c)

-- the delta of two indices
abbrev pub delta_list : Index → Index → Listing
delta_list i j = alone (delta_factor (delta_of i j))

-- the collected terms of a list as an argument; none where a sum of coefficients overflows
abbrev pub of_collected : Option (List Monomial) → Result Argument Cause
of_collected None = Err Overflow
of_collected (Some terms) = Ok (expression (summands_of terms))

abbrev pub argument_by : List Monomial → Option Cause → Result Argument Cause
argument_by terms None = of_collected (collected terms)
argument_by terms (Some cause) = Err cause

-- An argument that is an expression: its list is collected, where it isn't refused.
unfoldable pub argument_of : Listing → Result Argument Cause
argument_of l = argument_by l.terms l.end

-- one argument as a list
abbrev pub one_argument : Result Argument Cause → Result (List Argument) Cause
one_argument (Err cause) = Err cause
one_argument (Ok a) = Ok (a ∷ [])

-- further arguments; the first refusal stays
abbrev pub with_arguments : Result (List Argument) Cause → Result (List Argument) Cause → Result (List Argument) Cause
with_arguments (Err cause) more = Err cause
with_arguments (Ok args) (Err cause) = Err cause
with_arguments (Ok args) (Ok more) = Ok (args ++ more)

-- a function with its arguments
abbrev pub list_of_call : Bool → Call → Listing
list_of_call true c = alone (function_factor c)
list_of_call false c = alone (non_commuting_factor c)

-- a function, where none of its arguments was refused
abbrev pub function_list : ℕ → Bool → Result (List Argument) Cause → Listing
function_list f is_commuting (Err cause) = refusal cause
function_list f is_commuting (Ok args) = list_of_call is_commuting (call_of f args)

-- what a product answered, as a list
abbrev pub ListsProduct : Result (Option Monomial) ProductError → Listing → Type 0
ListsProduct (Ok (Some m)) l = l ≡ single m
ListsProduct (Ok None) l = l ≡ nothing
ListsProduct (Err (Refused cause)) l = l ≡ refusal cause
ListsProduct (Err Memory) l = ⊥
