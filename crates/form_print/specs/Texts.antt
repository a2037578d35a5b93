-- The texts of names, indices, numbers, signs and powers, and of the factors that have no arguments.
use Rattle.std.specs.Prelude.{ℕ, ℤ, pos, List, [], ◌++◌, codes, decimal, nat_abs, nat_lt, ◌==◌, if◌then◌else◌, unwrap_or}
use Rattle.std.specs.Fmt.{signed_decimal}
use Rattle.std.specs.Ordering.{int_eq}
use Rattle.form_frac.specs.Fraction.{Fraction, is_below_zero}
use Rattle.form_term.specs.declared.power.Power.{Power}
use Rattle.form_term.specs.declared.power.DotPower.{DotPower}
use Rattle.form_term.specs.declared.index.Index.{Index}
use Rattle.form_term.specs.declared.index.Index.TheVariants.{Fixed, Declared, Dummy}
use Rattle.form_term.specs.declared.index.Component.{Component}
use Rattle.form_term.specs.declared.index.Delta.{Delta}
use Rattle.form_names.specs.Names.{Entry, name_at}

-- the name that stands at a position, nothing where none does
abbrev pub name_of : List Entry → ℕ → List ℕ
name_of names id = unwrap_or (name_at names id) []

-- the size of a coefficient: n, or n/d
abbrev pub size_text : Fraction → List ℕ
size_text c = decimal (nat_abs c.numerator) ++ (if c.denominator == 1 then [] else codes "/" ++ decimal c.denominator)

-- A term's sign: at the first term of a sum only a minus, at a later one always.
abbrev pub first_sign : Fraction → List ℕ
first_sign c = if is_below_zero c then codes "-" else []

abbrev pub later_sign : Fraction → List ℕ
later_sign c = if is_below_zero c then codes "- " else codes "+ "

-- how often a function stands in a product, as its power, which is left out where it is 1
abbrev pub times_text : ℕ → List ℕ
times_text times = if nat_lt 1 times then codes "^" ++ decimal times else []

-- a base with its power, which is left out where it is 1: x, x^2, x^-1
abbrev pub power_text : List ℕ → ℤ → List ℕ
power_text base exponent = if int_eq exponent (pos 1) then base else base ++ codes "^" ++ signed_decimal exponent

abbrev pub factor_text : List Entry → Power → List ℕ
factor_text names p = power_text (name_of names p.symbol) p.exponent

-- a dot product: p.q, p.q^2
abbrev pub dot_text : List Entry → DotPower → List ℕ
dot_text names d = power_text (name_of names d.left ++ codes "." ++ name_of names d.right) d.exponent

-- a fixed index is a number, a declared one has its name, and a dummy is N1_?, N2_? and so on
abbrev pub index_text : List Entry → Index → List ℕ
index_text names (Fixed n) = decimal n
index_text names (Declared id) = name_of names id
index_text names (Dummy n) = codes "N" ++ decimal n ++ codes "_?"

abbrev pub component_text : List Entry → Component → List ℕ
component_text names c = name_of names c.vector ++ codes "(" ++ index_text names c.index ++ codes ")"

abbrev pub delta_text : List Entry → Delta → List ℕ
delta_text names d = codes "d_(" ++ index_text names d.first ++ codes "," ++ index_text names d.second ++ codes ")"
