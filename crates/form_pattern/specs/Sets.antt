-- Sets: the elements of one that is declared or written in braces, and what a wildcard is restricted to.
use Rattle.std.specs.Prelude.{ℕ, ℤ, pos, neg_ℤ, if◌then◌else◌, List, [], ◌∷◌, ◌++◌, option_to_list, Result, Ok}
use Rattle.form_names.specs.declared.elements.Elements.{Elements}
use Rattle.form_names.specs.declared.elements.Elements.TheVariants as elements_of
use Rattle.form_names.specs.declared.kind.Kind.{Kind}
use Rattle.form_names.specs.declared.kind.Kind.TheVariants as kinds
use Rattle.form_names.specs.Names.{Entry, elements_at, is_alike, is_element_kind}
use Rattle.form_ast.specs.declared.expr.SignedNumber.{SignedNumber}
use Rattle.form_ast.specs.declared.expr.Spelled.{Spelled}
use Rattle.form_ast.specs.declared.expr.Restriction.{Restriction}
use Rattle.form_ast.specs.declared.expr.Restriction.TheVariants as by
use Rattle.form_ast.specs.declared.statement.WrittenElements.{WrittenElements}
use Rattle.form_ast.specs.declared.statement.WrittenElements.TheVariants as written
use Rattle.form_right_side.specs.declared.resolved.Found.{Found}
use Rattle.form_right_side.specs.Refusal.{Refusal, ◌>>=◌, listed}
use Rattle.form_right_side.specs.RightSide.{found, wrong_kind, largest_number, value_within, is_minus}

-- ---- elements

-- the first element: neither a set nor an expression
abbrev pub first_element : List Entry → Spelled → Result Found Refusal
first_element names s = found names s >>= (λ f. if is_element_kind f.kind then Ok f else wrong_kind s)

-- a further one: of the kind of the first; two indices are alike whatever their dimensions
abbrev pub further_element : List Entry → Kind → Spelled → Result ℕ Refusal
further_element names first s = found names s >>= (λ f. if is_alike first f.kind then Ok f.id else wrong_kind s)

-- further elements behind others
abbrev pub further_elements : List Entry → Kind → List Spelled → List ℕ → Result (List ℕ) Refusal
further_elements names first ss ids = listed (further_element names first) ss >>= (λ more. Ok (ids ++ more))

abbrev pub name_elements : List Entry → List Spelled → Result (List ℕ) Refusal
name_elements names [] = Ok []
name_elements names (s ∷ ss) = first_element names s >>= (λ f. listed (further_element names f.kind) ss >>= (λ ids. Ok (f.id ∷ ids)))

abbrev pub number_element : SignedNumber → Result ℤ Refusal
number_element n = value_within largest_number n.number >>= (λ value. Ok (if is_minus n.sign then neg_ℤ (pos value) else pos value))

abbrev pub names_checked : List Entry → List Spelled → Result Elements Refusal
names_checked names ss = name_elements names ss >>= (λ ids. Ok (elements_of.Names ids))

abbrev pub numbers_checked : List SignedNumber → Result Elements Refusal
numbers_checked ns = listed number_element ns >>= (λ zs. Ok (elements_of.Numbers zs))

abbrev pub elements : List Entry → WrittenElements → Result Elements Refusal
elements names (written.Names ss) = names_checked names ss
elements names (written.Numbers ns) = numbers_checked ns

-- ---- what a wildcard is restricted to

abbrev pub set_elements : List Entry → Spelled → ℕ → Kind → Result (List Elements) Refusal
set_elements names s id kinds.Set = Ok (option_to_list (elements_at names id))
set_elements names s id _ = wrong_kind s

-- the sets that the value of a wildcard has to be in: none, one that is declared, or one that is written there
abbrev pub sets : List Entry → Restriction → Result (List Elements) Refusal
sets names by.Any = Ok []
sets names (by.Set s) = found names s >>= (λ f. set_elements names s f.id f.kind)
sets names (by.Names ss) = names_checked names ss >>= (λ es. Ok (es ∷ []))
sets names (by.Numbers ns) = numbers_checked ns >>= (λ es. Ok (es ∷ []))
