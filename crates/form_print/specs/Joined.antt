-- What is put one after another: the factors of a term, and the pieces of an expression.
use Rattle.std.specs.Prelude.{ℕ, Bool, false, ◌&&◌, List, [], ◌∷◌, ◌++◌, flat_map, codes, if◌then◌else◌}
use Rattle.form_base.specs.declared.name.Name.{Name}
use Rattle.form_names.specs.Names.{Entry}
use Rattle.form_term.specs.Term.{Summand, Term, is_nil, is_nothing}
use Rattle.form_term.specs.declared.monomial.Monomial.{Monomial}
use Rattle.form_print.specs.Printing.{first_term, later_term, term_text}

-- `*`, but where nothing stands before it
abbrev pub star : Bool → List ℕ
star is_first = if is_first then [] else codes "*"

-- factors, each behind `*`, but for the first one where nothing stands before it
abbrev pub starred : Bool → List (List ℕ) → List ℕ
starred is_first [] = []
starred is_first (factor ∷ factors) = star is_first ++ factor ++ starred false factors

-- whether nothing stands there yet behind such factors
abbrev pub is_first_behind : {A : Type 0} → Bool → List A → Bool
is_first_behind is_first [] = is_first
is_first_behind is_first (factor ∷ factors) = false

-- whether a term has no factors
abbrev pub has_no_factors : Term → Bool
has_no_factors t = is_nil t.symbols && is_nothing t.others

-- the piece of a term without its sign
abbrev pub piece : List Entry → Monomial → List ℕ
piece names m = term_text names m.coefficient m.term

abbrev summand : Monomial → Summand
summand m = record { coefficient = m.coefficient; term = m.term }

-- the pieces of a first and of a later term, with their signs
abbrev pub first_piece : List Entry → Monomial → List ℕ
first_piece names m = first_term names (summand m)

abbrev pub later_piece : List Entry → Monomial → List ℕ
later_piece names m = later_term names (summand m)

-- an expression's name and its first piece
abbrev pub beginning : List Entry → Name → Monomial → List ℕ
beginning names name m = 10 ∷ codes "   " ++ name ++ codes " =" ++ 10 ∷ codes "      " ++ first_piece names m

-- the later pieces, each behind a blank
abbrev pub later_pieces : List Entry → List Monomial → List ℕ
later_pieces names ms = flat_map (λ m. 32 ∷ later_piece names m) ms
