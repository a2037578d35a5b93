-- How an expression prints.
use Rattle.std.specs.Prelude.{ℕ, ◌+◌, Bool, false, List, [], ◌∷◌, ◌++◌, map, codes, if◌then◌else◌}
use Rattle.std.specs.List.{join_with_byte}
use Rattle.std.specs.Ordering.{is_eq}
use Rattle.form_base.specs.declared.name.Name.{Name}
use Rattle.form_frac.specs.Fraction.{Fraction, has_size_one}
use Rattle.form_term.specs.Term.{Argument, Call, Summand, Term, index, vector, expression, call_order}
use Rattle.form_term.specs.Monomial.{summands_of}
use Rattle.form_term.specs.declared.monomial.Monomial.{Monomial}
use Rattle.form_term.specs.declared.piece.Piece.{Piece}
use Rattle.form_names.specs.Names.{Entry}
use Rattle.form_print.specs.Arguments.{arguments_text}
pub use Rattle.form_print.specs.Texts.{name_of, size_text, first_sign, later_sign, times_text, factor_text, dot_text, index_text, component_text, delta_text}

abbrev pub parenthesized : List ℕ → List ℕ
parenthesized text = codes "(" ++ text ++ codes ")"

-- the arguments of a function in parentheses, nothing where it has none
abbrev pub in_parentheses : List Entry → List Piece → List ℕ
in_parentheses names [] = []
in_parentheses names (p ∷ ps) = parenthesized (arguments_text names (p ∷ ps))

-- A function with its arguments, from their pieces. It is `function_text` of the arguments that these are the pieces of,
-- which is a law.
abbrev pub call_text : List Entry → Call → List ℕ
call_text names c = name_of names c.function ++ in_parentheses names c.pieces

-- whether the next function of a list is the same one
abbrev pub is_followed : Call → List Call → Bool
is_followed c [] = false
is_followed c (d ∷ ds) = is_eq (call_order c d)

-- Commuting functions, the first of which has stood there so often up to now: equal neighbours print once, with their
-- power.
abbrev pub function_texts : List Entry → ℕ → List Call → List (List ℕ)
function_texts names times [] = []
function_texts names times (c ∷ cs) =
    if is_followed c cs then function_texts names (times + 1) cs
    else (call_text names c ++ times_text times) ∷ function_texts names 1 cs

abbrev pub imaginary_texts : Bool → List (List ℕ)
imaginary_texts is_imaginary = if is_imaginary then codes "i_" ∷ [] else []

-- The factors of a term: `i_`, symbols, dot products, components, deltas, commuting functions, and the non-commuting
-- ones each alone.
abbrev pub factor_texts : List Entry → Term → List (List ℕ)
factor_texts names t =
    imaginary_texts t.others.is_imaginary
    ++ map (factor_text names) t.symbols
    ++ map (dot_text names) t.others.dots
    ++ map (component_text names) t.others.components
    ++ map (delta_text names) t.others.deltas
    ++ function_texts names 1 t.others.functions
    ++ map (call_text names) t.others.word

-- a coefficient's size before the factors, left out where it is 1 and a factor is there
abbrev pub with_size : Fraction → List (List ℕ) → List (List ℕ)
with_size c [] = size_text c ∷ []
with_size c (factor ∷ factors) = if has_size_one c then factor ∷ factors else size_text c ∷ factor ∷ factors

-- a term without its sign: coefficient and factors joined by `*`
abbrev pub term_text : List Entry → Fraction → Term → List ℕ
term_text names c t = join_with_byte 42 (with_size c (factor_texts names t))

-- a term with its sign: the first one of a sum has one where it is negative, each later one always
abbrev pub first_term : List Entry → Summand → List ℕ
first_term names s = first_sign s.coefficient ++ term_text names s.coefficient s.term

abbrev pub later_term : List Entry → Summand → List ℕ
later_term names s = later_sign s.coefficient ++ term_text names s.coefficient s.term

-- a sum: its terms with their signs, parted by blanks; one without terms is 0
abbrev pub sum_text : List Entry → List Summand → List ℕ
sum_text names [] = codes "0"
sum_text names (s ∷ ss) = join_with_byte 32 (first_term names s ∷ map (later_term names) ss)

-- An argument of a function: an index, a vector, or an expression, which is a sum as everywhere.
abbrev pub argument_text : List Entry → Argument → List ℕ
argument_text names (index i) = index_text names i
argument_text names (vector v) = name_of names v
argument_text names (expression ss) = sum_text names ss

-- the arguments of a function, parted by commas
abbrev pub nested_text : List Entry → List Argument → List ℕ
nested_text names args = join_with_byte 44 (map (argument_text names) args)

-- a function with its arguments in parentheses, its name alone where it has none
abbrev pub function_text : List Entry → ℕ → List Argument → List ℕ
function_text names f [] = name_of names f
function_text names f (a ∷ args) = name_of names f ++ parenthesized (nested_text names (a ∷ args))

-- An expression with its name: an empty line, the name, the sum behind six blanks, and an empty line. One without terms
-- prints 0 behind its name.
abbrev pub printed : List Entry → Name → List Monomial → List ℕ
printed names name [] = 10 ∷ codes "   " ++ name ++ codes " = " ++ sum_text names [] ++ codes ";" ++ 10 ∷ 10 ∷ []
printed names name (m ∷ ms) =
    10 ∷ codes "   " ++ name ++ codes " =" ++ 10 ∷ codes "      " ++ sum_text names (summands_of (m ∷ ms)) ++ codes ";" ++ 10 ∷ 10 ∷ []
