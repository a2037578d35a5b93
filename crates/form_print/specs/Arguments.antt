-- The text of a function's arguments, from the list of their pieces, in one pass. That this is the text of the arguments
-- as they nest (`nested_text` in `Printing`) is a law (`laws::nested_arguments`). Arguments are parted by commas, the
-- terms of a sum by ` + ` and ` - `, and the factors of a term by `*`; a sum without terms is 0. A term's coefficient is
-- kept behind its factors and printed before them, left out where its size is 1 and a factor is there. Of equal
-- neighbours among commuting functions the last one is printed, with their power.
use Rattle.std.specs.Prelude.{ℕ, pos, suc, ◌+◌, ◌-◌, nat_lt, Bool, false, List, [], ◌∷◌, ◌++◌, length, take, drop, codes, if◌then◌else◌, get_or}
use Rattle.std.specs.Ordering.{is_eq}
use Rattle.std.specs.Cmp.Lexicographic.{slice_cmp}
use Rattle.form_frac.specs.Fraction.{Fraction, has_size_one}
use Rattle.form_term.specs.Pieces.{piece_order}
use Rattle.form_term.specs.declared.piece.Piece.{Piece}
use Rattle.form_term.specs.declared.piece.Piece.TheVariants.{EndOfArguments, EndOfSum, Negative, NegativeDot, EndOfTerm, NonCommuting, Function, Delta, Component, PositiveDot, Positive, Imaginary, Index, Vector, Sum}
use Rattle.form_term.specs.declared.piece.Coefficient.{Coefficient}
use Rattle.form_names.specs.Names.{Entry}
use Rattle.form_print.specs.Texts.{name_of, size_text, first_sign, later_sign, times_text, factor_text, dot_text, index_text, component_text, delta_text}

-- a term's coefficient, as it is kept behind its factors
abbrev pub fraction_of : Coefficient → Fraction
fraction_of c = record { numerator = c.numerator; denominator = c.denominator }

-- The coefficient of the term whose factors these are, where so many functions are open in it.
abbrev pub coefficient_in : ℕ → List Piece → Fraction
coefficient_in level [] = record { numerator = pos 1; denominator = 1 }
coefficient_in level (EndOfTerm c ∷ ps) = if nat_lt 0 level then coefficient_in level ps else fraction_of c
coefficient_in level (Function f ∷ ps) = coefficient_in (level + 1) ps
coefficient_in level (NonCommuting f ∷ ps) = coefficient_in (level + 1) ps
coefficient_in level (EndOfArguments ∷ ps) = coefficient_in (level - 1) ps
coefficient_in level (p ∷ ps) = coefficient_in level ps

-- How many pieces the arguments of a function have with their end, where so many functions are open in them.
abbrev pub length_in : ℕ → List Piece → ℕ
length_in level [] = 0
length_in level (Function f ∷ ps) = suc (length_in (level + 1) ps)
length_in level (NonCommuting f ∷ ps) = suc (length_in (level + 1) ps)
length_in level (EndOfArguments ∷ ps) = if nat_lt 0 level then suc (length_in (level - 1) ps) else 1
length_in level (p ∷ ps) = suc (length_in level ps)

-- Whether the pieces before a place stand there once more right behind it.
abbrev pub stand_twice : ℕ → List Piece → Bool
stand_twice n ps = if nat_lt (length (drop n ps)) n then false else is_eq (slice_cmp piece_order (take n ps) (take n (drop n ps)))

-- whether a commuting function begins that stands there once more right behind its end
abbrev pub is_repeated : List Piece → Bool
is_repeated [] = false
is_repeated (Function f ∷ ps) = stand_twice (suc (length_in 0 ps)) (Function f ∷ ps)
is_repeated (p ∷ ps) = false

-- What stands before a piece, by the one before it: arguments are parted by commas.
abbrev pub before_argument : Piece → List ℕ
before_argument (Index i) = codes ","
before_argument (Vector v) = codes ","
before_argument EndOfSum = codes ","
before_argument p = []

-- the size of a coefficient before a factor, left out where it is 1
abbrev pub shown_size : Fraction → List ℕ
shown_size c = if has_size_one c then [] else size_text c ++ codes "*"

-- factors are parted by `*`; before the first one stand the term's sign, at a later term behind a blank, and its size
abbrev pub before_factor : Piece → Fraction → List ℕ
before_factor Sum c = first_sign c ++ shown_size c
before_factor (EndOfTerm d) c = 32 ∷ later_sign c ++ shown_size c
before_factor p c = codes "*"

-- a term without factors is a number
abbrev pub number_behind : Piece → Fraction → List ℕ
number_behind Sum c = first_sign c ++ size_text c
number_behind (EndOfTerm d) c = 32 ∷ later_sign c ++ size_text c
number_behind p c = []

-- a sum without terms is 0
abbrev pub zero_behind : Piece → List ℕ
zero_behind Sum = codes "0"
zero_behind p = []

-- parentheses stand only around arguments
abbrev pub opening : List Piece → List ℕ
opening (EndOfArguments ∷ ps) = []
opening ps = codes "("

abbrev pub closing_behind : Piece → List ℕ
closing_behind (Function f) = []
closing_behind (NonCommuting f) = []
closing_behind p = codes ")"

-- how often the innermost open function stands
abbrev pub innermost : List ℕ → ℕ
innermost opened = get_or opened (length opened - 1) 1

-- a factor that has no arguments
abbrev pub factor_piece_text : List Entry → Piece → List ℕ
factor_piece_text names (Negative p) = factor_text names p
factor_piece_text names (NegativeDot d) = dot_text names d
factor_piece_text names (Delta d) = delta_text names d
factor_piece_text names (Component c) = component_text names c
factor_piece_text names (PositiveDot p q e) = dot_text names (record { left = p.0; right = q.0; exponent = e })
factor_piece_text names (Positive s e) = factor_text names (record { symbol = s.0; exponent = e })
factor_piece_text names Imaginary = codes "i_"
factor_piece_text names p = []

-- The text of a piece, by the one before it, the open functions and the pieces after it.
abbrev pub piece_text : List Entry → Piece → List ℕ → Piece → List Piece → List ℕ
piece_text names before opened EndOfArguments ps = closing_behind before ++ times_text (innermost opened)
piece_text names before opened EndOfSum ps = zero_behind before
piece_text names before opened (EndOfTerm c) ps = number_behind before (fraction_of c)
piece_text names before opened Sum ps = before_argument before
piece_text names before opened (Index i) ps = before_argument before ++ index_text names i
piece_text names before opened (Vector v) ps = before_argument before ++ name_of names v
piece_text names before opened (Function f) ps = before_factor before (coefficient_in 1 ps) ++ name_of names f ++ opening ps
piece_text names before opened (NonCommuting f) ps = before_factor before (coefficient_in 1 ps) ++ name_of names f ++ opening ps
piece_text names before opened p ps = before_factor before (coefficient_in 0 ps) ++ factor_piece_text names p

-- the functions that are open behind a piece
abbrev pub open_behind : List ℕ → ℕ → Piece → List ℕ
open_behind opened times (Function f) = opened ++ times ∷ []
open_behind opened times (NonCommuting f) = opened ++ 1 ∷ []
open_behind opened times EndOfArguments = take (length opened - 1) opened
open_behind opened times p = opened

-- The text of pieces behind the one before them. So many are passed over first; `times` is how often the function that
-- comes has stood there up to now, itself counted, and `opened` how often each open one stands.
unfoldable pub text_behind : List Entry → Piece → ℕ → ℕ → List ℕ → List Piece → List ℕ
text_behind names before passed times opened [] = []
text_behind names before passed times opened (p ∷ ps) =
    if nat_lt 0 passed then text_behind names before (passed - 1) times opened ps
    else if is_repeated (p ∷ ps) then text_behind names before (length_in 0 ps) (times + 1) opened ps
    else piece_text names before opened p ps ++ text_behind names p 0 1 (open_behind opened times p) ps

-- The text of the pieces of a function's arguments.
abbrev pub arguments_text : List Entry → List Piece → List ℕ
arguments_text names ps = text_behind names (Function 0) 0 1 [] ps
