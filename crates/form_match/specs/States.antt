-- The search for a match, as it goes through the pieces of a pattern in order: what is open at a piece, what is bound, and
-- what each piece may make of that, in trial order.
use Rattle.std.specs.Prelude.{ℕ, suc, if◌then◌else◌, List, [], ◌∷◌, ◌++◌, flat_map, drop, length, Option, Some, None, option_map, option_to_list}
use Rattle.std.specs.List.{list_any, filter_map, enumerate_from, range_with_len}
use Rattle.form_term.specs.declared.piece.Piece.{Piece}
use Rattle.form_term.specs.Term as terms
use Rattle.form_term.specs.Term.{Call, pieces_of_argument}
use Rattle.form_term.specs.Arguments.{arguments_of}
use Rattle.form_tree.specs.declared.pattern.Name.{Name}
use Rattle.form_tree.specs.declared.pattern.PatternPiece.{PatternPiece}
use Rattle.form_tree.specs.declared.pattern.PatternPiece.TheVariants as pieces
use Rattle.form_match.specs.declared.matching.Match.{Match}
use Rattle.form_match.specs.declared.uses.Use.{Use}
use Rattle.form_match.specs.declared.uses.Use.TheVariants as uses
use Rattle.form_match.specs.Learning.{learnt}
use Rattle.form_match.specs.Left.{left_of, is_one}
use Rattle.form_match.specs.Matching.{Host, Choice, clashes, symbol_choice, whole_choice, absent_choice, dot_choices, component_choice, delta_choices, asked_function, starts, inner, any_ways, is_fixed_argument, field_asks, is_coefficient_one}
use Rattle.form_bindings.specs.Values.{Binding}

-- What is open: the factors of a term, of which something is taken already; arguments of a function that are left; a word
-- from one of its functions on.
pub data Open : Type 0 where
  factors : Host → List Use → Open
  arguments : List terms.Argument → Open
  calls : List Call → Open

-- what is open, the innermost first, and what is bound
pub record State : Type 0 where
  pub opens : List Open
  pub bindings : List Binding

abbrev pub state : List Open → List Binding → State
state os bs = record { opens = os; bindings = bs }

-- what is open, once these are bound too
abbrev pub binding_too : List Open → List Binding → List Binding → Option State
binding_too os bs asks = option_map (state os) (learnt bs asks)

-- so, where this use is free
abbrev pub taking_too : List Use → Use → Option State → Option State
taking_too us u s = if list_any (λ v. clashes v u) us then None else s

-- a choice of a factor without arguments
abbrev pub with_choice : Host → List Use → List Open → List Binding → Choice → Option State
with_choice h us os bs c = taking_too us c.takes (binding_too (factors h (us ++ c.takes ∷ []) ∷ os) bs c.asks)

-- what a name may ask
abbrev pub asking_too : List Open → List Binding → Option (List Binding) → Option State
asking_too os bs None = None
asking_too os bs (Some asks) = binding_too os bs asks

-- a function of the term begins
abbrev pub with_function : Name → Host → List Use → List Open → List Binding → ℕ × Call → Option State
with_function n h us os bs e =
    taking_too us (uses.Function e.0) (asking_too (arguments (arguments_of e.1.pieces) ∷ factors h (us ++ uses.Function e.0 ∷ []) ∷ os) bs (asked_function n e.1.function))

-- a stretch of the word begins
abbrev pub with_stretch : ℕ → Host → List Use → List Open → List Binding → ℕ → Option State
with_stretch n h us os bs start =
    taking_too us (uses.Stretch start n) (Some (state (calls (drop start h.term.others.word) ∷ factors h (us ++ uses.Stretch start n ∷ []) ∷ os) bs))

-- the functions of a word from the first on
abbrev pub with_call : Name → List Call → List Open → List Binding → Option State
with_call n [] os bs = None
with_call n (c ∷ cs) os bs = asking_too (arguments (arguments_of c.pieces) ∷ calls (c ∷ cs) ∷ os) bs (asked_function n c.function)

-- all arguments are taken: what is around them goes on
abbrev pub behind_arguments : List terms.Argument → List Open → List Binding → List State
behind_arguments [] (factors h us ∷ os) bs = state (factors h us ∷ os) bs ∷ []
behind_arguments [] (calls cs ∷ os) bs = state (calls (drop 1 cs) ∷ os) bs ∷ []
behind_arguments xs os bs = []

-- an argument that is a term of coefficient 1 begins
abbrev pub with_product : List terms.Argument → List Open → List Binding → List State
with_product (terms.expression (s ∷ []) ∷ xs) os bs =
    if is_coefficient_one s.coefficient then state (factors (inner s.term) [] ∷ arguments (terms.expression (s ∷ []) ∷ xs) ∷ os) bs ∷ [] else []
with_product xs os bs = []

-- a field takes the first n arguments
abbrev pub with_field : ℕ → List terms.Argument → List Open → List Binding → ℕ → Option State
with_field w xs os bs n = binding_too (arguments (drop n xs) ∷ os) bs (field_asks w xs n ∷ [])

-- what a piece may make of what is open and bound
abbrev pub moves : List (Option (List Piece)) → PatternPiece → List Open → List Binding → List State
moves table (pieces.Symbol n k) (factors h us ∷ os) bs = filter_map (with_choice h us os bs) (filter_map (symbol_choice h.is_exact n k) h.term.symbols)
moves table (pieces.Whole n m) (factors h us ∷ os) bs = filter_map (with_choice h us os bs) (filter_map (whole_choice n m) h.term.symbols ++ option_to_list (absent_choice h n m))
moves table (pieces.Dot p q k) (factors h us ∷ os) bs = filter_map (with_choice h us os bs) (flat_map (dot_choices h.is_exact p q k) (enumerate_from 0 h.term.others.dots))
moves table (pieces.Component v i) (factors h us ∷ os) bs = filter_map (with_choice h us os bs) (filter_map (component_choice v i) (enumerate_from 0 h.term.others.components))
moves table (pieces.Delta i j) (factors h us ∷ os) bs = filter_map (with_choice h us os bs) (flat_map (delta_choices i j) (enumerate_from 0 h.term.others.deltas))
moves table (pieces.Function n) (factors h us ∷ os) bs = filter_map (with_function n h us os bs) (enumerate_from 0 h.term.others.functions)
moves table (pieces.Word n) (factors h us ∷ os) bs = filter_map (with_stretch n h us os bs) (starts h n)
moves table (pieces.Call n) (calls cs ∷ os) bs = option_to_list (with_call n cs os bs)
moves table pieces.EndOfArguments (arguments xs ∷ os) bs = behind_arguments xs os bs
moves table pieces.EndOfWord (calls cs ∷ factors h us ∷ os) bs = state (factors h us ∷ os) bs ∷ []
moves table (pieces.Fixed k) (arguments (x ∷ xs) ∷ os) bs = if is_fixed_argument table k (pieces_of_argument x) then state (arguments xs ∷ os) bs ∷ [] else []
moves table (pieces.Any sort n) (arguments (x ∷ xs) ∷ os) bs = filter_map (binding_too (arguments xs ∷ os) bs) (any_ways sort n x)
moves table (pieces.Field w) (arguments xs ∷ os) bs = filter_map (with_field w xs os bs) (range_with_len 0 (suc (length xs)))
moves table pieces.Product (arguments xs ∷ os) bs = with_product xs os bs
moves table pieces.EndOfProduct (factors h us ∷ arguments xs ∷ os) bs = if is_one (left_of h.term us) then state (arguments (drop 1 xs) ∷ os) bs ∷ [] else []
moves table p os bs = []

-- All that the pieces lead to, in trial order.
unfoldable pub reach : List (Option (List Piece)) → List PatternPiece → State → List State
reach table [] s = s ∷ []
reach table (p ∷ ps) s = flat_map (reach table ps) (moves table p s.opens s.bindings)

-- where the search begins
abbrev pub start : Host → State
start h = state (factors h [] ∷ []) []

-- what is taken of the term itself, whose factors are around all else
abbrev pub taken_of : Open → List Use
taken_of (factors h us) = us
taken_of (arguments xs) = []
taken_of (calls cs) = []

abbrev pub taken_in : List Open → List Use
taken_in [] = []
taken_in (o ∷ []) = taken_of o
taken_in (o ∷ p ∷ os) = taken_in (p ∷ os)

-- the match that is made where all pieces are gone through
abbrev pub match_at : State → Match
match_at s = record { takes = taken_in s.opens; bindings = s.bindings }

abbrev pub first_found : List State → Option Match
first_found [] = None
first_found (s ∷ ss) = Some (match_at s)
