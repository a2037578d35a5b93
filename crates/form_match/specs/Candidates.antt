-- The candidates of a piece, by their numbers: the search tries one after another.
use Rattle.std.specs.Prelude.{ℕ, zero, suc, ◌+◌, ◌-◌, ◌*◌, nat_le, Bool, List, [], ◌∷◌, Option, None, option_and_then, length, take, filter, slice_get, if◌then◌else◌}
use Rattle.std.specs.List.{filter_map, range_with_len}
use Rattle.form_term.specs.declared.piece.Piece.{Piece}
use Rattle.form_term.specs.Term as terms
use Rattle.form_term.specs.Term.{pieces_of_arguments}
use Rattle.form_tree.specs.declared.pattern.Name.{Name}
use Rattle.form_tree.specs.declared.pattern.PatternPiece.{PatternPiece}
use Rattle.form_tree.specs.declared.pattern.PatternPiece.TheVariants as pieces
use Rattle.form_match.specs.declared.uses.Use.{Use}
use Rattle.form_match.specs.Asking.{symbol_at, whole_at, dot_at, component_at, delta_at}
use Rattle.form_match.specs.Matching.{Host, Choice, is_uncut}
use Rattle.form_match.specs.States.{Open, factors, arguments, State, with_choice, with_function, with_stretch, with_field, moves}
use Rattle.form_bindings.specs.Values.{Binding}

-- how many candidates a factor has in a term, and the choice that each is of one without arguments
abbrev pub candidates : Host → PatternPiece → ℕ
candidates h (pieces.Symbol n k) = length h.term.symbols
candidates h (pieces.Whole n m) = length h.term.symbols + 1
candidates h (pieces.Dot p q k) = length h.term.others.dots * 2
candidates h (pieces.Component v i) = length h.term.others.components
candidates h (pieces.Delta i j) = length h.term.others.deltas * 2
candidates h (pieces.Function n) = length h.term.others.functions
candidates h (pieces.Word n) = suc (length h.term.others.word) - n
candidates h p = 0

abbrev pub choice_at : Host → PatternPiece → ℕ → Option Choice
choice_at h (pieces.Symbol n k) c = symbol_at h n k c
choice_at h (pieces.Whole n m) c = whole_at h n m c
choice_at h (pieces.Dot p q k) c = dot_at h p q k c
choice_at h (pieces.Component v i) c = component_at h v i c
choice_at h (pieces.Delta i j) c = delta_at h i j c
choice_at h p c = None

-- what a candidate makes of what is open and bound
abbrev pub trial : Host → List Use → List Open → List Binding → PatternPiece → ℕ → Option State
trial h us os bs p c = option_and_then (with_choice h us os bs) (choice_at h p c)

abbrev pub function_trial : Name → Host → List Use → List Open → List Binding → ℕ → Option State
function_trial n h us os bs c = option_and_then (λ call. with_function n h us os bs (c, call)) (slice_get h.term.others.functions c)

abbrev pub stretch_trial : ℕ → Host → List Use → List Open → List Binding → ℕ → Option State
stretch_trial n h us os bs start = if is_uncut h.cuts n start then with_stretch n h us os bs start else None

abbrev pub tried : Host → List Use → List Open → List Binding → PatternPiece → ℕ → Option State
tried h us os bs (pieces.Function n) c = function_trial n h us os bs c
tried h us os bs (pieces.Word n) c = stretch_trial n h us os bs c
tried h us os bs p c = trial h us os bs p c

-- what the candidates make of it from one on
abbrev pub from_candidate : {A : Type 0} → (ℕ → Option A) → (count from : ℕ) → List A
from_candidate trial count from = filter_map trial (range_with_len from (count - from))

-- where there is one candidate alone
abbrev pub only_first : {A : Type 0} → ℕ → List A → List A
only_first zero l = l
only_first (suc c) l = []

-- so many arguments have at least so many pieces
abbrev pub is_behind : List terms.Argument → ℕ → ℕ → Bool
is_behind xs c n = nat_le c (length (pieces_of_arguments (take n xs)))

-- What the candidates of a piece make of what is open and bound, from one on. Those of a field are numbered by the pieces
-- of the arguments that it takes.
abbrev pub from : List (Option (List Piece)) → PatternPiece → List Open → List Binding → ℕ → List State
from table (pieces.Symbol n k) (factors h us ∷ os) bs c = from_candidate (tried h us os bs (pieces.Symbol n k)) (candidates h (pieces.Symbol n k)) c
from table (pieces.Whole n m) (factors h us ∷ os) bs c = from_candidate (tried h us os bs (pieces.Whole n m)) (candidates h (pieces.Whole n m)) c
from table (pieces.Dot p q k) (factors h us ∷ os) bs c = from_candidate (tried h us os bs (pieces.Dot p q k)) (candidates h (pieces.Dot p q k)) c
from table (pieces.Component v i) (factors h us ∷ os) bs c = from_candidate (tried h us os bs (pieces.Component v i)) (candidates h (pieces.Component v i)) c
from table (pieces.Delta i j) (factors h us ∷ os) bs c = from_candidate (tried h us os bs (pieces.Delta i j)) (candidates h (pieces.Delta i j)) c
from table (pieces.Function n) (factors h us ∷ os) bs c = from_candidate (tried h us os bs (pieces.Function n)) (candidates h (pieces.Function n)) c
from table (pieces.Word n) (factors h us ∷ os) bs c = from_candidate (tried h us os bs (pieces.Word n)) (candidates h (pieces.Word n)) c
from table (pieces.Field w) (arguments xs ∷ os) bs c = filter_map (with_field w xs os bs) (filter (is_behind xs c) (range_with_len 0 (suc (length xs))))
from table p os bs c = only_first c (moves table p os bs)
