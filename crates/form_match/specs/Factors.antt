-- How the candidates of a factor are looked for: which of them its names and powers leave, and what each takes and asks.
use Rattle.std.specs.Prelude.{◌≡◌, ℕ, ◌+◌, ◌^◌, ◌/◌, ◌%◌, ◌==◌, ◌<◌, ◌≤◌, ℤ, pos, nat_abs, Bool, true, false, not, ◌&&◌, if◌then◌else◌, List, [], ◌∷◌, ◌++◌, drop, Option, Some, None, option_and_then, slice_get}
use Rattle.std.specs.List.{list_any}
use Rattle.form_term.specs.declared.power.Power.{Power}
use Rattle.form_term.specs.declared.power.DotPower.{DotPower}
use Rattle.form_term.specs.declared.index.Component.{Component}
use Rattle.form_term.specs.declared.index.Delta.{Delta}
use Rattle.form_term.specs.Term.{Call, AreArguments, exponent_of}
use Rattle.form_term.specs.Arguments.{arguments_of}
use Rattle.form_tree.specs.declared.pattern.Name.{Name}
use Rattle.form_tree.specs.declared.pattern.Name.TheVariants.{Itself, Wild}
use Rattle.form_tree.specs.declared.pattern.IndexName.{IndexName}
use Rattle.form_tree.specs.declared.pattern.PatternPiece.{PatternPiece}
use Rattle.form_tree.specs.declared.pattern.PatternPiece.TheVariants as pieces
use Rattle.form_match.specs.declared.places.Frame.{Frame}
use Rattle.form_match.specs.declared.places.Frame.TheVariants as frames
use Rattle.form_match.specs.declared.uses.Use.{Use}
use Rattle.form_match.specs.declared.uses.Use.TheVariants as uses
use Rattle.form_match.specs.Candidates.{candidates}
use Rattle.form_match.specs.Matching.{Host, and_asked, asked_function, asked_index, asked_number, asked_symbol, asked_vector, clashes, fits, is_uncut}
use Rattle.form_match.specs.Places.{pieces_of}
use Rattle.form_match.specs.States.{Open, factors, arguments, calls}
use Rattle.form_bindings.specs.Values.{Binding}

-- ---- which candidates are left

-- a name may stand for this, unless its sets or what is bound are against it
abbrev pub may_be : Name → ℕ → Bool
may_be (Itself n) this = n == this
may_be (Wild w sets) this = true

abbrev pub symbol_fits : Bool → Name → ℤ → Option Power → Bool
symbol_fits is_exact n k None = false
symbol_fits is_exact n k (Some p) = may_be n p.symbol && fits is_exact p.exponent k

abbrev pub may_be_absent : Host → Name → Bool
may_be_absent h (Itself s) = not h.is_inner && (nat_abs (exponent_of h.term s) == 0)
may_be_absent h (Wild w sets) = false

abbrev pub whole_fits : Host → Name → Option Power → Bool
whole_fits h n None = may_be_absent h n
whole_fits h n (Some p) = may_be n p.symbol

-- the vectors of a dot product, as it stands or swapped
abbrev pub first_vector : DotPower → Bool → ℕ
first_vector d is_swapped = if is_swapped then d.right else d.left

abbrev pub second_vector : DotPower → Bool → ℕ
second_vector d is_swapped = if is_swapped then d.left else d.right

abbrev pub dot_fits : Bool → Name → Name → ℤ → Bool → Option DotPower → Bool
dot_fits is_exact p q k is_swapped None = false
dot_fits is_exact p q k is_swapped (Some d) = may_be p (first_vector d is_swapped) && may_be q (second_vector d is_swapped) && fits is_exact d.exponent k

abbrev pub component_fits : Name → Option Component → Bool
component_fits v None = false
component_fits v (Some d) = may_be v d.vector

abbrev pub function_fits : Name → Option Call → Bool
function_fits n None = false
function_fits n (Some c) = may_be n c.function

-- a word may begin with the functions of these pieces, as far as these have no arguments, and with the next one
abbrev pub may_begin : List Call → List PatternPiece → Bool
may_begin [] (pieces.Call n ∷ ps) = false
may_begin (c ∷ cs) (pieces.Call n ∷ pieces.EndOfArguments ∷ ps) = may_be n c.function && may_begin cs ps
may_begin (c ∷ cs) (pieces.Call n ∷ ps) = may_be n c.function
may_begin cs ps = true

-- the function that pieces begin with, and the pieces behind the end of its arguments, where it has none
abbrev pub first_call : List PatternPiece → Option (Name × List PatternPiece)
first_call (pieces.Call n ∷ ps) = Some (n, ps)
first_call _ = None

abbrev pub behind_end : List PatternPiece → Option (List PatternPiece)
behind_end (pieces.EndOfArguments ∷ ps) = Some ps
behind_end _ = None

-- whether a candidate of a factor is left, behind which are these pieces
abbrev pub is_fit : Host → PatternPiece → List PatternPiece → ℕ → Bool
is_fit h (pieces.Symbol n k) behind c = symbol_fits h.is_exact n k (slice_get h.term.symbols c)
is_fit h (pieces.Whole n m) behind c = whole_fits h n (slice_get h.term.symbols c)
is_fit h (pieces.Dot p q k) behind c = dot_fits h.is_exact p q k (c % 2 == 1) (slice_get h.term.others.dots (c / 2))
is_fit h (pieces.Component v i) behind c = component_fits v (slice_get h.term.others.components c)
is_fit h (pieces.Function n) behind c = function_fits n (slice_get h.term.others.functions c)
is_fit h (pieces.Word n) behind c = may_begin (drop c h.term.others.word) behind && is_uncut h.cuts n c
is_fit h p behind c = true

-- the first of so many that passes a test, from one on
abbrev pub IsNext : (ℕ → Bool) → (count from : ℕ) → Option ℕ → Type 0
IsNext test count from None = (k : ℕ) → from ≤ k → k < count → test k ≡ false
IsNext test count from (Some n) = (from ≤ n) × (n < count) × (test n ≡ true) × ((k : ℕ) → from ≤ k → k < n → test k ≡ false)

-- ---- what a candidate takes and asks

abbrev pub id_of : Name → ℕ
id_of (Itself n) = n
id_of (Wild w sets) = w

abbrev pub symbol_of : Name → Option Power → ℕ
symbol_of n None = id_of n
symbol_of n (Some p) = p.symbol

abbrev pub exponent_or_none : Option Power → ℤ
exponent_or_none None = pos 0
exponent_or_none (Some p) = p.exponent

abbrev pub use_at : Host → PatternPiece → ℕ → Use
use_at h (pieces.Symbol n k) c = uses.Symbol (symbol_of n (slice_get h.term.symbols c)) k
use_at h (pieces.Whole n m) c = uses.Symbol (symbol_of n (slice_get h.term.symbols c)) (exponent_or_none (slice_get h.term.symbols c))
use_at h (pieces.Dot p q k) c = uses.Dot (c / 2) k
use_at h (pieces.Component v i) c = uses.Component c
use_at h (pieces.Delta i j) c = uses.Delta (c / 2)
use_at h (pieces.Word n) c = uses.Stretch c n
use_at h p c = uses.Function c

abbrev pub whole_asked : Name → Name → Option Power → Option (List Binding)
whole_asked n m None = asked_number m (pos 0)
whole_asked n m (Some p) = and_asked (asked_symbol n p.symbol) (asked_number m p.exponent)

abbrev pub dot_asked : Name → Name → Bool → DotPower → Option (List Binding)
dot_asked p q is_swapped d = and_asked (asked_vector p (first_vector d is_swapped)) (asked_vector q (second_vector d is_swapped))

abbrev pub component_asked : Name → IndexName → Component → Option (List Binding)
component_asked v i d = and_asked (asked_vector v d.vector) (asked_index i d.index)

abbrev pub delta_asked : IndexName → IndexName → Bool → Delta → Option (List Binding)
delta_asked i j is_swapped d = and_asked (asked_index i (if is_swapped then d.second else d.first)) (asked_index j (if is_swapped then d.first else d.second))

abbrev pub asked_at : Host → PatternPiece → ℕ → Option (List Binding)
asked_at h (pieces.Symbol n k) c = option_and_then (λ p. asked_symbol n p.symbol) (slice_get h.term.symbols c)
asked_at h (pieces.Whole n m) c = whole_asked n m (slice_get h.term.symbols c)
asked_at h (pieces.Dot p q k) c = option_and_then (dot_asked p q (c % 2 == 1)) (slice_get h.term.others.dots (c / 2))
asked_at h (pieces.Component v i) c = option_and_then (component_asked v i) (slice_get h.term.others.components c)
asked_at h (pieces.Delta i j) c = option_and_then (delta_asked i j (c % 2 == 1)) (slice_get h.term.others.deltas (c / 2))
asked_at h (pieces.Function n) c = option_and_then (λ f. asked_function n f.function) (slice_get h.term.others.functions c)
asked_at h p c = Some []

-- whether a candidate is left, and nothing that is taken clashes with what it takes
abbrev pub is_free : Host → PatternPiece → List PatternPiece → List Use → ℕ → Bool
is_free h p behind us c = is_fit h p behind c && not (list_any (λ u. clashes u (use_at h p c)) us)

-- the first such one, with what it takes
abbrev pub IsNextFree : Host → PatternPiece → List PatternPiece → List Use → ℕ → ℕ → Option (ℕ × Use) → Type 0
IsNextFree h p behind us count from None = IsNext (is_free h p behind us) count from None
IsNextFree h p behind us count from (Some found) = IsNext (is_free h p behind us) count from (Some found.0) × (found.1 ≡ use_at h p found.0)

-- ---- what is open then

-- what is open once this is taken of a term, and the frame of that
abbrev pub opened : Host → List Use → List Open → Use → List Open
opened h us os (uses.Function m) = arguments (arguments_of (pieces_of (slice_get h.term.others.functions m))) ∷ factors h (us ++ uses.Function m ∷ []) ∷ os
opened h us os (uses.Stretch start n) = calls (drop start h.term.others.word) ∷ factors h (us ++ uses.Stretch start n ∷ []) ∷ os
opened h us os u = factors h (us ++ u ∷ []) ∷ os

abbrev pub frame_of_use : ℕ → Use → Frame
frame_of_use host (uses.Function m) = frames.Arguments (record { host = host; in_word = false; place = m; from = 0 })
frame_of_use host (uses.Stretch start n) = frames.Calls host start
frame_of_use host u = frames.Factors host

-- the place of a function that is taken has a next one
abbrev pub IsSmallUse : Use → Type 0
IsSmallUse (uses.Function m) = m + 1 < 2 ^ 64
IsSmallUse u = Unit {0}

-- and its arguments are arguments
abbrev pub IsLawfulUse : Host → Use → Type 0
IsLawfulUse h (uses.Function m) = AreArguments (pieces_of (slice_get h.term.others.functions m)) × (m + 1 < 2 ^ 64)
IsLawfulUse h u = Unit {0}

-- the first candidate of the first of these pieces; without pieces there is nothing to look for
abbrev pub IsFirstCandidate : Option ℕ → Host → List PatternPiece → Type 0
IsFirstCandidate first h [] = first ≡ Some 0
IsFirstCandidate first h (p ∷ ps) = IsNext (is_fit h p ps) (candidates h p) 0 first
