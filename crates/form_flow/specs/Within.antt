-- What functions answer that carry a block out on the terms of arguments.
use Rattle.std.specs.Prelude.{◌≡◌, ℕ, suc, ◌≤◌, ◌==◌, ◌&&◌, ◌||◌, not, Bool, false, List, [], ◌∷◌, ◌++◌, length, Result, Ok, Err}
use Rattle.std.specs.Global.{Vec}
use Rattle.std.specs.List.{list_any}
use Rattle.form_check.specs.declared.checked.Picked.{Picked}
use Rattle.form_collect.specs.Collector.{IsCollectionOf}
use Rattle.form_collect.specs.declared.collector.Collector.{Collector}
use Rattle.form_expand.specs.Calls.{AreCollected}
use Rattle.form_expand.specs.declared.error.ExpandError.{ExpandError}
use Rattle.form_expand.specs.declared.error.ExpandError.TheVariants.{Refused, Memory}
use Rattle.form_expand.specs.Listing.{Listing, followed, limited}
use Rattle.form_expand.specs.Singles.{argument_of}
use Rattle.form_expand.specs.Walks.{all_of}
use Rattle.form_match.specs.Parts.{begins_sum}
use Rattle.form_normal.specs.Product.{is_fixed}
use Rattle.form_term.specs.Arguments.{arguments_of}
use Rattle.form_term.specs.declared.monomial.Monomial.{Monomial}
use Rattle.form_term.specs.declared.piece.Piece.{Piece}
use Rattle.form_term.specs.Term.{Argument, Call, Term, is_nil, pieces_of_argument}
use Rattle.form_flow.specs.declared.within.Walk.{Walk}
use Rattle.form_flow.specs.Arguments.{Progress, ends, is_picked, so_far}
use Rattle.form_flow.specs.Outcome.{Outcome, has_acted, listing_of}
use Rattle.form_flow.specs.Statements.{run}

-- the most terms of a list, and what a block makes of a term
abbrev pub most_of : Walk → ℕ
most_of w = w.compiled.now.limits.terms

abbrev pub going_by : Walk → Monomial → Outcome
going_by w = run w.compiled.now.limits w.block.now

-- an argument of a function may be taken
abbrev pub is_named : List Picked → ℕ → Bool
is_named ps f = is_nil ps || list_any (λ p. p.function == f) ps

-- an expression among these arguments, from a number on, is taken
abbrev pub takes_from : List Picked → ℕ → ℕ → List Argument → Bool
takes_from ps f k [] = false
takes_from ps f k (a ∷ more) = (is_picked ps f k && begins_sum (pieces_of_argument a)) || takes_from ps f (suc k) more

abbrev pub is_taken : List Picked → Call → Bool
is_taken ps c = takes_from ps c.function 1 (arguments_of c.pieces)

abbrev pub has_taken : List Picked → List Call → Bool
has_taken ps cs = list_any (is_taken ps) cs

-- no expression in a term is taken, and none of its deltas is 1 or 0
abbrev pub is_left : List Picked → Term → Bool
is_left ps t = not (has_taken ps t.others.functions) && not (has_taken ps t.others.word) && not (list_any is_fixed t.others.deltas)

-- a value, seen by view, and whether something acted up to there; or the refusal
abbrev pub Reaches : {A B : Type 0} → (A → B) → Result A ExpandError → Bool → Progress B → Type 0
Reaches view (Ok x) acted made = made ≡ so_far (view x) acted
Reaches view (Err (Refused cause)) acted made = made ≡ ends cause
Reaches view (Err Memory) acted made = Unit {0}

-- these pieces and those of one argument more
abbrev pub and_pieces_far : List Piece → Progress Argument → Progress (List Piece)
and_pieces_far old (so_far a acted) = so_far (old ++ pieces_of_argument a) acted
and_pieces_far old (ends cause) = ends cause

-- what is collected of outputs, of which there may be so many, and whether something acted before or in them
abbrev pub AreBehind : ℕ → Bool → Result (Vec Monomial) ExpandError → Bool → Outcome → Type 0
AreBehind max before (Ok terms) after o = AreCollected terms.items (limited max (listing_of o)) × (after ≡ (before || has_acted o.end))
AreBehind max before (Err (Refused cause)) after o = argument_of (limited max (listing_of o)) ≡ Err cause
AreBehind max before (Err Memory) after o = Unit {0}

-- a collector stands for a list of so many terms, which may have more
pub record Holds (max : ℕ) (c : Collector) (given : ℕ) (list : List Monomial) : Type 0 where
  pub stands : IsCollectionOf c list
  pub count : given ≡ length list
  pub within : length list ≤ max

-- Outputs were added, whatever was there: all of them; or they are refused, or there are too many.
abbrev pub Adds : ℕ → Collector → ℕ → Result ℕ ExpandError → Collector → Outcome → Type 0
Adds max old given (Ok n) new o = (list : List Monomial) → Holds max old given list → Holds max new n (list ++ (listing_of o).terms)
Adds max old given (Err (Refused cause)) new o =
    (list : List Monomial) → Holds max old given list → (rest : Listing) → argument_of (limited max (followed (all_of list) (followed (listing_of o) rest))) ≡ Err cause
Adds max old given (Err Memory) new o = Unit {0}
