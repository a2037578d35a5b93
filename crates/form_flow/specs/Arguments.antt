-- A block that is carried out on the terms of arguments.
use Rattle.std.specs.Prelude.{ℕ, suc, ◌==◌, ◌&&◌, ◌||◌, Bool, false, if◌then◌else◌, List, [], ◌∷◌, map, Result, Ok, Err}
use Rattle.std.specs.List.{list_any}
use Rattle.form_base.specs.declared.cause.Cause.{Cause}
use Rattle.form_term.specs.declared.monomial.Monomial.{Monomial}
use Rattle.form_term.specs.Arguments.{arguments_of}
use Rattle.form_term.specs.Monomial.{as_monomial}
use Rattle.form_term.specs.Term.{Call, Argument, expression, call_of, is_nil}
use Rattle.form_check.specs.declared.checked.Picked.{Picked}
use Rattle.form_normal.specs.Product.{product}
use Rattle.form_expand.specs.Listing.{limited}
use Rattle.form_expand.specs.Singles.{argument_of, of_product}
use Rattle.form_flow.specs.Outcome.{Outcome, acted_or_not, and_then, gone, has_acted, listing_of, refusal}

-- this argument of this function is named, by its number from 1, or all of the function
abbrev pub picks : ℕ → ℕ → Picked → Bool
picks f k p = (p.function == f) && (is_nil p.numbers || list_any (λ n. n == k) p.numbers)

-- a block takes an argument of a function; all of all functions where none is named
abbrev pub is_picked : List Picked → ℕ → ℕ → Bool
is_picked ps f k = is_nil ps || list_any (picks f k) ps

-- what a block makes of the terms of an argument, one after the other
abbrev pub outcome_of_terms : (Monomial → Outcome) → List Monomial → Outcome
outcome_of_terms go [] = gone
outcome_of_terms go (m ∷ ms) = and_then (go m) (outcome_of_terms go ms)

-- what is made, and whether something acted up to there; or the first refusal
pub data Progress (A : Type 0) : Type 0 where
  so_far : A → (acted : Bool) → Progress A
  ends : Cause → Progress A

abbrev pub progress : {A : Type 0} → Bool → Result A Cause → Progress A
progress acted (Ok x) = so_far x acted
progress acted (Err cause) = ends cause

-- an argument behind a block, of at most so many terms before equal ones are added
abbrev pub argument_behind : ℕ → (Monomial → Outcome) → Bool → Argument → Progress Argument
argument_behind max go acted (expression ss) =
    let o = outcome_of_terms go (map as_monomial ss) in progress (acted || has_acted o.end) (argument_of (limited max (listing_of o)))
argument_behind max go acted a = so_far a acted

abbrev pub before_far : {A : Type 0} → A → Progress (List A) → Progress (List A)
before_far x (so_far xs acted) = so_far (x ∷ xs) acted
before_far x (ends cause) = ends cause

abbrev pub and_far : {A : Type 0} → Progress A → (Bool → Progress (List A)) → Progress (List A)
and_far (so_far x acted) rest = before_far x (rest acted)
and_far (ends cause) rest = ends cause

-- an argument of this number
abbrev pub numbered_behind : ℕ → (Monomial → Outcome) → List Picked → ℕ → ℕ → Bool → Argument → Progress Argument
numbered_behind max go ps f k acted a = if is_picked ps f k then argument_behind max go acted a else so_far a acted

-- arguments from a number on
abbrev pub arguments_behind : ℕ → (Monomial → Outcome) → List Picked → ℕ → ℕ → Bool → List Argument → Progress (List Argument)
arguments_behind max go ps f k acted [] = so_far [] acted
arguments_behind max go ps f k acted (a ∷ more) = and_far (numbered_behind max go ps f k acted a) (λ also. arguments_behind max go ps f (suc k) also more)

abbrev pub call_far : ℕ → Progress (List Argument) → Progress Call
call_far f (so_far args acted) = so_far (call_of f args) acted
call_far f (ends cause) = ends cause

abbrev pub call_behind : ℕ → (Monomial → Outcome) → List Picked → Bool → Call → Progress Call
call_behind max go ps acted c = call_far c.function (arguments_behind max go ps c.function 1 acted (arguments_of c.pieces))

-- functions, one after the other
abbrev pub calls_behind : ℕ → (Monomial → Outcome) → List Picked → Bool → List Call → Progress (List Call)
calls_behind max go ps acted [] = so_far [] acted
calls_behind max go ps acted (c ∷ cs) = and_far (call_behind max go ps acted c) (λ also. calls_behind max go ps also cs)

abbrev pub with_functions : Monomial → List Call → List Call → Monomial
with_functions m fs ws = record {
  coefficient = m.coefficient;
  term = record { symbols = m.term.symbols; others = record m.term.others { functions = fs; word = ws } };
}

-- a term made anew with its functions
abbrev pub anew : Monomial → List Call → Progress (List Call) → Outcome
anew m fs (so_far ws acted) = acted_or_not acted (of_product (product (with_functions m fs ws ∷ [])))
anew m fs (ends cause) = refusal cause

abbrev pub and_word : ℕ → (Monomial → Outcome) → List Picked → Monomial → Progress (List Call) → Outcome
and_word max go ps m (so_far fs acted) = anew m fs (calls_behind max go ps acted m.term.others.word)
and_word max go ps m (ends cause) = refusal cause

-- In each expression argument that is picked, of the commuting functions and then of the others, the block goes over each
-- term; what comes of it is collected; then the term is made anew.
unfoldable pub in_arguments : ℕ → List Picked → (Monomial → Outcome) → Monomial → Outcome
in_arguments max ps go m = and_word max go ps m (calls_behind max go ps false m.term.others.functions)
