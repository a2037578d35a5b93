-- A block that is carried out on the terms of arguments, each of which it goes over by itself.
use Rattle.std.specs.Prelude.{ℕ, suc, ◌&&◌, ◌||◌, Bool, false, if◌then◌else◌, List, [], ◌∷◌, map, Result, Ok, Err}
use Rattle.std.specs.List.{list_any}
use Rattle.form_base.specs.declared.cause.Cause.{Cause}
use Rattle.form_term.specs.declared.monomial.Monomial.{Monomial}
use Rattle.form_term.specs.Arguments.{arguments_of}
use Rattle.form_term.specs.Monomial.{as_monomial}
use Rattle.form_term.specs.Term.{Call, Argument, expression}
use Rattle.form_check.specs.declared.checked.Picked.{Picked}
use Rattle.form_normal.specs.Product.{product}
use Rattle.form_expand.specs.Listing.{limited}
use Rattle.form_expand.specs.Singles.{argument_of, of_product}
use Rattle.form_flow.specs.Arguments.{is_picked, outcome_of_terms, with_functions}
use Rattle.form_flow.specs.Indices.{and_made, call_by, each_made}
use Rattle.form_flow.specs.Outcome.{Outcome, acted_or_not, has_acted, listing_of, refusal}

-- an argument, of at most so many terms before equal ones are added, and whether something acts on one of its terms
abbrev pub argument_alone : ℕ → (Monomial → Outcome) → Argument → Result Argument Cause
argument_alone max go (expression ss) = argument_of (limited max (listing_of (outcome_of_terms go (map as_monomial ss))))
argument_alone max go a = Ok a

abbrev pub argument_acts : (Monomial → Outcome) → Argument → Bool
argument_acts go (expression ss) = has_acted (outcome_of_terms go (map as_monomial ss)).end
argument_acts go a = false

-- the arguments of a function from a number on: those that are picked are gone over, the others stay
abbrev pub arguments_alone : ℕ → (Monomial → Outcome) → List Picked → ℕ → ℕ → List Argument → Result (List Argument) Cause
arguments_alone max go ps f k [] = Ok []
arguments_alone max go ps f k (a ∷ more) = and_made (if is_picked ps f k then argument_alone max go a else Ok a) (arguments_alone max go ps f (suc k) more)

abbrev pub arguments_act : (Monomial → Outcome) → List Picked → ℕ → ℕ → List Argument → Bool
arguments_act go ps f k [] = false
arguments_act go ps f k (a ∷ more) = (is_picked ps f k && argument_acts go a) || arguments_act go ps f (suc k) more

-- a function
abbrev pub call_alone : ℕ → (Monomial → Outcome) → List Picked → Call → Result Call Cause
call_alone max go ps c = call_by c.function (arguments_alone max go ps c.function 1 (arguments_of c.pieces))

abbrev pub call_acts : (Monomial → Outcome) → List Picked → Call → Bool
call_acts go ps c = arguments_act go ps c.function 1 (arguments_of c.pieces)

-- a term made anew with these functions, the commuting ones and the others
abbrev pub with_both : Monomial → Bool → Result (List Call) Cause → Result (List Call) Cause → Outcome
with_both m acted (Err cause) ws = refusal cause
with_both m acted (Ok fs) (Err cause) = refusal cause
with_both m acted (Ok fs) (Ok ws) = acted_or_not acted (of_product (product (with_functions m fs ws ∷ [])))

-- a term with each of its functions so, which acted where something acts in one of them
abbrev pub each_alone : ℕ → List Picked → (Monomial → Outcome) → Monomial → Outcome
each_alone max ps go m =
    with_both m (list_any (call_acts go ps) m.term.others.functions || list_any (call_acts go ps) m.term.others.word)
    (each_made (call_alone max go ps) m.term.others.functions) (each_made (call_alone max go ps) m.term.others.word)
