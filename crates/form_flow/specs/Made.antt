-- What functions answer that make something, or are refused.
use Rattle.std.specs.Prelude.{◌≡◌, List, ◌++◌, Option, Result, Ok, Err}
use Rattle.std.specs.Global.{Vec}
use Rattle.form_base.specs.declared.cause.Cause.{Cause}
use Rattle.form_term.specs.declared.monomial.Monomial.{Monomial}
use Rattle.form_term.specs.declared.piece.Piece.{Piece}
use Rattle.form_term.specs.Term.{Argument, pieces_of_argument}
use Rattle.form_expand.specs.declared.error.ExpandError.{ExpandError}
use Rattle.form_expand.specs.declared.error.ExpandError.TheVariants.{Refused, Memory}
use Rattle.form_expand.specs.Calls.{AreCollected}
use Rattle.form_expand.specs.Listing.{Listing, nothing}
use Rattle.form_expand.specs.Singles.{argument_of}
use Rattle.form_flow.specs.Left.{Nexts}

-- a value, seen by view, or the refusal; nothing is said where memory ran out
abbrev pub IsGiven : {A B : Type 0} → (A → B) → Result A ExpandError → Result B Cause → Type 0
IsGiven view (Ok x) made = made ≡ Ok (view x)
IsGiven view (Err (Refused cause)) made = made ≡ Err cause
IsGiven view (Err Memory) made = Unit {0}

-- a list of one term at most, or a refusal
abbrev pub Makes : Result (Option Monomial) ExpandError → Listing → Type 0
Makes r l = Nexts r l nothing

-- what is collected of a list
abbrev pub Collects : Result (Vec Monomial) ExpandError → Listing → Type 0
Collects (Ok terms) l = AreCollected terms.items l
Collects (Err (Refused cause)) l = argument_of l ≡ Err cause
Collects (Err Memory) l = Unit {0}

-- these pieces and those of one argument more
abbrev pub and_pieces : List Piece → Result Argument Cause → Result (List Piece) Cause
and_pieces old (Ok a) = Ok (old ++ pieces_of_argument a)
and_pieces old (Err cause) = Err cause
