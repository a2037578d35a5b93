-- What is answered where equal terms are joined on the way.
use Rattle.std.specs.Prelude.{◌≡◌, Bool, true, false, List, ◌++◌, Option, Some, None, Result, Ok, Err}
use Rattle.form_base.specs.declared.cause.Cause.{Cause}
use Rattle.form_term.specs.declared.monomial.Monomial.{Monomial}
use Rattle.form_gathered.specs.Joined.{HaveSums}
use Rattle.form_gathered.specs.declared.joined.JoinedTerm.{JoinedTerm}
use Rattle.form_expand.specs.Listing.{Listing}
use Rattle.form_flow.specs.Statement.{Compiled}
use Rattle.form_flow.specs.Statements.{outputs}
use Rattle.form_module.specs.Answers.{Adds, IsEndedBy, IsRefused}
use Rattle.form_module.specs.Module.{collected_list, through}
use Rattle.form_module.specs.declared.result_error.ResultError.{ResultError}

-- The terms or the refusal that a function answered are what is meant; nothing is said where it answered none, or memory ran
-- out.
abbrev pub GivesIfAny : Result (Option (List Monomial)) ResultError → Result (List Monomial) Cause → Type 0
GivesIfAny (Ok (Some terms)) meant = meant ≡ Ok terms
GivesIfAny (Ok None) meant = Unit {0}
GivesIfAny (Err error) meant = IsRefused error meant

-- what the statements make of a list comes to these terms
abbrev pub ComesTo : Compiled → Listing → List Monomial → Type 0
ComesTo c l terms = collected_list (through (outputs c) l) ≡ Ok terms

-- terms were added: whatever list the old joined terms have the sums of, the new ones have those of it with them; where it was
-- answered that they were
abbrev pub AreAddedIf : List JoinedTerm → List JoinedTerm → List Monomial → Bool → Type 0
AreAddedIf old new ms true = (list : List Monomial) → HaveSums old list → HaveSums new (list ++ ms)
AreAddedIf old new ms false = Unit {0}

-- joined terms were added: the new ones have the sums of all lists that the old ones and these have the sums of, one behind
-- the other; where it was answered that they were
abbrev pub AreTogetherIf : List JoinedTerm → List JoinedTerm → List JoinedTerm → Bool → Type 0
AreTogetherIf old more new true = (a b : List Monomial) → HaveSums old a → HaveSums more b → HaveSums new (a ++ b)
AreTogetherIf old more new false = Unit {0}

-- A list that isn't refused was added to joined terms, or its refusal was answered; nothing is said where it was answered that
-- it wasn't added, or memory ran out.
abbrev pub IsPut : Listing → List JoinedTerm → List JoinedTerm → Result Bool ResultError → Type 0
IsPut l old new (Ok true) = Adds HaveSums l old new
IsPut l old new (Ok false) = Unit {0}
IsPut l old new (Err error) = IsEndedBy error l
