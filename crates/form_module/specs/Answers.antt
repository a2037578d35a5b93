-- What the parts of a module's call answer, and what errors of the calls below become.
use Rattle.std.specs.Prelude.{◌≡◌, ℕ, List, ◌++◌, Some, None, Result, Ok, Err, Vec}
use Rattle.std.specs.declared.alloc.Global.{Global}
use Rattle.form_base.specs.declared.cause.Cause.{Cause}
use Rattle.form_base.specs.declared.cause.Cause.TheVariants.{Overflow}
use Rattle.form_collect.specs.declared.collector.CollectError as collect
use Rattle.form_collect.specs.declared.collector.CollectError.TheVariants as collects
use Rattle.form_expand.specs.declared.error.ExpandError as expand
use Rattle.form_expand.specs.declared.error.ExpandError.TheVariants as expands
use Rattle.form_base.specs.declared.settings.Settings.{Settings}
use Rattle.form_term.specs.declared.monomial.Monomial.{Monomial}
use Rattle.form_collect.specs.Collector.{IsCollectionOf}
use Rattle.form_collect.specs.declared.collector.Collector.{Collector}
use Rattle.form_check.specs.declared.checked.Checked.{Checked}
use Rattle.form_expand.specs.declared.stored.Stored.{Stored}
use Rattle.form_expand.specs.Listing.{Listing}
use Rattle.form_expand.specs.Meanings.{Meanings}
use Rattle.form_flow.specs.Statement.{Compiled}
use Rattle.form_module.specs.Module.{outcome_by, standing_after}
use Rattle.form_module.specs.declared.carry_error.CarryError as carry_error
use Rattle.form_module.specs.declared.carry_error.CarryError.TheVariants as carry_errors
use Rattle.form_module.specs.declared.result_error.ResultError.{ResultError}
use Rattle.form_module.specs.declared.result_error.ResultError.TheVariants.{Refused, Memory}

abbrev pub of_expand : expand.ExpandError → ResultError
of_expand (expands.Refused cause) = Refused cause
of_expand expands.Memory = Memory

-- the error of a module at an expression
abbrev pub at_expression : ℕ → ResultError → carry_error.CarryError
at_expression expression (Refused cause) = carry_errors.Refused cause expression
at_expression expression Memory = carry_errors.Memory

abbrev pub of_collect : collect.CollectError → ResultError
of_collect collects.Overflow = Refused Overflow
of_collect collects.Memory = Memory

-- what an error says of what is meant; nothing where memory ran out
abbrev pub IsRefused : {Y : Type 0} → ResultError → Result Y Cause → Type 0
IsRefused (Refused cause) meant = meant ≡ Err cause
IsRefused Memory meant = Unit {0}

-- What a function answered, seen by a view, is what is meant, unless memory ran out.
abbrev pub Gives : {X Y : Type 0} → (X → Y) → Result X ResultError → Result Y Cause → Type 0
Gives view (Ok x) meant = meant ≡ Ok (view x)
Gives view (Err e) meant = IsRefused e meant

-- A list that isn't refused was added to what stands for lists: whatever it stood for, now it stands for that with this one
-- behind it.
abbrev pub Adds : {S : Type 0} → (S → List Monomial → Type 0) → Listing → S → S → Type 0
Adds StandsFor l old new = (l.end ≡ None) × ((list : List Monomial) → StandsFor old list → StandsFor new (list ++ l.terms))

-- what an error says of a list; nothing where memory ran out
abbrev pub IsEndedBy : ResultError → Listing → Type 0
IsEndedBy (Refused cause) l = l.end ≡ Some cause
IsEndedBy Memory l = Unit {0}

-- A list was added to a collector, or a refusal ends it; nothing is said where memory ran out.
abbrev pub IsAdded : Listing → Collector → Collector → Result Unit ResultError → Type 0
IsAdded l old new (Ok u) = Adds IsCollectionOf l old new
IsAdded l old new (Err e) = IsEndedBy e l

-- What is carried out was carried out: put among what stays, these results give what stands after the module; or it is
-- refused, unless memory ran out.
abbrev pub AreCarriedOut : Settings → List Checked → Compiled → Meanings → Result (Vec Stored Global) carry_error.CarryError → Type 0
AreCarriedOut settings statements ready names (Ok made) =
    outcome_by settings statements ready names ≡ standing_after statements names.stored (Ok made.items)
AreCarriedOut settings statements ready names (Err (carry_errors.Refused cause expression)) =
    outcome_by settings statements ready names ≡ Err (record { cause = cause; expression = expression })
AreCarriedOut settings statements ready names (Err carry_errors.Memory) = Unit {0}
