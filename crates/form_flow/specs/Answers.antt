-- What carrying a term out may answer.
use Rattle.std.specs.Prelude.{◌≡◌, List, ◌++◌, Some, None, Bool, true, false, Result, Ok}
use Rattle.std.specs.declared.alloc.AllocError.{AllocError}
use Rattle.form_term.specs.declared.monomial.Monomial.{Monomial}
use Rattle.form_expand.specs.Listing.{Listing}
use Rattle.form_flow.specs.declared.carry.End.{End}
use Rattle.form_flow.specs.declared.carry.End.TheVariants as ends
use Rattle.form_flow.specs.declared.carry.Go.{Go}
use Rattle.form_flow.specs.declared.carry.Go.TheVariants as answers

-- so far, a front of the list was emitted
pub record IsFront (old : List Monomial) (l : Listing) (new : List Monomial) : Type 0 where
  pub front : List Monomial
  pub rest : List Monomial
  pub terms : l.terms ≡ front ++ rest
  pub emitted : new ≡ old ++ front

-- What was emitted before and is emitted now, by the list that was carried out: all of it and its end; or a front of it,
-- where the emitter stopped or memory ran out.
abbrev pub Carries : List Monomial → Listing → List Monomial → End → Type 0
Carries old l new ends.Done = (new ≡ old ++ l.terms) × (l.end ≡ None)
Carries old l new (ends.Refused cause) = (new ≡ old ++ l.terms) × (l.end ≡ Some cause)
Carries old l new ends.Stopped = IsFront old l new
Carries old l new ends.Memory = IsFront old l new

-- an emitter answers that it wants no more
abbrev pub is_stop : Result Go AllocError → Bool
is_stop (Ok answers.Stops) = true
is_stop _ = false

-- carrying out ended because the emitter wanted no more
abbrev pub is_stopped : End → Bool
is_stopped ends.Stopped = true
is_stopped _ = false
