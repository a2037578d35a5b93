-- What becomes of a term: outputs in order, each with whether a statement acted on its way, and how they end.
use Rattle.std.specs.Prelude.{ℕ, zero, suc, ◌||◌, Bool, true, false, if◌then◌else◌, List, [], ◌∷◌, ◌++◌, map, Option, Some, None}
use Rattle.form_base.specs.declared.cause.Cause.{Cause}
use Rattle.form_base.specs.declared.cause.Cause.TheVariants.{RepeatBudget}
use Rattle.form_term.specs.declared.monomial.Monomial.{Monomial}
use Rattle.form_expand.specs.Listing.{Listing}

pub record Output : Type 0 where
  pub item : Monomial
  pub acted : Bool

-- Outputs are done, and something acted or nothing did, also on ways of which nothing came; or they are refused.
pub data Ended : Type 0 where
  done : (acted : Bool) → Ended
  refused : Cause → Ended

pub record Outcome : Type 0 where
  pub outputs : List Output
  pub end : Ended

-- this output alone
abbrev pub single : Output → Outcome
single o = record { outputs = o ∷ []; end = done false }

abbrev pub unchanged : Monomial → Outcome
unchanged m = single (record { item = m; acted = false })

-- no output, and nothing acted
abbrev pub gone : Outcome
gone = record { outputs = []; end = done false }

-- no output, and whether something acted
abbrev pub silent : Bool → Outcome
silent acted = record { outputs = []; end = done acted }

abbrev pub refusal : Cause → Outcome
refusal cause = record { outputs = []; end = refused cause }

abbrev pub end_of : Bool → Option Cause → Ended
end_of acted None = done acted
end_of acted (Some cause) = refused cause

abbrev pub output : Bool → Monomial → Output
output acted m = record { item = m; acted = acted }

-- a list that came of a term, because something acted or without that
abbrev pub acted_or_not : Bool → Listing → Outcome
acted_or_not acted l = record { outputs = map (output acted) l.terms; end = end_of acted l.end }

-- a statement acted, and this list came of it
abbrev pub made : Listing → Outcome
made l = acted_or_not true l

abbrev pub or_acted : Bool → Ended → Ended
or_acted acted (done also) = done (acted || also)
or_acted acted (refused cause) = refused cause

-- one outcome and then another; behind a refusal nothing comes
unfoldable pub then_at : List Output → Ended → Outcome → Outcome
then_at os (done acted) b = record { outputs = os ++ b.outputs; end = or_acted acted b.end }
then_at os (refused cause) b = record { outputs = os; end = refused cause }

abbrev pub and_then : Outcome → Outcome → Outcome
and_then a b = then_at a.outputs a.end b

-- each output in order goes on; what ended them stands behind
unfoldable pub each : (Output → Outcome) → List Output → Ended → Outcome
each go [] end = record { outputs = []; end = end }
each go (o ∷ os) end = and_then (go o) (each go os end)

abbrev pub bind : (Output → Outcome) → Outcome → Outcome
bind go o = each go o.outputs o.end

abbrev pub also_acted : Bool → Output → Output
also_acted acted o = record { item = o.item; acted = acted || o.acted }

-- outputs of a term on whose way something acted before, or didn't
abbrev pub behind : Bool → Outcome → Outcome
behind acted o = record { outputs = map (also_acted acted) o.outputs; end = o.end }

-- what comes of an output further on
abbrev pub onward : (Monomial → Outcome) → Output → Outcome
onward go o = behind o.acted (go o.item)

abbrev pub through : (Monomial → Outcome) → Outcome → Outcome
through go o = bind (onward go) o

-- An output on whose way something acted goes into a further turn; the others leave.
abbrev pub next_turn : (Monomial → Outcome) → Output → Outcome
next_turn go o = if o.acted then onward go o else single o

-- what comes of a term where so many turns may begin
unfoldable pub turns : ℕ → (Monomial → Outcome) → Monomial → Outcome
turns zero once m = refusal RepeatBudget
turns (suc n) once m = bind (next_turn (turns n once)) (once m)

-- outputs that have left all blocks: what acted on their way is no longer asked for
abbrev pub without_marks : Outcome → Outcome
without_marks o = record { outputs = map (λ x. output false x.item) o.outputs; end = o.end }

-- ---- the outputs alone

abbrev pub cause_of : Ended → Option Cause
cause_of (done acted) = None
cause_of (refused cause) = Some cause

abbrev pub has_acted : Ended → Bool
has_acted (done acted) = acted
has_acted (refused cause) = false

abbrev pub listing_of : Outcome → Listing
listing_of o = record { terms = map (λ x. x.item) o.outputs; end = cause_of o.end }
