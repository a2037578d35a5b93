-- What a call that asks a list for its next term may answer.
use Rattle.std.specs.Prelude.{◌≡◌, ℕ, Option, Some, None, Result, Ok, Err}
use Rattle.form_term.specs.declared.monomial.Monomial.{Monomial}
use Rattle.form_base.specs.declared.cause.Cause.{Cause}
use Rattle.form_expand.specs.declared.error.ExpandError.{ExpandError}
use Rattle.form_expand.specs.declared.error.ExpandError.TheVariants.{Refused, Memory}
use Rattle.form_expand.specs.Listing.{Listing, nothing, single, refusal, before}
use Rattle.form_expand.specs.Left.{Level, left_at, left_past}

-- The first term of what was left, which goes; or that nothing is left; or the refusal that stands there. Nothing is
-- said where memory ran out.
abbrev pub Gives : Result (Option Monomial) ExpandError → Listing → Listing → Type 0
Gives (Ok (Some m)) old new = old ≡ before m new
Gives (Ok None) old new = (old ≡ nothing) × (new ≡ nothing)
Gives (Err (Refused cause)) old new = old ≡ refusal cause
Gives (Err Memory) old new = Unit {0}

-- the same of a level, whatever is left of the front before it; where nothing is left of it, it waits again
abbrev pub Takes : ℕ → Result (Option Monomial) ExpandError → Level → Level → Type 0
Takes max (Ok (Some m)) old new = (x : Listing) → left_at max old x ≡ before m (left_at max new x)
Takes max (Ok None) old new = (x : Listing) → left_at max old x ≡ left_past max (record { count = new.count; list = new.list }) x
Takes max (Err (Refused cause)) old new = (x : Listing) → left_at max old x ≡ refusal cause
Takes max (Err Memory) old new = Unit {0}

-- a product, none where it is 0, or its refusal
abbrev pub IsMade : Result (Option Monomial) ExpandError → Result (Option Monomial) Cause → Type 0
IsMade (Ok m) made = made ≡ Ok m
IsMade (Err (Refused cause)) made = made ≡ Err cause
IsMade (Err Memory) made = Unit {0}

-- the list of what was made: its term, or none where it is 0
abbrev pub ListsMade : Result (Option Monomial) ExpandError → Listing → Type 0
ListsMade (Ok (Some m)) l = l ≡ single m
ListsMade (Ok None) l = l ≡ nothing
ListsMade (Err (Refused cause)) l = l ≡ refusal cause
ListsMade (Err Memory) l = ⊥
