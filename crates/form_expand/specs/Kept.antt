-- A list that is kept as a whole.
use Rattle.std.specs.Prelude.{◌≡◌, ℕ, ◌+◌, ◌<◌, length, List, [], ◌∷◌, drop, Option, Some, None, Result, Ok, Err}
use Rattle.std.specs.Borrow.{Bor}
use Rattle.form_base.specs.declared.cause.Cause.{Cause}
use Rattle.form_term.specs.declared.monomial.Monomial.{Monomial}
use Rattle.form_expand.specs.declared.error.ExpandError.{ExpandError}
use Rattle.form_expand.specs.declared.error.ExpandError.TheVariants.{Refused}
use Rattle.form_expand.specs.declared.refusal.Refusal.{Refusal}
use Rattle.form_expand.specs.declared.whole.Kept.{Kept}
use Rattle.form_expand.specs.declared.whole.Kept.TheVariants as kept
use Rattle.form_expand.specs.declared.whole.Whole.{Whole}
use Rattle.form_expand.specs.Listing.{Listing, before}

abbrev pub kept_terms : Kept → List Monomial
kept_terms kept.None = []
kept_terms (kept.One term) = term ∷ []
kept_terms (kept.Made terms) = terms.items
kept_terms (kept.Stored terms) = terms.now

abbrev pub end_of : Option Refusal → Option Cause
end_of None = None
end_of (Some refusal) = Some refusal.cause

abbrev pub listing : Whole → Listing
listing w = record { terms = kept_terms w.kept; end = end_of w.end }

-- a list and its power
abbrev pub listed : Whole × ℕ → Listing × ℕ
listed w = (listing w.0, w.1)

-- what is left of a list from a place on
abbrev pub rest_at : ℕ → Listing → Listing
rest_at place l = record { terms = drop place l.terms; end = l.end }

-- the term at a place, where there is one, is the first of what is left from there on
abbrev pub BeginsAt : Listing → ℕ → Option (Bor Monomial) → Type 0
BeginsAt l place (Some term) = (rest_at place l ≡ before term.now (rest_at (place + 1) l)) × (place < length l.terms)
BeginsAt l place None = rest_at place l ≡ record { terms = []; end = l.end }

-- the answer behind the last term
abbrev pub ended_by : Option Cause → Result (Option Monomial) ExpandError
ended_by None = Ok None
ended_by (Some cause) = Err (Refused cause)
