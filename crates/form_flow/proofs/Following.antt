-- A refusal that steps come to is the end of what is left.
use Rattle.std.proofs.Common.{◌≡◌, ℕ, Bool, true, false, length, ltb, Option, Some, None, Result, Ok, Err, is_some, IsTrue, refl, ap, ◌∙◌}
use Rattle.std.proofs.lemmas.Bool.{ltb-true, ltb-false}
use Rattle.form_base.specs.declared.cause.Cause.{Cause}
use Rattle.form_term.specs.declared.monomial.Monomial.{Monomial}
use Rattle.form_expand.specs.declared.error.ExpandError.{ExpandError}
use Rattle.form_expand.specs.declared.error.ExpandError.TheVariants.{Refused, Memory}
use Rattle.form_expand.specs.Listing.{Listing, limited}
use Rattle.form_expand.proofs.Listings.{limited_beyond, limited_within}
use Rattle.form_flow.specs.declared.descent.Descent.{Descent}
use Rattle.form_flow.specs.Left.{Begins, Follows, Foresees, IsRefused, Refuses}
use Rattle.form_flow.specs.Outcome.{Outcome, and_then, cause_of, unchanged}
use Rattle.form_flow.proofs.Giving.{listing_output}

-- an output doesn't change the end
pub end_behind : (m : Monomial) (o : Outcome) → cause_of (and_then (unchanged m) o).end ≡ cause_of o.end
end_behind m o = ap (λ (l : Listing). l.end) (listing_output m o)

pub begins_follows : (r : Result (Option Monomial) ExpandError) (old mid : Outcome) (new : Descent) → cause_of old.end ≡ cause_of mid.end → Begins r mid new → Follows r old new
begins_follows (Ok (Some m)) old mid new same is = (same ∙ ap (λ (o : Outcome). cause_of o.end) is.0, is.1)
begins_follows (Ok None) old mid new same is = tt
begins_follows (Err (Refused cause)) old mid new same is = same ∙ ap (λ (o : Outcome). cause_of o.end) is
begins_follows (Err Memory) old mid new same is = tt

pub refuses_follows : (e : ExpandError) (old : Outcome) (new : Descent) → Refuses e old → Follows (Err e) old new
refuses_follows (Refused cause) old new is = ap (λ (o : Outcome). cause_of o.end) is
refuses_follows Memory old new is = tt

pub refuses_foresees : (e : ExpandError) (old : Outcome) → Refuses e old → Foresees (Err e) old
refuses_foresees (Refused cause) old is = ap (λ (o : Outcome). cause_of o.end) is
refuses_foresees Memory old is = tt

pub follows_foresees : (e : ExpandError) (old mid : Outcome) (new : Descent) → cause_of old.end ≡ cause_of mid.end → Follows (Err e) mid new → Foresees (Err e) old
follows_foresees (Refused cause) old mid new same is = same ∙ is
follows_foresees Memory old mid new same is = tt

-- whatever the limit, a list that is refused is so within it
pub refused_within : (n : ℕ) (cause : Cause) (l : Listing) → l.end ≡ Some cause → IsRefused (limited n l)
refused_within n cause l is = step (ltb n (length l.terms)) refl
  where
    step : (b : Bool) → ltb n (length l.terms) ≡ b → IsTrue (is_some (limited n l).end)
    step true e = rw (limited_beyond n l (ltb-true n (length l.terms) e)) refl
    step false e = rw (limited_within n l (ltb-false n (length l.terms) e)) (ap is_some is)
