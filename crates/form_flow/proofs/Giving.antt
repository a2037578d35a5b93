-- Outputs within the limit on their number.
use Rattle.std.proofs.Common.{◌≡◌, ℕ, suc, ◌+◌, ◌-◌, ◌<◌, ◌≤◌, ◌∷◌, map, Option, Err, ap, ◌∙◌, arith}
use Rattle.form_base.specs.declared.cause.Cause.{Cause}
use Rattle.form_base.specs.declared.cause.Cause.TheVariants.{ExpandLimit}
use Rattle.form_term.specs.declared.monomial.Monomial.{Monomial}
use Rattle.form_expand.specs.declared.error.ExpandError.{ExpandError}
use Rattle.form_expand.specs.declared.error.ExpandError.TheVariants as errors
use Rattle.form_expand.specs.Listing.{Listing, before, limited, refusal}
use Rattle.form_expand.specs.Next as next
use Rattle.form_expand.proofs.Listings.{limited_more, limited_none, limited_refusal}
use Rattle.form_flow.specs.declared.descent.Descent.{Descent}
use Rattle.form_flow.specs.Left.{Gives}
use Rattle.form_flow.specs.Outcome.{Outcome, and_then, cause_of, listing_of, then_at, unchanged}
use Rattle.form_flow.proofs.Binding.{or_nothing}

pub given_taken : (limit given : ℕ) (m : Monomial) (l : Listing) → given < limit → limited (limit - given) (before m l) ≡ before m (limited (limit - (given + 1)) l)
given_taken limit given m l h =
    let e : limit - given ≡ suc (limit - (given + 1)) = omega (arith, h) in
    ap (λ n. limited n (before m l)) e ∙ limited_more (limit - (given + 1)) m l

pub given_over : (limit given : ℕ) (m : Monomial) (l : Listing) → limit ≤ given → limited (limit - given) (before m l) ≡ refusal ExpandLimit
given_over limit given m l h =
    let e : limit - given ≡ 0 = omega (arith, h) in
    ap (λ n. limited n (before m l)) e ∙ limited_none m l

-- an output and those behind it
pub listing_output : (m : Monomial) (o : Outcome) → listing_of (and_then (unchanged m) o) ≡ before m (listing_of o)
unfolding then_at
listing_output m o = ap (λ (end : Option Cause). record { terms = m ∷ map (λ x. x.item) o.outputs; end = end }) (ap cause_of (or_nothing o.end))

pub gives_err : (e : ExpandError) (n : ℕ) (old : Outcome) (new : Descent) (l : Listing) → Gives (Err e) old new → next.Gives (Err e) (limited n (listing_of old)) l
gives_err (errors.Refused c) n old new l is = ap (λ o. limited n (listing_of o)) is ∙ limited_refusal n c
gives_err errors.Memory n old new l is = tt
