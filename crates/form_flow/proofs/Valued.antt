-- An index takes one value after the other.
use Rattle.std.proofs.Common.{◌≡◌, ℕ, List, [], ◌∷◌, Err, ap, ◌∙◌}
use Rattle.form_base.specs.declared.cause.Cause.{Cause}
use Rattle.form_term.specs.declared.monomial.Monomial.{Monomial}
use Rattle.form_expand.specs.declared.error.ExpandError.{ExpandError}
use Rattle.form_expand.specs.declared.error.ExpandError.TheVariants.{Refused, Memory}
use Rattle.form_expand.specs.Listing.{Listing, nothing, refusal, before, followed, followed_at}
use Rattle.form_expand.proofs.Listings.{followed_before, followed_nothing}
use Rattle.form_flow.specs.declared.summing.Numbers.{Numbers}
use Rattle.form_flow.specs.Indices.{number_put}
use Rattle.form_flow.specs.Left.{Nexts}
use Rattle.form_flow.specs.Made.{Makes}
use Rattle.form_flow.specs.Sources.{numbers_left}
use Rattle.form_flow.specs.Statements.{summed_over}

-- a list of one term, none, or a refusal, and then another list
pub after_one : (m : Monomial) (l rest : Listing) → l ≡ before m nothing → followed l rest ≡ before m rest
after_one m l rest e = ap (λ (x : Listing). followed x rest) e ∙ followed_before m nothing rest ∙ ap (before m) (followed_nothing rest)

pub after_none : (l rest : Listing) → l ≡ nothing → followed l rest ≡ rest
after_none l rest e = ap (λ (x : Listing). followed x rest) e ∙ followed_nothing rest

pub after_refusal : (cause : Cause) (l rest : Listing) → l ≡ refusal cause → followed l rest ≡ refusal cause
unfolding followed_at
after_refusal cause l rest e = ap (λ (x : Listing). followed x rest) e

-- the first value
pub next_value : (i v : ℕ) (all rest : List ℕ) (m : Monomial) → all ≡ v ∷ rest → summed_over i all m ≡ followed (number_put i v m) (summed_over i rest m)
unfolding summed_over
next_value i v all rest m e = ap (λ (ns : List ℕ). summed_over i ns m) e

-- a value is refused
pub value_refused : (e : ExpandError) (old now : Numbers) (v : ℕ) (rest : List ℕ) → numbers_left old ≡ numbers_left now → now.values.now ≡ v ∷ rest → Makes (Err e) (number_put now.index v now.item) → Nexts (Err e) (numbers_left old) (summed_over now.index rest now.item)
value_refused (Refused cause) old now v rest so_far is refused =
    so_far ∙ next_value now.index v now.values.now rest now.item is ∙ after_refusal cause (number_put now.index v now.item) (summed_over now.index rest now.item) refused
value_refused Memory old now v rest so_far is refused = tt

-- no value is left
pub none_valued : (old now : Numbers) → numbers_left old ≡ numbers_left now → now.values.now ≡ [] → numbers_left old ≡ nothing
unfolding summed_over
none_valued old now so_far none = so_far ∙ ap (λ (ns : List ℕ). summed_over now.index ns now.item) none
