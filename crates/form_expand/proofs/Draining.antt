-- Taking all terms of a list.
use Rattle.std.proofs.Common.{◌≡◌, ◌<◌, List, [], ◌∷◌, ◌++◌, length, sym, ap, ◌∙◌, append-nil, arith}
use Rattle.std.specs.Prelude.{Option, Some, None}
use Rattle.std.proofs.lemmas.List.{length-append}
use Rattle.form_base.specs.declared.cause.Cause.{Cause}
use Rattle.form_term.specs.declared.monomial.Monomial.{Monomial}
use Rattle.form_expand.specs.Listing.{Listing, nothing, refusal, before, followed_at, followed}
use Rattle.form_expand.specs.Walks.{all_of}
use Rattle.form_expand.proofs.Listings.{followed_nothing, followed_last, taken_on}

-- none so far
pub drained_none : (ms : List Monomial) (start : Listing) → ms ≡ [] → followed (all_of ms) start ≡ start
drained_none ms start none = ap (λ ns. followed (all_of ns) start) none ∙ followed_nothing start

module _ (ms : List Monomial) (left start : Listing) (so_far : followed (all_of ms) left ≡ start) where
  -- one more
  pub drained_more : (now : List Monomial) (m : Monomial) (new : Listing) → left ≡ before m new → now ≡ ms ++ m ∷ [] → followed (all_of now) new ≡ start
  drained_more now m new first is =
      ap (λ ns. followed (all_of ns) new) is ∙ sym (taken_on ms m new) ∙ ap (followed (all_of ms)) (sym first) ∙ so_far

  -- all
  pub drained_done : (made : Listing) → left ≡ nothing → made ≡ all_of ms → made ≡ start
  drained_done made done is = is ∙ sym (followed_last (all_of ms)) ∙ ap (followed (all_of ms)) (sym done) ∙ so_far

  -- all before a refusal
  pub drained_refused : (made : Listing) (cause : Cause) → left ≡ refusal cause → made ≡ record { terms = ms; end = Some cause } → made ≡ start
  unfolding followed_at
  drained_refused made cause refuses is =
      is ∙ ap (λ ns. record { terms = ns; end = Some cause }) (sym (append-nil ms)) ∙ ap (followed (all_of ms)) (sym refuses) ∙ so_far

  -- a list that is refused isn't one that is done
  pub never_refused : (cause : Cause) (terms : List Monomial) → left ≡ refusal cause → start ≡ all_of terms → ⊥
  unfolding followed_at
  never_refused cause terms refuses is =
      let whole = ap (followed (all_of ms)) (sym refuses) ∙ so_far ∙ is in
      let ends : ◌≡◌ {A = Option Cause} (Some cause) None = ap (λ (l : Listing). l.end) whole in
      absurd (cc)

  -- it has no fewer terms than were taken
  pub never_longer : (terms : List Monomial) → start ≡ all_of terms → length terms < length ms → ⊥
  unfolding followed_at
  never_longer terms is short =
      let all : length (ms ++ left.terms) ≡ length terms = ap (λ (l : Listing). length l.terms) (so_far ∙ is) in
      absurd (omega (arith, all, short, length-append ms left.terms))
