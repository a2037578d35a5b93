-- How what is left of a row changes as its terms are taken.
use Rattle.std.proofs.Common.{◌≡◌, ℕ, suc, ◌+◌, ◌-◌, ◌<◌, ◌≤◌, refl, ap, arith}
use Rattle.std.specs.Prelude.{Option, Some, None}
use Rattle.form_base.specs.declared.cause.Cause.{Cause}
use Rattle.form_base.specs.declared.cause.Cause.TheVariants.{ExpandLimit}
use Rattle.form_term.specs.declared.monomial.Monomial.{Monomial}
use Rattle.form_expand.specs.Listing.{Listing, nothing, refusal, before, before_by, limited, followed, times, pairs}
use Rattle.form_expand.specs.Left.{left_at, left_past, product_by, times_by}
use Rattle.form_expand.proofs.Listings.{limited_more, limited_none, limited_refusal, limited_nothing, followed_before, followed_nothing, followed_refusal, times_before, pairs_before, pairs_nothing, pairs_refusal}

-- A level.

module _ (max count : ℕ) (list : Listing) where
  -- a term is taken
  pub taken_at : (m : Monomial) (rest x : Listing) → count < max
      → left_at max (record { count = count; list = list; opened = before m rest }) x ≡ before m (left_at max (record { count = count + 1; list = list; opened = rest }) x)
  unfolding left_at
  taken_at m rest x h =
      let e : max - count ≡ suc (max - (count + 1)) = omega arith in
      rw (e, followed_before m rest (pairs x list)) (limited_more (max - (count + 1)) m (followed rest (pairs x list)))

  -- a term would be one too many
  pub over_at : (m : Monomial) (rest x : Listing) → max ≤ count → left_at max (record { count = count; list = list; opened = before m rest }) x ≡ refusal ExpandLimit
  unfolding left_at
  over_at m rest x h =
      let e : max - count ≡ 0 = omega arith in
      rw (e, followed_before m rest (pairs x list)) (limited_none m (followed rest (pairs x list)))

  pub refused_at : (cause : Cause) (x : Listing) → left_at max (record { count = count; list = list; opened = refusal cause }) x ≡ refusal cause
  unfolding left_at
  refused_at cause x = rw (followed_refusal cause (pairs x list)) (limited_refusal (max - count) cause)

  -- all were taken
  pub done_at : (x : Listing) → left_at max (record { count = count; list = list; opened = nothing }) x ≡ left_past max (record { count = count; list = list }) x
  unfolding left_at left_past
  done_at x = ap (limited (max - count)) (followed_nothing (pairs x list))

  -- a term of the front before it comes
  pub opened_at : (m : Monomial) (x : Listing) → left_past max (record { count = count; list = list }) (before m x) ≡ left_at max (record { count = count; list = list; opened = times m list }) x
  unfolding left_at left_past
  opened_at m x = ap (limited (max - count)) (pairs_before m x list)

  pub refused_past : (cause : Cause) → left_past max (record { count = count; list = list }) (refusal cause) ≡ refusal cause
  unfolding left_past
  refused_past cause = rw (pairs_refusal cause list) (limited_refusal (max - count) cause)

  pub nothing_past : left_past max (record { count = count; list = list }) nothing ≡ nothing
  unfolding left_past
  nothing_past = rw (pairs_nothing list) (limited_nothing (max - count))

-- a product before the products of the rest
pub times_by_before : (left : Option Monomial) (m : Monomial) (rest : Listing) → times_by left (before m rest) ≡ before_by (product_by left m) (times_by left rest)
times_by_before None m rest = refl
times_by_before (Some l) m rest = times_before l m rest

-- a further list of a row, at its beginning
pub left_past_first : (max : ℕ) (list x : Listing) → left_past max (record { count = 0; list = list }) x ≡ limited max (pairs x list)
unfolding left_past
left_past_first max list x = let e : max - 0 ≡ max = omega arith in rw e refl
