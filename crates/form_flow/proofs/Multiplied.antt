-- Products of a term with the terms of a list, from a side.
use Rattle.std.proofs.Common.{◌≡◌, ℕ, ◌<◌, ◌≤◌, List, [], ◌∷◌, length, Option, Some, None, Result, Ok, Err, sym, ap, ◌∙◌, arith}
use Rattle.form_ast.specs.declared.statement.Side.{Side}
use Rattle.form_ast.specs.declared.statement.Side.TheVariants as sides
use Rattle.form_base.specs.declared.cause.Cause.{Cause}
use Rattle.form_term.specs.declared.monomial.Monomial.{Monomial}
use Rattle.form_normal.specs.Product.{product_of}
use Rattle.form_expand.specs.declared.error.ExpandError.{ExpandError}
use Rattle.form_expand.specs.declared.error.ExpandError.TheVariants.{Refused, Memory}
use Rattle.form_expand.specs.Left.{row, row_behind}
use Rattle.form_expand.specs.Listing.{Listing, nothing, single, refusal, before, before_by, followed, limited, pairs, times}
use Rattle.form_expand.specs.Next.{Gives, IsMade}
use Rattle.form_expand.specs.Walks.{all_of}
use Rattle.form_expand.proofs.Listings.{followed_before, followed_last, followed_nothing, followed_refusal, limited_length, limited_within, pairs_before, pairs_nothing, pairs_refusal, times_before, times_end}
use Rattle.form_expand.proofs.Rows.{times_length}
use Rattle.form_flow.specs.Left.{Nexts}
use Rattle.form_flow.specs.Made.{Makes}
use Rattle.form_flow.specs.Multiplying.{multiplied_by, product_from}
use Rattle.form_flow.specs.Outcome.{made}
use Rattle.form_flow.specs.Sources.{HasEffect}

one_followed : (p : Result (Option Monomial) Cause) (rest : Listing) → followed (before_by p nothing) rest ≡ before_by p rest
one_followed (Ok (Some m)) rest = followed_before m nothing rest ∙ ap (before m) (followed_nothing rest)
one_followed (Ok None) rest = followed_nothing rest
one_followed (Err cause) rest = followed_refusal cause rest

pub pairs_right : (m : Monomial) (l : Listing) → pairs (single m) l ≡ times m l
pairs_right m l = pairs_before m nothing l ∙ ap (followed (times m l)) (pairs_nothing l) ∙ followed_last (times m l)

side_before : (side : Side) (m t : Monomial) (l : Listing) → multiplied_by side (before t l) m ≡ before_by (product_from side m t) (multiplied_by side l m)
side_before sides.Right m t l = pairs_right m (before t l) ∙ times_before m t l ∙ ap (before_by (product_of m t)) (sym (pairs_right m l))
side_before sides.Left m t l =
    pairs_before t l (single m)
    ∙ ap (λ (x : Listing). followed x (pairs l (single m))) (times_before t m nothing ∙ ap (before_by (product_of t m)) (times_end t None))
    ∙ one_followed (product_of t m) (pairs l (single m))

pub side_nothing : (side : Side) (m : Monomial) → multiplied_by side nothing m ≡ nothing
side_nothing sides.Right m = pairs_right m nothing ∙ times_end m None
side_nothing sides.Left m = pairs_nothing (single m)

side_refusal : (side : Side) (m : Monomial) (cause : Cause) → multiplied_by side (refusal cause) m ≡ refusal cause
side_refusal sides.Right m cause = pairs_right m (refusal cause) ∙ times_end m (Some cause)
side_refusal sides.Left m cause = pairs_refusal cause (single m)

-- one term more of a list
pub side_step : (side : Side) (m t : Monomial) (l rest : Listing) → l ≡ before t rest → multiplied_by side l m ≡ before_by (product_from side m t) (multiplied_by side rest m)
side_step side m t l rest is = ap (λ (x : Listing). multiplied_by side x m) is ∙ side_before side m t rest

pub terms_step : (side : Side) (m t : Monomial) (ts rest : List Monomial) → ts ≡ t ∷ rest → multiplied_by side (all_of ts) m ≡ before_by (product_from side m t) (multiplied_by side (all_of rest) m)
terms_step side m t ts rest is = side_step side m t (all_of ts) (all_of rest) (ap all_of is)

-- where a product wasn't made
pub unmade : (p : Result (Option Monomial) Cause) (e : ExpandError) (old rest new : Listing) → old ≡ before_by p rest → IsMade (Err e) p → Nexts (Err e) old new
unmade p (Refused cause) old rest new is h = is ∙ ap (λ q. before_by q rest) h
unmade p Memory old rest new is h = tt

pub was_made : (p : Result (Option Monomial) Cause) (m : Monomial) (old rest : Listing) → old ≡ before_by p rest → p ≡ Ok (Some m) → old ≡ before m rest
was_made p m old rest is h = is ∙ ap (λ q. before_by q rest) h

pub was_zero : (p : Result (Option Monomial) Cause) (old rest : Listing) → old ≡ before_by p rest → p ≡ Ok None → old ≡ rest
was_zero p old rest is h = is ∙ ap (λ q. before_by q rest) h

-- where the list isn't given
pub unlisted : (side : Side) (m : Monomial) (e : ExpandError) (l rest old new : Listing) → old ≡ multiplied_by side l m → Gives (Err e) l rest → Nexts (Err e) old new
unlisted side m (Refused cause) l rest old new is h = is ∙ ap (λ (x : Listing). multiplied_by side x m) h ∙ side_refusal side m cause
unlisted side m Memory l rest old new is h = tt

pub nexts : (r : Result (Option Monomial) ExpandError) (old new : Listing) → Gives r old new → Nexts r old new
nexts (Ok (Some m)) old new h = h
nexts (Ok None) old new h = h.0
nexts (Err (Refused cause)) old new h = h
nexts (Err Memory) old new h = tt

-- ---- what a statement has done

-- the product with the only term of a list
pub one_product : (side : Side) (m t : Monomial) (ts : List Monomial) (r : Result (Option Monomial) ExpandError) → ts ≡ t ∷ [] → IsMade r (product_from side m t)
    → Makes r (multiplied_by side (all_of ts) m)
one_product side m t ts r only h = by r h
  where
    is : multiplied_by side (all_of ts) m ≡ before_by (product_from side m t) nothing
    is = terms_step side m t ts [] only ∙ ap (before_by (product_from side m t)) (side_nothing side m)

    by : (r : Result (Option Monomial) ExpandError) → IsMade r (product_from side m t) → Makes r (multiplied_by side (all_of ts) m)
    by (Ok (Some x)) h = is ∙ ap (λ q. before_by q nothing) h
    by (Ok None) h = is ∙ ap (λ q. before_by q nothing) h
    by (Err (Refused cause)) h = is ∙ ap (λ q. before_by q nothing) h
    by (Err Memory) h = tt

pub failed : (e : ExpandError) (l : Listing) → Makes (Err e) l → HasEffect (Err e) (made l)
failed (Refused cause) l h = ap made h
failed Memory l h = tt

-- the row of a term and a list of terms within the limit
term_row : (max : ℕ) (m : Monomial) (l : Listing) → 0 < max → limited max l ≡ l → times m l ≡ row max (single m ∷ l ∷ [])
unfolding row row_behind
term_row max m l some within =
    let short : length l.terms ≤ max = rw within at (limited_length max l) in
    sym (limited_within max (times m l) (omega (arith, times_length m l.terms l.end, short)))
    ∙ ap (limited max) (sym (pairs_right m l))
    ∙ ap (λ (front : Listing). limited max (pairs front l)) (sym (limited_within max (single m) (omega (arith, some))))

pub row_of_terms : (max : ℕ) (m : Monomial) (l : Listing) (ts : List Monomial) → 0 < max → limited max l ≡ l → l ≡ all_of ts → multiplied_by sides.Right (all_of ts) m ≡ row max (single m ∷ l ∷ [])
row_of_terms max m l ts some within is = pairs_right m (all_of ts) ∙ ap (times m) (sym is) ∙ term_row max m l some within
