-- The terms of a list from a place on.
use Rattle.std.proofs.Common.{◌≡◌, ℕ, zero, suc, ◌+◌, ◌<◌, ◌≤◌, List, [], ◌∷◌, length, drop, get_or, slice_index_or, refl, sym, ap, ◌∙◌, arith}
use Rattle.std.specs.Prelude.{Bool, true, false, Option, Some, None}
use Rattle.std.specs.Bool.{OnTrue}
use Rattle.form_base.specs.declared.cause.Cause.{Cause}
use Rattle.form_term.specs.declared.monomial.Monomial.{Monomial}
use Rattle.form_expand.specs.Listing.{Listing, nothing, before}
use Rattle.std.specs.Borrow.{Bor}
use Rattle.std.specs.Slice.{IsGetResult}
use Rattle.form_expand.specs.Kept.{rest_at, BeginsAt}

pub drop_here : {X : Type 0} (xs : List X) (i : ℕ) (x : X) → i < length xs → x ≡ get_or xs i x → drop i xs ≡ x ∷ drop (i + 1) xs
drop_here [] i x h e = absurd (omega arith)
drop_here (y ∷ ys) zero x h e = cc
drop_here (y ∷ ys) (suc i) x h e = let f : suc i + 1 ≡ suc (i + 1) = omega arith in rw f (drop_here ys i x (omega arith) e)

pub drop_past : {X : Type 0} (xs : List X) (i : ℕ) → length xs ≤ i → drop i xs ≡ []
drop_past [] zero h = refl
drop_past [] (suc i) h = refl
drop_past (x ∷ xs) zero h = absurd (omega arith)
drop_past (x ∷ xs) (suc i) h = drop_past xs i (omega arith)

pub rest_here : (l : Listing) (place : ℕ) (m : Monomial) → place < length l.terms → m ≡ get_or l.terms place m → rest_at place l ≡ before m (rest_at (place + 1) l)
rest_here l place m h e = ap (λ ms. record { terms = ms; end = l.end }) (drop_here l.terms place m h e)

pub rest_past : (l : Listing) (place : ℕ) → length l.terms ≤ place → rest_at place l ≡ record { terms = []; end = l.end }
rest_past l place h = ap (λ ms. record { terms = ms; end = l.end }) (drop_past l.terms place h)

-- all of it is left from its first term on
pub whole_here : (l : Listing) → l ≡ rest_at 0 l
whole_here l = here l.terms l.end
  where
    here : (ms : List Monomial) (end : Option Cause) → record { terms = ms; end = end } ≡ rest_at 0 (record { terms = ms; end = end })
    here [] end = refl
    here (m ∷ ms) end = refl

-- what a look-up in a slice says
pub begins_at : (l : Listing) (place : ℕ) (r : Option (Bor Monomial)) → IsGetResult l.terms place place r → BeginsAt l place r
begins_at l place (Some term) h = (rest_here l place term.now (h.3.0) h.1, h.3.0)
begins_at l place None h = rest_past l place h.3

-- the only term of a list
pub one_item : (ms : List Monomial) (m : Monomial) → 1 ≤ length ms → length ms < 2 → m ≡ slice_index_or ms 0 m → ms ≡ m ∷ []
one_item [] m h k e = absurd (omega (arith, h))
one_item (n ∷ []) m h k e = ap (λ (x : Monomial). x ∷ []) (sym e)
one_item (n ∷ o ∷ ms) m h k e = absurd (omega (arith, k))

-- a list that is done, behind its last term
pub spent : (l : Listing) (place : ℕ) → l.end ≡ None → length l.terms ≤ place → rest_at place l ≡ nothing
spent l place done h = rest_past l place h ∙ ap (λ e. record { terms = []; end = e }) done

pub on_true : (b : Bool) (P : Type 0) → (b ≡ true → P) → OnTrue b P
on_true true P h = h refl
on_true false P h = tt
