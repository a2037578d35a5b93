-- Rows of lists.
use Rattle.std.proofs.Common.{◌≡◌, ℕ, zero, suc, ◌≤◌, List, [], ◌∷◌, ◌++◌, length, refl, sym, ap, ◌∙◌, arith}
use Rattle.std.specs.Prelude.{Option, Some, None, Result, Ok, Err}
use Rattle.form_base.specs.declared.cause.Cause.{Cause}
use Rattle.form_term.specs.declared.monomial.Monomial.{Monomial}
use Rattle.form_normal.specs.Product.{product_of}
use Rattle.form_expand.specs.Left.{row, row_behind}
use Rattle.form_expand.specs.Listing.{Listing, single, before_by, limited, followed_at, times_each, pairs, pairs_each, powers}
use Rattle.form_expand.specs.Singles.{of_product}
use Rattle.form_expand.proofs.Listings.{limited_again, limited_nothing, limited_refusal, limited_within}

-- lists in two parts
pub row_apart : (max : ℕ) (front : Listing) (ks ls : List Listing) → row_behind max front (ks ++ ls) ≡ row_behind max (row_behind max front ks) ls
unfolding row_behind
row_apart max front [] ls = refl
row_apart max front (k ∷ ks) ls = row_apart max (limited max (pairs front k)) ks ls

-- a further list of a row
pub row_push : (max : ℕ) (first : Listing) (lists : List Listing) (l : Listing) → row max ((first ∷ lists) ++ l ∷ []) ≡ limited max (pairs (row max (first ∷ lists)) l)
unfolding row row_behind
row_push max first lists l = row_apart max (limited max first) lists (l ∷ [])

-- behind a front without terms nothing changes
pub gone_row : (max : ℕ) (end : Option Cause) (ls : List Listing) → row_behind max (record { terms = []; end = end }) ls ≡ record { terms = []; end = end }
unfolding row_behind pairs_each
gone_row max end [] = refl
gone_row max end (l ∷ ls) =
    ap (λ (front : Listing). row_behind max front ls) (limited_within max (record { terms = []; end = end }) (omega arith)) ∙ gone_row max end ls

-- no terms, to a power
none_to : (max : ℕ) (end : Option Cause) (k : ℕ) → powers max (record { terms = []; end = end }) (suc k) ≡ limited max (record { terms = []; end = end })
unfolding powers pairs_each
none_to max end zero = refl
none_to max end (suc k) =
    let none : Listing = record { terms = []; end = end } in
    ap (λ l. limited max (pairs l none)) (none_to max end k ∙ limited_within max none (omega arith))

pub none_powered : (max : ℕ) (ms : List Monomial) (end : Option Cause) (k : ℕ) → 1 ≤ k → ms ≡ [] → limited max (record { terms = ms; end = end }) ≡ powers max (record { terms = ms; end = end }) k
none_powered max ms end zero h e = absurd (omega arith)
none_powered max ms end (suc k) h e = rw e (sym (none_to max end k))

pub first_same : (max : ℕ) (l : Listing) (ls : List Listing) → row max (limited max l ∷ ls) ≡ row max (l ∷ ls)
unfolding row
first_same max l ls = ap (λ (front : Listing). row_behind max front ls) (limited_again max l)

-- the list of a product has one term at most
pub product_limited : (max : ℕ) → 1 ≤ max → (r : Result (Option Monomial) Cause) → limited max (of_product r) ≡ of_product r
product_limited max some (Ok (Some m)) = limited_within max (single m) some
product_limited max some (Ok None) = limited_nothing max
product_limited max some (Err cause) = limited_refusal max cause

paired_by : (m t : Monomial) (r : Result (Option Monomial) Cause) → product_of m t ≡ r → pairs (single m) (single t) ≡ of_product r
unfolding pairs_each times_each followed_at
paired_by m t (Ok (Some p)) e = rw e refl
paired_by m t (Ok None) e = rw e refl
paired_by m t (Err cause) e = rw e refl

-- a term, and a list of one term behind it
pub paired : (m t : Monomial) → pairs (single m) (single t) ≡ of_product (product_of m t)
paired m t = paired_by m t (product_of m t) refl

-- the product with each term of a list has no more terms than the list
pub times_length : (m : Monomial) (rs : List Monomial) (end : Option Cause) → length ((times_each m rs end).terms) ≤ length rs
unfolding times_each
times_length m [] end = omega arith
times_length m (r ∷ rs) end = step (product_of m r) (times_length m rs end)
  where
    step : (made : Result (Option Monomial) Cause) → length ((times_each m rs end).terms) ≤ length rs → length ((before_by made (times_each m rs end)).terms) ≤ suc (length rs)
    step (Ok (Some p)) h = omega (arith, h)
    step (Ok None) h = omega (arith, h)
    step (Err cause) h = omega arith
