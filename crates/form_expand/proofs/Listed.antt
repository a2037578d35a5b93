-- What holds of the terms of lists holds of those that are made of them.
use Rattle.std.proofs.Common.{◌≡◌, ℕ, zero, suc, Bool, true, false, List, [], ◌∷◌, take, length, if◌then◌else◌, Option, Some, None, Result, Ok, Err, refl}
use Rattle.std.specs.Prelude.{nat_lt}
use Rattle.std.specs.List.{AllByRecursion}
use Rattle.form_base.specs.declared.cause.Cause.{Cause}
use Rattle.form_base.specs.declared.cause.Cause.TheVariants.{ExpandLimit}
use Rattle.form_term.specs.declared.monomial.Monomial.{Monomial}
use Rattle.form_term.specs.Monomial.{unit, negated}
use Rattle.form_term.proofs.Each.{each_append, each_map, each_take}
use Rattle.form_normal.specs.Product.{product_of}
use Rattle.form_expand.specs.Left.{row, row_behind}
use Rattle.form_expand.specs.Listing.{Listing, single, limited, followed_at, before_by, times_each, times, pairs_each, pairs, powers, signed, with_sign}
use Rattle.form_expand.specs.Singles.{of_product}

module _ (Q : Monomial → Type 0) where
  abbrev pub AreOf : Listing → Type 0
  AreOf l = AllByRecursion Q l.terms

  pub in_limit : (n : ℕ) (l : Listing) → AreOf l → AreOf (limited n l)
  unfolding limited
  in_limit n l h = by (nat_lt n (length l.terms))
    where
      by : (b : Bool) → AreOf (if b then record { terms = take n l.terms; end = Some ExpandLimit } else l)
      by true = each_take Q n l.terms h
      by false = h

  pub in_followed : (ms : List Monomial) (end : Option Cause) (b : Listing) → AllByRecursion Q ms → AreOf b → AreOf (followed_at ms end b)
  unfolding followed_at
  in_followed ms None b h k = each_append Q ms b.terms h k
  in_followed ms (Some cause) b h k = h

  pub in_signed : ((m : Monomial) → Q m → Q (negated m)) → (is_minus : Bool) (l : Listing) → AreOf l → AreOf (signed is_minus l)
  in_signed turned is_minus l h = each_map Q Q (with_sign is_minus) (by is_minus) l.terms h
    where
      by : (b : Bool) (m : Monomial) → Q m → Q (with_sign b m)
      by true m q = turned m q
      by false m q = q

  pub in_product : (r : Result (Option Monomial) Cause) → ((m : Monomial) → r ≡ Ok (Some m) → Q m) → AreOf (of_product r)
  in_product (Ok (Some m)) f = (f m refl, tt)
  in_product (Ok None) f = tt
  in_product (Err cause) f = tt

-- products of terms of which this holds and terms of which that does
module _ (P Q R : Monomial → Type 0) (products : (a b m : Monomial) → P a → Q b → product_of a b ≡ Ok (Some m) → R m) where
  in_times : (m : Monomial) (ms : List Monomial) (end : Option Cause) → P m → AllByRecursion Q ms → AreOf R (times_each m ms end)
  unfolding times_each
  in_times m [] end p h = tt
  in_times m (r ∷ rs) end p h = by (product_of m r) refl (in_times m rs end p h.1)
    where
      by : (o : Result (Option Monomial) Cause) → product_of m r ≡ o → AreOf R (times_each m rs end) → AreOf R (before_by o (times_each m rs end))
      by (Ok (Some n)) e rest = (products m r n p h.0 e, rest)
      by (Ok None) e rest = rest
      by (Err cause) e rest = tt

  pub in_pairs : (ms : List Monomial) (end : Option Cause) (right : Listing) → AllByRecursion P ms → AreOf Q right → AreOf R (pairs_each ms end right)
  unfolding pairs_each
  in_pairs [] end right h k = tt
  in_pairs (m ∷ ms) end right h k =
      let first : Listing = times m right in
      in_followed R first.terms first.end (pairs_each ms end right) (in_times m right.terms right.end h.0 k) (in_pairs ms end right h.1 k)

module _ (Q : Monomial → Type 0) (one : Q unit) (products : (a b m : Monomial) → Q a → Q b → product_of a b ≡ Ok (Some m) → Q m) where
  pub in_powers : (max : ℕ) (l : Listing) (k : ℕ) → AreOf Q l → AreOf Q (powers max l k)
  unfolding powers
  in_powers max l zero h = in_limit Q max (single unit) (one, tt)
  in_powers max l (suc zero) h = in_limit Q max l h
  in_powers max l (suc (suc k)) h =
      let before : Listing = powers max l (suc k) in
      in_limit Q max (pairs before l) (in_pairs Q Q Q products before.terms before.end l (in_powers max l (suc k) h) h)

-- rows of lists: one list as it is, and of more the products
module _ (P Q : Monomial → Type 0) (from : (m : Monomial) → Q m → P m) (products : (a b m : Monomial) → P a → P b → product_of a b ≡ Ok (Some m) → Q m) where
  pub in_row_behind : (max : ℕ) (front : Listing) (lists : List Listing) → AreOf Q front → AllByRecursion (AreOf P) lists → AreOf Q (row_behind max front lists)
  unfolding row_behind
  in_row_behind max front [] h k = h
  in_row_behind max front (l ∷ lists) h k =
      in_row_behind max (limited max (pairs front l)) lists
      (in_limit Q max (pairs front l) (in_pairs Q P Q (λ a b m q p e. products a b m (from a q) p e) front.terms front.end l h k.0)) k.1

  -- of at least two lists
  pub in_row : (max : ℕ) (first second : Listing) (lists : List Listing) → AreOf P first → AreOf P second → AllByRecursion (AreOf P) lists → AreOf Q (row max (first ∷ second ∷ lists))
  unfolding row row_behind
  in_row max first second lists h k all =
      let front : Listing = limited max first in
      in_row_behind max (limited max (pairs front second)) lists
      (in_limit Q max (pairs front second) (in_pairs P P Q products front.terms front.end second (in_limit P max first h) k)) all
