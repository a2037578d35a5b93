-- Each of some terms times each of others, where none of the products is refused.
use Rattle.std.proofs.Common.{◌≡◌, ℕ, ◌<◌, List, [], ◌∷◌, ◌++◌, refl, ap, sym}
use Rattle.std.specs.Prelude.{Option, Some, None, Result, Ok, Err}
use Rattle.std.specs.List.{flat_map}
use Rattle.std.specs.List.Sorted.{IsPermutation}
use Rattle.std.proofs.lemmas.Grind.{flat_map-append}
use Rattle.std.proofs.lemmas.List.Sorted.{IsPermutation-trans, IsPermutation-sym}
use Rattle.form_base.specs.declared.cause.Cause.{Cause}
use Rattle.form_term.specs.declared.monomial.Monomial.{Monomial}
use Rattle.form_normal.specs.Product.{product_of}
pub use Rattle.form_reach.specs.Rows.{term_made, IsFine, made_with, IsFineWith, crossed, AreFine}
use Rattle.form_gathered.specs.Joined.{IsShare, IsJoined}
use Rattle.form_gathered.specs.declared.joined.JoinedTerm.{JoinedTerm}
use Rattle.form_expand.specs.Listing.{Listing, before, before_by, followed, followed_at, times_each, pairs, pairs_each}
use Rattle.form_expand.specs.Walks.{all_of}
use Rattle.form_gathered.proofs.Joining.{beside, moved}
use Rattle.form_gathered.proofs.Shuffled.{same_list, flat_map_moved, flat_map_both, all_joined, all_moved}
use Rattle.form_joined.proofs.Mapped.{flat_map_alike, flat_map_nothing, all_weaker}

-- ---- the pairs of two lists

before_fine : (made : Result (Option Monomial) Cause) (l : Listing) (ms : List Monomial) → l ≡ all_of ms → IsFine made → before_by made l ≡ all_of (term_made made ++ ms)
before_fine (Ok (Some m)) l ms e f = ap (before m) e
before_fine (Ok None) l ms e f = e
before_fine (Err cause) l ms e f = absurd f

times_fine : (m : Monomial) (rs : List Monomial) → IsFineWith rs m → times_each m rs None ≡ all_of (made_with rs m)
unfolding times_each
times_fine m [] f = refl
times_fine m (r ∷ rs) f = before_fine (product_of m r) (times_each m rs None) (made_with rs m) (times_fine m rs f.1) f.0

followed_all : (a b : Listing) (xs ys : List Monomial) → a ≡ all_of xs → b ≡ all_of ys → followed a b ≡ all_of (xs ++ ys)
unfolding followed_at
followed_all a b xs ys d e = λ i. followed (d i) (e i)

pub pairs_fine : (ms rs : List Monomial) → AreFine ms rs → pairs (all_of ms) (all_of rs) ≡ all_of (crossed ms rs)
unfolding pairs_each
pairs_fine [] rs f = refl
pairs_fine (m ∷ ms) rs f = followed_all (times_each m rs None) (pairs_each ms None (all_of rs)) (made_with rs m) (crossed ms rs) (times_fine m rs f.0) (pairs_fine ms rs f.1)

-- ---- lists that are put together, and in another order

fine_right : (m : Monomial) (rs qs : List Monomial) → IsFineWith rs m → IsFineWith qs m → IsFineWith (rs ++ qs) m
fine_right m rs qs = all_joined (λ r. IsFine (product_of m r)) rs qs

are_fine_right : (ms rs qs : List Monomial) → AreFine ms rs → AreFine ms qs → AreFine ms (rs ++ qs)
are_fine_right [] rs qs a b = tt
are_fine_right (m ∷ ms) rs qs a b = (fine_right m rs qs a.0 b.0, are_fine_right ms rs qs a.1 b.1)

pub crossed_right : (ms rs qs : List Monomial) → IsPermutation (crossed ms rs ++ crossed ms qs) (crossed ms (rs ++ qs))
crossed_right ms rs qs =
    let each : made_with (rs ++ qs) ≡ (λ m. made_with rs m ++ made_with qs m) = λ i m. flat_map-append (λ r. term_made (product_of m r)) rs qs i in
    IsPermutation-sym _ _ (IsPermutation-trans _ _ _ (same_list _ _ (ap (λ f. flat_map f ms) each)) (flat_map_both (made_with rs) (made_with qs) ms))

pub fine_moved : (ms ns rs qs : List Monomial) → IsPermutation ms ns → IsPermutation rs qs → AreFine ms rs → AreFine ns qs
fine_moved ms ns rs qs p q f =
    all_weaker (IsFineWith rs) (IsFineWith qs) (λ m. all_moved (λ r. IsFine (product_of m r)) rs qs q) ns (all_moved (IsFineWith rs) ms ns p f)

pub crossed_moved : (ms ns rs qs : List Monomial) → IsPermutation ms ns → IsPermutation rs qs → IsPermutation (crossed ms rs) (crossed ns qs)
crossed_moved ms ns rs qs p q =
    IsPermutation-trans _ _ _ (flat_map_moved (made_with rs) ms ns p) (flat_map_alike (made_with rs) (made_with qs) (λ m. flat_map_moved (λ r. term_made (product_of m r)) rs qs q) ns)

-- ---- joined terms that stand for the products of lists

pub record AreCrossed (n : ℕ) (ls : List JoinedTerm) (lefts rights : ℕ → List Monomial) : Type 0 where
  pub fine : (k : ℕ) → k < n → AreFine (lefts k) (rights k)
  pub stand : IsJoined n ls (λ k. crossed (lefts k) (rights k))

pub joined_none : (n : ℕ) (lists : ℕ → List Monomial) → ((k : ℕ) → k < n → [] ≡ lists k) → IsJoined n [] lists
joined_none n lists h = record { shares = []; joined = refl; each = tt; whole = λ k p. same_list [] (lists k) (h k p) }

pub left_none : (n : ℕ) (a : ℕ → List Monomial) → AreCrossed n [] (λ k. []) a
left_none n a = record { fine = λ k p. tt; stand = joined_none n (λ k. []) (λ k p. refl) }

fine_none : (ms : List Monomial) → AreFine ms []
fine_none [] = tt
fine_none (m ∷ ms) = (tt, fine_none ms)

pub right_none : (n : ℕ) (a : ℕ → List Monomial) → AreCrossed n [] a (λ k. [])
right_none n a = record { fine = λ k p. fine_none (a k); stand = joined_none n (λ k. crossed (a k) []) (λ k p. sym (flat_map_nothing (a k))) }

module _ (n : ℕ) (a b c : ℕ → List Monomial) where
  pub left_more : (js ks : List JoinedTerm) → AreCrossed n js a c → AreCrossed n ks b c → AreCrossed n (js ++ ks) (λ k. a k ++ b k) c
  left_more js ks g h = record {
    fine = λ k p. all_joined (IsFineWith (c k)) (a k) (b k) (g.fine k p) (h.fine k p);
    stand = moved (IsShare n) n (js ++ ks) (λ k. crossed (a k) (c k) ++ crossed (b k) (c k)) (λ k. crossed (a k ++ b k) (c k))
        (λ k p. same_list _ _ (sym (flat_map-append (made_with (c k)) (a k) (b k))))
        (beside (IsShare n) n js ks (λ k. crossed (a k) (c k)) (λ k. crossed (b k) (c k)) g.stand h.stand);
  }

  pub right_more : (js ks : List JoinedTerm) → AreCrossed n js a b → AreCrossed n ks a c → AreCrossed n (js ++ ks) a (λ k. b k ++ c k)
  right_more js ks g h = record {
    fine = λ k p. are_fine_right (a k) (b k) (c k) (g.fine k p) (h.fine k p);
    stand = moved (IsShare n) n (js ++ ks) (λ k. crossed (a k) (b k) ++ crossed (a k) (c k)) (λ k. crossed (a k) (b k ++ c k))
        (λ k p. crossed_right (a k) (b k) (c k))
        (beside (IsShare n) n js ks (λ k. crossed (a k) (b k)) (λ k. crossed (a k) (c k)) g.stand h.stand);
  }

pub crossed_elsewhere : (n : ℕ) (ls : List JoinedTerm) (a b c d : ℕ → List Monomial) → ((k : ℕ) → k < n → IsPermutation (a k) (c k)) → ((k : ℕ) → k < n → IsPermutation (b k) (d k))
    → AreCrossed n ls a b → AreCrossed n ls c d
crossed_elsewhere n ls a b c d p q h = record {
  fine = λ k below. fine_moved (a k) (c k) (b k) (d k) (p k below) (q k below) (h.fine k below);
  stand = moved (IsShare n) n ls (λ k. crossed (a k) (b k)) (λ k. crossed (c k) (d k)) (λ k below. crossed_moved (a k) (c k) (b k) (d k) (p k below) (q k below)) h.stand;
}
