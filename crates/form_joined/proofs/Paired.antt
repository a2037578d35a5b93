-- What is paired of joined terms stands for the products of the lists that they stand for.
use Rattle.std.proofs.Common.{◌≡◌, ℕ, suc, ◌+◌, ◌*◌, ◌<◌, ◌≤◌, Bool, true, false, List, [], ◌∷◌, ◌++◌, length, map, append-nil, refl, ap, sym, subst, ◌∙◌, arith, length-append}
use Rattle.std.specs.Prelude.{Option, Some, None, Result, Ok, Err}
use Rattle.std.specs.List.{AllByRecursion, flat_map}
use Rattle.std.specs.List.Sorted.{IsPermutation}
use Rattle.std.proofs.lemmas.List.{map-id, length-map}
use Rattle.std.proofs.lemmas.List.Sorted.{IsPermutation-trans}
use Rattle.std.proofs.lemmas.Nat.{mul-le}
use Rattle.form_base.specs.declared.cause.Cause.{Cause}
use Rattle.form_frac.specs.Fraction.{Fraction, multiply}
use Rattle.form_term.specs.declared.monomial.Monomial.{Monomial}
use Rattle.form_normal.specs.Product.{is_turned, turned, product_of}
use Rattle.form_frac.specs.Weight.{Weight, IsWeight, IsSum, times, product as fraction_product, products}
use Rattle.form_gathered.specs.Joined.{Share, IsShare, IsJoined, item_of, share_members, in_row}
use Rattle.form_gathered.specs.declared.joined.JoinedTerm.{JoinedTerm}
use Rattle.form_joined.specs.Products.{before_product, times_each, append_if, paired}
use Rattle.form_joined.proofs.Crossed.{crossed, AreCrossed, left_none, right_none, left_more, right_more, crossed_elsewhere, joined_none}
use Rattle.form_joined.proofs.Members.{with, product_none, product_some, crossed_none, crossed_some}
use Rattle.form_gathered.proofs.Rows.{row_mapped, row_crossed}
use Rattle.form_gathered.proofs.Shuffled.{same_list}
use Rattle.form_joined.proofs.Mapped.{flat_map_in_row, all_weaker, all_in_row}
use Rattle.form_joined.proofs.Weighed.{WeightLaws}

-- ---- which list of the left ones is multiplied with which of the right ones

pub record IsCrossing (lefts rights n : ℕ) (left right : ℕ → ℕ) : Type 0 where
  pub left_below : (k : ℕ) → k < n → left k < lefts
  pub right_below : (k : ℕ) → k < n → right k < rights
  pub rows : (p q : ℕ → List Fraction) → IsPermutation (products (in_row lefts p) (in_row rights q)) (in_row n (λ k. products (p (left k)) (q (right k))))

-- each left list with the one on the right
pub one_right : (n : ℕ) → IsCrossing n 1 n (λ k. k) (λ k. 0)
one_right n = record {
  left_below = λ k below. below;
  right_below = λ k below. omega arith;
  rows = λ p q. same_list _ _ (flat_map_in_row (λ f. map (fraction_product f) (q 0)) n p);
}

-- the one on the left with each right list
pub one_left : (n : ℕ) → IsCrossing 1 n n (λ k. 0) (λ k. k)
one_left n = record {
  left_below = λ k below. omega arith;
  right_below = λ k below. below;
  rows = λ p q.
      let each : (λ (f : Fraction). map (fraction_product f) (in_row n q)) ≡ (λ f. in_row n (λ k. map (fraction_product f) (q k))) = λ i f. row_mapped (fraction_product f) n q i in
      IsPermutation-trans _ _ _ (same_list _ _ (ap (λ make. flat_map make (p 0)) each)) (row_crossed n (λ k f. map (fraction_product f) (q k)) (p 0));
}

-- ---- one joined term and another

sum_turned : (laws : WeightLaws) (b : Bool) (w : Weight) (x : Fraction) (fs : List Fraction) → IsSum w x fs → IsSum w (turned b x) (map (turned b) fs)
sum_turned laws true w x fs h = laws.negated w x fs h
sum_turned laws false w x fs h = rw (map-id fs) h

length_products : (fs gs : List Fraction) → length (products fs gs) ≡ length fs * length gs
length_products [] gs = omega arith
length_products (f ∷ fs) gs =
    let rest = length_products fs gs in
    let first : length (map (fraction_product f) gs) ≡ length gs = length-map gs (fraction_product f) in
    length-append (map (fraction_product f) gs) (products fs gs) ∙ ap (λ n. length (map (fraction_product f) gs) + n) rest ∙ ap (λ n. n + length fs * length gs) first ∙ sym (suc_times (length fs) (length gs))
  where
    suc_times : (a b : ℕ) → suc a * b ≡ b + a * b
    suc_times a b = omega arith

-- ---- lists of them

pub some_is : {A : Type 0} {x y : A} → Some x ≡ Some y → x ≡ y
some_is {A} {x} e = ap (λ (o : Option A). or_else o) e
  where
    or_else : Option A → A
    or_else (Some y) = y
    or_else None = x

parts_of : (a b : Option (List JoinedTerm)) (ls : List JoinedTerm) → append_if a b ≡ Some ls
    → (xs : List JoinedTerm) × (ys : List JoinedTerm) × (a ≡ Some xs) × (b ≡ Some ys) × (xs ++ ys ≡ ls)
parts_of (Some xs) (Some ys) ls e = (xs, ys, refl, refl, some_is e)
parts_of (Some xs) None ls e = absurd cc
parts_of None b ls e = absurd cc

module _ (laws : WeightLaws) (lefts rights n : ℕ) (left right : ℕ → ℕ) (crossing : IsCrossing lefts rights n left right) where
  -- what one share and another make
  abbrev share_of : Share → Share → Monomial → Weight → Share
  share_of s u m w = record {
    joined = record { term = m.term; sum = m.coefficient; weight = w; count = s.joined.count * u.joined.count };
    parts = λ k. map (turned (is_turned (s.joined.term ∷ u.joined.term ∷ []))) (products (s.parts (left k)) (u.parts (right k)));
  }

  abbrev Crosses : List JoinedTerm → List Share → List Share → Type 0
  Crosses ls ss us = AreCrossed n ls (λ k. flat_map (share_members (left k)) ss) (λ k. flat_map (share_members (right k)) us)

  module _ (s u : Share) (s_is : IsShare lefts s) (u_is : IsShare rights u) where
    none_of_both : product_of (item_of s.joined) (item_of u.joined) ≡ Ok None → AreCrossed n [] (λ k. share_members (left k) s) (λ k. share_members (right k) u)
    none_of_both e =
        let none = product_none s.joined.term u.joined.term s.joined.sum u.joined.sum e in
        record {
          fine = λ k below. (crossed_none s.joined.term u.joined.term none (s.parts (left k)) (u.parts (right k))).0;
          stand = joined_none n (λ k. crossed (share_members (left k) s) (share_members (right k) u)) (λ k below. sym (crossed_none s.joined.term u.joined.term none (s.parts (left k)) (u.parts (right k))).1);
        }

    module _ (m : Monomial) (w : Weight) (made : product_of (item_of s.joined) (item_of u.joined) ≡ Ok (Some m)) (weighs : times s.joined.weight u.joined.weight ≡ Some w) where
      abbrev turn : Fraction → Fraction
      turn c = turned (is_turned (s.joined.term ∷ u.joined.term ∷ [])) c

      sums : IsWeight w × (multiply s.joined.sum u.joined.sum ≡ Some (fraction_product s.joined.sum u.joined.sum)) × IsSum w (fraction_product s.joined.sum u.joined.sum) (products (in_row lefts s.parts) (in_row rights u.parts))
      sums = laws.paired s.joined.weight u.joined.weight w s.joined.sum u.joined.sum (in_row lefts s.parts) (in_row rights u.parts) s_is.sum.in_range u_is.sum.in_range weighs s_is.sum.total u_is.sum.total

      known : (m.coefficient ≡ turn (fraction_product s.joined.sum u.joined.sum)) × ((c d q : Fraction) → multiply c d ≡ Some q → product_of (with c s.joined.term) (with d u.joined.term) ≡ Ok (Some (with (turn q) m.term)))
      known = product_some s.joined.term u.joined.term s.joined.sum u.joined.sum (fraction_product s.joined.sum u.joined.sum) m sums.1 made

      total : IsSum w m.coefficient (in_row n (share_of s u m w).parts)
      total =
          let moved = laws.moved w (fraction_product s.joined.sum u.joined.sum) (products (in_row lefts s.parts) (in_row rights u.parts)) (in_row n (λ k. products (s.parts (left k)) (u.parts (right k)))) (crossing.rows s.parts u.parts) sums.2 in
          let turned_all = sum_turned laws (is_turned (s.joined.term ∷ u.joined.term ∷ [])) w (fraction_product s.joined.sum u.joined.sum) (in_row n (λ k. products (s.parts (left k)) (u.parts (right k)))) moved in
          rw (known.0, sym (row_mapped turn n (λ k. products (s.parts (left k)) (u.parts (right k))))) turned_all

      few : (k : ℕ) → k < n → length ((share_of s u m w).parts k) ≤ s.joined.count * u.joined.count
      few k below =
          let one = s_is.few (left k) (crossing.left_below k below) in
          let other = u_is.few (right k) (crossing.right_below k below) in
          rw (length-map (products (s.parts (left k)) (u.parts (right k))) turn, length_products (s.parts (left k)) (u.parts (right k)))
          (mul-le (length (s.parts (left k))) (length (u.parts (right k))) s.joined.count u.joined.count one other)

      each : (k : ℕ) → k < n → AllByRecursion (λ c. AllByRecursion (λ d. multiply c d ≡ Some (fraction_product c d)) (u.parts (right k))) (s.parts (left k))
      each k below =
          let all = laws.each s.joined.weight u.joined.weight w s.joined.sum u.joined.sum (in_row lefts s.parts) (in_row rights u.parts) s_is.sum.in_range u_is.sum.in_range weighs s_is.sum.total u_is.sum.total in
          let here = all_in_row (λ c. AllByRecursion (λ d. multiply c d ≡ Some (fraction_product c d)) (in_row rights u.parts)) lefts (left k) s.parts (crossing.left_below k below) all in
          all_weaker (λ c. AllByRecursion (λ d. multiply c d ≡ Some (fraction_product c d)) (in_row rights u.parts)) (λ c. AllByRecursion (λ d. multiply c d ≡ Some (fraction_product c d)) (u.parts (right k)))
          (λ c. all_in_row (λ d. multiply c d ≡ Some (fraction_product c d)) rights (right k) u.parts (crossing.right_below k below)) (s.parts (left k)) here

      some_of_both : AreCrossed n ((share_of s u m w).joined ∷ []) (λ k. share_members (left k) s) (λ k. share_members (right k) u)
      some_of_both =
          let at = λ (k : ℕ) (below : k < n). crossed_some s.joined.term u.joined.term m.term turn known.1 (s.parts (left k)) (u.parts (right k)) (each k below) in
          record {
            fine = λ k below. (at k below).0;
            stand = record {
              shares = share_of s u m w ∷ [];
              joined = refl;
              each = (record { sum = record { in_range = sums.0; total = total }; few = few }, tt);
              whole = λ k below. same_list _ _ (append-nil (share_members k (share_of s u m w)) ∙ sym (at k below).1);
            };
          }

    -- a product before what comes of further right ones
    step : (made : Result (Option Monomial) Cause) (weighs : Option Weight) (rest : Option (List JoinedTerm)) (ls : List JoinedTerm) (us : List Share)
        → product_of (item_of s.joined) (item_of u.joined) ≡ made → times s.joined.weight u.joined.weight ≡ weighs
        → before_product made weighs (s.joined.count * u.joined.count) rest ≡ Some ls
        → ((ks : List JoinedTerm) → rest ≡ Some ks → AreCrossed n ks (λ k. share_members (left k) s) (λ k. flat_map (share_members (right k)) us))
        → AreCrossed n ls (λ k. share_members (left k) s) (λ k. flat_map (share_members (right k)) (u ∷ us))
    step (Ok (Some m)) (Some w) (Some ks) ls us e f h more =
        let one = some_of_both m w e f in
        let both = right_more n (λ k. share_members (left k) s) (λ k. share_members (right k) u) (λ k. flat_map (share_members (right k)) us) ((share_of s u m w).joined ∷ []) ks one (more ks refl) in
        subst (λ (l : List JoinedTerm). AreCrossed n l (λ k. share_members (left k) s) (λ k. flat_map (share_members (right k)) (u ∷ us))) (some_is h) both
    step (Ok (Some m)) (Some w) None ls us e f h more = absurd cc
    step (Ok (Some m)) None rest ls us e f h more = absurd cc
    step (Ok None) weighs rest ls us e f h more =
        right_more n (λ k. share_members (left k) s) (λ k. share_members (right k) u) (λ k. flat_map (share_members (right k)) us) [] ls (none_of_both e) (more ls h)
    step (Err cause) weighs rest ls us e f h more = absurd cc

  each_crossed : (s : Share) → IsShare lefts s → (us : List Share) (ls : List JoinedTerm) → AllByRecursion (IsShare rights) us
      → times_each s.joined (map (λ u. u.joined) us) ≡ Some ls → AreCrossed n ls (λ k. share_members (left k) s) (λ k. flat_map (share_members (right k)) us)
  each_crossed s is [] ls js e =
      subst (λ (l : List JoinedTerm). AreCrossed n l (λ k. share_members (left k) s) (λ k. [])) (some_is e) (right_none n (λ k. share_members (left k) s))
  each_crossed s is (u ∷ us) ls js e =
      step s u is js.0 (product_of (item_of s.joined) (item_of u.joined)) (times s.joined.weight u.joined.weight) (times_each s.joined (map (λ u. u.joined) us)) ls us refl refl e
      (λ ks f. each_crossed s is us ks js.1 f)

  all_crossed : (ss us : List Share) (ls : List JoinedTerm)
      → AllByRecursion (IsShare lefts) ss → AllByRecursion (IsShare rights) us → paired (map (λ s. s.joined) ss) (map (λ u. u.joined) us) ≡ Some ls → Crosses ls ss us
  unfolding paired
  all_crossed [] us ls is js e = subst (λ (l : List JoinedTerm). Crosses l [] us) (some_is e) (left_none n (λ k. flat_map (share_members (right k)) us))
  all_crossed (s ∷ ss) us ls is js e =
      let parts = parts_of (times_each s.joined (map (λ u. u.joined) us)) (paired (map (λ s. s.joined) ss) (map (λ u. u.joined) us)) ls e in
      let first = each_crossed s is.0 us parts.0 js parts.2 in
      let rest = all_crossed ss us parts.1 is.1 js parts.3 in
      subst (λ (l : List JoinedTerm). Crosses l (s ∷ ss) us) parts.4
      (left_more n (λ k. share_members (left k) s) (λ k. flat_map (share_members (left k)) ss) (λ k. flat_map (share_members (right k)) us) parts.0 parts.1 first rest)

  pub paired_crossed : (js ks ls : List JoinedTerm) (a b : ℕ → List Monomial)
      → IsJoined lefts js a → IsJoined rights ks b → paired js ks ≡ Some ls → AreCrossed n ls (λ k. a (left k)) (λ k. b (right k))
  paired_crossed js ks ls a b g h e =
      let made : paired (map (λ s. s.joined) g.shares) (map (λ s. s.joined) h.shares) ≡ Some ls = rw (g.joined, h.joined) e in
      crossed_elsewhere n ls (λ k. flat_map (share_members (left k)) g.shares) (λ k. flat_map (share_members (right k)) h.shares) (λ k. a (left k)) (λ k. b (right k))
      (λ k below. g.whole (left k) (crossing.left_below k below)) (λ k below. h.whole (right k) (crossing.right_below k below))
      (all_crossed g.shares h.shares ls g.each h.each made)
