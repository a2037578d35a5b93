-- Joined terms that stand for what lists make: pairs, lists one behind the other, lists behind a sign, powers and rows.
use Rattle.std.proofs.Common.{◌≡◌, ℕ, suc, ◌*◌, ◌<◌, ◌≤◌, true, List, [], ◌∷◌, ◌++◌, length, map, refl, ap, sym, ◌∙◌, arith}
use Rattle.std.specs.Prelude.{Some, None}
use Rattle.std.specs.List.{AllByRecursion, flat_map}
use Rattle.std.specs.List.Sorted.{IsPermutation}
use Rattle.std.proofs.lemmas.List.{map-append, length-map}
use Rattle.std.proofs.lemmas.List.Sorted.{IsPermutation-trans, IsPermutation-sym, IsPermutation-append_right, IsPermutation-map}
use Rattle.std.proofs.Math.Nat.{mul-le-mul_right}
use Rattle.form_frac.specs.Fraction.{Fraction, negate}
use Rattle.form_term.specs.Term.{Term}
use Rattle.form_term.specs.declared.monomial.Monomial.{Monomial}
use Rattle.form_joined.specs.Goes.{Goes, each_on}
use Rattle.form_gathered.specs.Joined.{Share, IsShare, IsJoined, counted, members, share_members, in_row}
use Rattle.form_expand.specs.Listing.{Listing, single, limited, followed, followed_at, pairs, powers, signed, with_sign}
use Rattle.form_expand.specs.Walks.{all_of}
use Rattle.form_gathered.specs.declared.joined.JoinedTerm.{JoinedTerm}
use Rattle.form_joined.specs.Products.{HasList, paired, turned}
use Rattle.form_joined.proofs.Crossed.{made_with, crossed, IsFineWith, AreFine, AreCrossed, pairs_fine, crossed_right}
use Rattle.form_joined.proofs.Lengths.{limited_within, length_pairs, list_within}
use Rattle.form_joined.proofs.Paired.{one_right, one_left, paired_crossed}
use Rattle.form_gathered.proofs.Joining.{beside, moved}
use Rattle.form_gathered.proofs.Rows.{row_mapped}
use Rattle.form_gathered.proofs.Shuffled.{same_list}
use Rattle.form_joined.proofs.Mapped.{flat_map_nothing, flat_map_same, flat_map_inside, all_weaker, all_of_each, both_hold}
use Rattle.form_joined.proofs.Weighed.{WeightLaws}

-- ---- one behind the other

pub lists_beside : (js ks : List JoinedTerm) (a b : Listing) → HasList a js → HasList b ks → HasList (followed a b) (js ++ ks)
unfolding followed_at
lists_beside js ks a b g h =
    let e : followed a b ≡ record { terms = a.terms ++ b.terms; end = b.end } = ap (λ end. followed_at a.terms end b) g.0 in
    rw e (h.0, beside (IsShare 1) 1 js ks (λ k. a.terms) (λ k. b.terms) g.1 h.1)

-- ---- behind a sign

abbrev turned_share : Share → Share
turned_share s = record { joined = turned s.joined; parts = λ k. map negate (s.parts k) }

module _ (laws : WeightLaws) (n : ℕ) where
  share_turned : (s : Share) → IsShare n s → IsShare n (turned_share s)
  share_turned s h = record {
    sum = record {
      in_range = h.sum.in_range;
      total = rw (sym (row_mapped negate n s.parts)) (laws.negated s.joined.weight s.joined.sum (in_row n s.parts) h.sum.total);
    };
    few = λ k below. rw (length-map (s.parts k) negate) (h.few k below);
  }

  shares_turned : (ss : List Share) → AllByRecursion (IsShare n) ss → AllByRecursion (IsShare n) (map turned_share ss)
  shares_turned [] all = tt
  shares_turned (s ∷ ss) all = (share_turned s all.0, shares_turned ss all.1)

  joined_turned : (ss : List Share) → map (λ s. s.joined) (map turned_share ss) ≡ map turned (map (λ s. s.joined) ss)
  joined_turned [] = refl
  joined_turned (s ∷ ss) = ap (λ js. turned s.joined ∷ js) (joined_turned ss)

  members_turned : (t : Term) (cs : List Fraction) → map (with_sign true) (members t cs) ≡ members t (map negate cs)
  members_turned t [] = refl
  members_turned t (c ∷ cs) = ap (λ ms. record { coefficient = negate c; term = t } ∷ ms) (members_turned t cs)

  terms_turned : (k : ℕ) (ss : List Share) → map (with_sign true) (flat_map (share_members k) ss) ≡ flat_map (share_members k) (map turned_share ss)
  terms_turned k [] = refl
  terms_turned k (s ∷ ss) =
      map-append (with_sign true) (share_members k s) (flat_map (share_members k) ss)
      ∙ ap (λ ms. ms ++ map (with_sign true) (flat_map (share_members k) ss)) (members_turned s.joined.term (s.parts k))
      ∙ ap (λ ms. members s.joined.term (map negate (s.parts k)) ++ ms) (terms_turned k ss)

  lists_turned : (js : List JoinedTerm) (lists : ℕ → List Monomial) → IsJoined n js lists → IsJoined n (map turned js) (λ k. map (with_sign true) (lists k))
  lists_turned js lists h = record {
    shares = map turned_share h.shares;
    joined = joined_turned h.shares ∙ ap (map turned) h.joined;
    each = shares_turned h.shares h.each;
    whole = λ k below. IsPermutation-trans _ _ _ (same_list _ _ (sym (terms_turned k h.shares))) (IsPermutation-map (with_sign true) _ _ (h.whole k below));
  }

pub list_turned : (laws : WeightLaws) (js : List JoinedTerm) (l : Listing) → HasList l js → HasList (signed true l) (map turned js)
list_turned laws js l h = (h.0, lists_turned laws 1 js (λ k. l.terms) h.1)

-- ---- items of which each is alone

fine_first : (ms : List Monomial) (r : Monomial) (rs : List Monomial) → AreFine ms (r ∷ rs) → AreFine ms (r ∷ [])
fine_first [] r rs f = tt
fine_first (m ∷ ms) r rs f = ((f.0.0, tt), fine_first ms r rs f.1)

fine_rest : (ms : List Monomial) (r : Monomial) (rs : List Monomial) → AreFine ms (r ∷ rs) → AreFine ms rs
fine_rest [] r rs f = tt
fine_rest (m ∷ ms) r rs f = (f.0.1, fine_rest ms r rs f.1)

fine_each : (ms rs : List Monomial) → AreFine ms rs → AllByRecursion (λ r. AreFine ms (r ∷ [])) rs
fine_each ms [] f = tt
fine_each ms (r ∷ rs) f = (fine_first ms r rs f, fine_each ms rs (fine_rest ms r rs f))

crossed_each : (ms rs : List Monomial) → IsPermutation (crossed ms rs) (flat_map (λ r. crossed ms (r ∷ [])) rs)
crossed_each ms [] = same_list _ _ (flat_map_nothing ms)
crossed_each ms (r ∷ rs) =
    IsPermutation-trans _ _ _ (IsPermutation-sym _ _ (crossed_right ms (r ∷ []) rs)) (IsPermutation-append_right (crossed ms (r ∷ [])) _ _ (crossed_each ms rs))

-- ---- pairs

terms_fine : (ms rs : List Monomial) → AreFine ms rs → (pairs (all_of ms) (all_of rs)).terms ≡ crossed ms rs
terms_fine ms rs f = ap (λ (l : Listing). l.terms) (pairs_fine ms rs f)

end_fine : (ms rs : List Monomial) → AreFine ms rs → (pairs (all_of ms) (all_of rs)).end ≡ None
end_fine ms rs f = ap (λ (l : Listing). l.end) (pairs_fine ms rs f)

whole_list : (l : Listing) → l.end ≡ None → l ≡ all_of l.terms
whole_list l e = λ i. record { terms = l.terms; end = e i }

module _ (laws : WeightLaws) where
  pub pairs_joined : (n : ℕ) (js ks ls : List JoinedTerm) (lists : ℕ → List Monomial) (right : List Monomial)
      → IsJoined n js lists → IsJoined 1 ks (λ k. right) → paired js ks ≡ Some ls
      → ((k : ℕ) → k < n → pairs (all_of (lists k)) (all_of right) ≡ all_of ((pairs (all_of (lists k)) (all_of right)).terms))
      × IsJoined n ls (λ k. (pairs (all_of (lists k)) (all_of right)).terms)
  pairs_joined n js ks ls lists right g h e =
      let c = paired_crossed laws n 1 n (λ k. k) (λ k. 0) (one_right n) js ks ls lists (λ k. right) g h e in (
        λ k below. whole_list (pairs (all_of (lists k)) (all_of right)) (end_fine (lists k) right (c.fine k below)),
        moved (IsShare n) n ls (λ k. crossed (lists k) right) (λ k. (pairs (all_of (lists k)) (all_of right)).terms) (λ k below. same_list _ _ (sym (terms_fine (lists k) right (c.fine k below)))) c.stand,
      )

  pub left_joined : (n : ℕ) (js ks ls : List JoinedTerm) (lists : ℕ → List Monomial) (left : List Monomial)
      → IsJoined 1 ks (λ k. left) → IsJoined n js lists → paired ks js ≡ Some ls
      → ((k : ℕ) → k < n → AllByRecursion (λ m. (pairs (all_of left) (single m)).end ≡ None) (lists k))
      × IsJoined n ls (λ k. flat_map (λ m. (pairs (all_of left) (single m)).terms) (lists k))
  left_joined n js ks ls lists left g h e =
      let c = paired_crossed laws 1 n n (λ k. 0) (λ k. k) (one_left n) ks js ls (λ k. left) lists g h e in (
        λ k below. all_weaker (λ m. AreFine left (m ∷ [])) (λ m. (pairs (all_of left) (single m)).end ≡ None) (λ m f. end_fine left (m ∷ []) f) (lists k) (fine_each left (lists k) (c.fine k below)),
        moved (IsShare n) n ls (λ k. crossed left (lists k)) (λ k. flat_map (λ m. (pairs (all_of left) (single m)).terms) (lists k))
            (λ k below. IsPermutation-trans _ _ _ (crossed_each left (lists k))
            (same_list _ _ (flat_map_same (λ m. crossed left (m ∷ [])) (λ m. (pairs (all_of left) (single m)).terms) (lists k)
            (all_weaker (λ m. AreFine left (m ∷ [])) (λ m. crossed left (m ∷ []) ≡ (pairs (all_of left) (single m)).terms) (λ m f. sym (terms_fine left (m ∷ []) f)) (lists k) (fine_each left (lists k) (c.fine k below))))))
            c.stand,
      )

  -- ---- products of lists

  list_times : (js ks ls : List JoinedTerm) (a b : Listing) → HasList a js → HasList b ks → paired js ks ≡ Some ls → HasList (pairs a b) ls
  list_times js ks ls a b g h e =
      let made = pairs_joined 1 js ks ls (λ k. a.terms) b.terms g.1 h.1 e in
      let same : pairs a b ≡ pairs (all_of a.terms) (all_of b.terms) = λ i. pairs (whole_list a g.0 i) (whole_list b h.0 i) in
      rw same (ap (λ (l : Listing). l.end) (made.0 0 (omega arith)), made.1)

  pub products_joined : (max : ℕ) (js ks ls : List JoinedTerm) (a b : Listing) → HasList a js → HasList b ks → paired js ks ≡ Some ls → counted ls ≤ max → HasList (limited max (pairs a b)) ls
  products_joined max js ks ls a b g h e few = list_within max ls (pairs a b) (list_times js ks ls a b g h e) few

  pub powers_joined : (max k : ℕ) (js fronts ls : List JoinedTerm) (l : Listing)
      → HasList l js → HasList (powers max l (suc k)) fronts → paired fronts js ≡ Some ls → counted ls ≤ max → HasList (powers max l (suc (suc k))) ls
  unfolding powers
  powers_joined max k js fronts ls l g h e few = products_joined max fronts js ls (powers max l (suc k)) l h g e few

  -- ---- rows

  module _ (max most : ℕ) (go : Monomial → Listing) (l : Listing) (js fronts ks ls : List JoinedTerm)
      (list : HasList l ks) (goes : Goes go js fronts) (made : paired fronts ks ≡ Some ls) (short : (m : Monomial) → length ((go m).terms) ≤ most) (few : most * length l.terms ≤ max) where
    row_fine : (m : Monomial) → ((go m).end ≡ None) × AreFine ((go m).terms) l.terms → limited max (pairs (go m) l) ≡ all_of (crossed ((go m).terms) l.terms)
    row_fine m f =
        let long = length_pairs (go m) l in
        let within = limited_within max (pairs (go m) l) (omega (arith, long, few, mul-le-mul_right {m = length ((go m).terms)} {n = most} (length l.terms) (short m))) in
        let same : pairs (go m) l ≡ pairs (all_of ((go m).terms)) (all_of l.terms) = λ i. pairs (whole_list (go m) f.0 i) (whole_list l list.0 i) in
        within ∙ same ∙ pairs_fine ((go m).terms) l.terms f.1

    crossing : (n : ℕ) (lists : ℕ → List Monomial) → IsJoined n js lists → AreCrossed n ls (λ k. each_on go (lists k)) (λ k. l.terms)
    crossing n lists g = paired_crossed laws n 1 n (λ k. k) (λ k. 0) (one_right n) fronts ks ls (λ k. each_on go (lists k)) (λ k. l.terms) (goes.made n lists g) list.1 made

    each_fine : (n : ℕ) (lists : ℕ → List Monomial) → IsJoined n js lists → (k : ℕ) → k < n → AllByRecursion (λ m. limited max (pairs (go m) l) ≡ all_of (crossed ((go m).terms) l.terms)) (lists k)
    each_fine n lists g k below =
        let fine = all_of_each (IsFineWith l.terms) (λ m. (go m).terms) (lists k) ((crossing n lists g).fine k below) in
        let ended = goes.ended n lists g k below in
        all_weaker (λ m. ((go m).end ≡ None) × AreFine ((go m).terms) l.terms) (λ m. limited max (pairs (go m) l) ≡ all_of (crossed ((go m).terms) l.terms)) row_fine (lists k)
        (both_hold (λ m. (go m).end ≡ None) (λ m. AreFine ((go m).terms) l.terms) (lists k) ended fine)

    pub rows_joined : Goes (λ m. limited max (pairs (go m) l)) js ls
    rows_joined = record {
      ended = λ n lists g k below. all_weaker (λ m. limited max (pairs (go m) l) ≡ all_of (crossed ((go m).terms) l.terms)) (λ m. (limited max (pairs (go m) l)).end ≡ None) (λ m e. ap (λ (r : Listing). r.end) e) (lists k) (each_fine n lists g k below);
      made = λ n lists g. moved (IsShare n) n ls (λ k. crossed (each_on go (lists k)) l.terms) (λ k. each_on (λ m. limited max (pairs (go m) l)) (lists k))
          (λ k below. same_list _ _ (flat_map_inside (made_with l.terms) (λ m. (go m).terms) (lists k)
          ∙ flat_map_same (λ m. crossed ((go m).terms) l.terms) (λ m. (limited max (pairs (go m) l)).terms) (lists k)
          (all_weaker (λ m. limited max (pairs (go m) l) ≡ all_of (crossed ((go m).terms) l.terms)) (λ m. crossed ((go m).terms) l.terms ≡ (limited max (pairs (go m) l)).terms) (λ m e. sym (ap (λ (r : Listing). r.terms) e)) (lists k) (each_fine n lists g k below))))
          (crossing n lists g).stand;
    }
