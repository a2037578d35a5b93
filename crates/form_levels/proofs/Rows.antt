-- Rows of lists whose front is a joined term.
use Rattle.std.proofs.Common.{◌≡◌, ℕ, ◌*◌, ◌^◌, ◌≤◌, List, [], ◌∷◌, ◌++◌, length, map, replicate, suc, refl, sym, ap, subst, ◌∙◌, arith}
use Rattle.std.specs.Prelude.{Some, None, flat_map}
use Rattle.std.specs.List.{AllByRecursion}
use Rattle.std.proofs.lemmas.List.{map-append}
use Rattle.std.proofs.lemmas.List.Sorted.{IsPermutation-trans, IsPermutation-map}
use Rattle.form_frac.specs.Fraction.{Fraction}
use Rattle.form_term.specs.Term.{Term}
use Rattle.form_term.specs.declared.monomial.Monomial.{Monomial}
use Rattle.form_expand.specs.Left.{row, row_behind}
use Rattle.form_expand.specs.Listing.{Listing, limited, pairs, single}
use Rattle.form_expand.specs.Walks.{all_of}
use Rattle.form_expand.proofs.Listings.{limited_within}
use Rattle.form_gathered.specs.Joined.{Share, IsShare, IsJoined, Stand, members, share_members}
use Rattle.form_gathered.specs.declared.joined.JoinedTerm.{JoinedTerm}
use Rattle.form_gathered.proofs.Joining.{moved}
use Rattle.form_gathered.proofs.Shuffled.{same_list}
use Rattle.form_joined.specs.Goes.{Goes, each_on}
use Rattle.form_joined.specs.Products.{HasList, paired, singles}
use Rattle.form_levels.specs.Rows.{with_term, row_from, IsRow}
use Rattle.form_joined.specs.Powers.{HasRoom, IsPower}
use Rattle.form_joined.proofs.Behind.{goes_behind}
use Rattle.form_joined.proofs.Begun.{goes_together}
use Rattle.form_joined.proofs.Lengths.{length_of_row, length_pairs}
use Rattle.form_joined.proofs.Lists.{left_joined, rows_joined}
use Rattle.form_joined.proofs.Weighed.{WeightLaws}

pub goes_same : (f go : Monomial → Listing) (js ks : List JoinedTerm) → ((m : Monomial) → f m ≡ go m) → Goes f js ks → Goes go js ks
goes_same f go js ks e g = subst (λ (by : Monomial → Listing). Goes by js ks) (λ i m. e m i) g

-- ---- coefficients at another term

abbrev put : Term → Monomial → Monomial
put t m = record { coefficient = m.coefficient; term = t }

abbrev share_with : Term → Share → Share
share_with t s = record { joined = with_term t s.joined; parts = s.parts }

module _ (t : Term) where
  shares_with : (n : ℕ) (ss : List Share) → AllByRecursion (IsShare n) ss → AllByRecursion (IsShare n) (map (share_with t) ss)
  shares_with n [] h = tt
  shares_with n (s ∷ ss) h =
      (record { sum = record { in_range = h.0.sum.in_range; total = h.0.sum.total }; few = h.0.few }, shares_with n ss h.1)

  joined_with : (ss : List Share) → map (λ (s : Share). s.joined) (map (share_with t) ss) ≡ map (with_term t) (map (λ (s : Share). s.joined) ss)
  joined_with [] = refl
  joined_with (s ∷ ss) = ap (λ l. with_term t s.joined ∷ l) (joined_with ss)

  members_with : (u : Term) (cs : List Fraction) → map (put t) (members u cs) ≡ members t cs
  members_with u [] = refl
  members_with u (c ∷ cs) = ap (λ l. record { coefficient = c; term = t } ∷ l) (members_with u cs)

  terms_with : (k : ℕ) (ss : List Share) → map (put t) (flat_map (share_members k) ss) ≡ flat_map (share_members k) (map (share_with t) ss)
  terms_with k [] = refl
  terms_with k (s ∷ ss) =
      map-append (put t) (share_members k s) (flat_map (share_members k) ss)
      ∙ ap (λ l. l ++ map (put t) (flat_map (share_members k) ss)) (members_with s.joined.term (s.parts k))
      ∙ ap (λ l. members t (s.parts k) ++ l) (terms_with k ss)

  lists_with : (n : ℕ) (js : List JoinedTerm) (lists : ℕ → List Monomial) → IsJoined n js lists → IsJoined n (map (with_term t) js) (λ k. map (put t) (lists k))
  lists_with n js lists h = record {
    shares = map (share_with t) h.shares;
    joined = joined_with h.shares ∙ ap (map (with_term t)) h.joined;
    each = shares_with n h.shares h.each;
    whole = λ k below. IsPermutation-trans _ _ _ (same_list _ _ (sym (terms_with k h.shares))) (IsPermutation-map (put t) _ _ (h.whole k below));
  }

  module _ (by : Fraction → Listing) where
    ended_with : (ms : List Monomial) → AllByRecursion (λ m. (by m.coefficient).end ≡ None) (map (put t) ms) → AllByRecursion (λ m. (by m.coefficient).end ≡ None) ms
    ended_with [] h = tt
    ended_with (m ∷ ms) h = (h.0, ended_with ms h.1)

    each_with : (ms : List Monomial) → each_on (λ m. by m.coefficient) (map (put t) ms) ≡ each_on (λ m. by m.coefficient) ms
    each_with [] = refl
    each_with (m ∷ ms) = ap (λ l. (by m.coefficient).terms ++ l) (each_with ms)

    -- What is made of the coefficient alone may be made of another term with it.
    pub goes_with : (js ks : List JoinedTerm) → Goes (λ m. by m.coefficient) (map (with_term t) js) ks → Goes (λ m. by m.coefficient) js ks
    goes_with js ks g = record {
      ended = λ n lists h k below. ended_with (lists k) (g.ended n (λ i. map (put t) (lists i)) (lists_with n js lists h) k below);
      made = λ n lists h. moved (IsShare n) n ks (λ k. each_on (λ m. by m.coefficient) (map (put t) (lists k))) (λ k. each_on (λ m. by m.coefficient) (lists k))
          (λ k below. same_list _ _ (each_with (lists k))) (g.made n (λ i. map (put t) (lists i)) (lists_with n js lists h));
    }

-- ---- a term times a list

alone_each : (ms : List Monomial) → each_on single ms ≡ ms
alone_each [] = refl
alone_each (m ∷ ms) = ap (λ l. m ∷ l) (alone_each ms)

alone_ended : (ms : List Monomial) → AllByRecursion (λ m. (single m).end ≡ None) ms
alone_ended [] = tt
alone_ended (m ∷ ms) = (refl, alone_ended ms)

pub goes_alone : (js : List JoinedTerm) → Goes single js js
goes_alone js = record {
  ended = λ n lists h k below. alone_ended (lists k);
  made = λ n lists h. moved (IsShare n) n js lists (λ k. each_on single (lists k)) (λ k below. same_list _ _ (sym (alone_each (lists k)))) h;
}

pub goes_right : (laws : WeightLaws) (js ks ls : List JoinedTerm) (l : Listing) → HasList l ks → paired js ks ≡ Some ls → Goes (λ m. pairs (single m) l) js ls
goes_right laws js ks ls l list made =
    let most = length l.terms in
    goes_same (λ m. limited most (pairs (single m) l)) (λ m. pairs (single m) l) js ls
    (λ m. limited_within most (pairs (single m) l) (let long = length_pairs (single m) l in omega (arith, long)))
    (rows_joined laws most 1 single l js js ks ls list (goes_alone js) made (λ m. omega arith) (omega arith))

-- a list of terms, each alone, before them
pub goes_left : (laws : WeightLaws) (js ls : List JoinedTerm) (list : List Monomial) → IsJoined 1 (singles list) (λ k. list) → paired (singles list) js ≡ Some ls → Goes (λ m. pairs (all_of list) (single m)) js ls
goes_left laws js ls list alone made = record {
  ended = λ n lists h. (left_joined laws n js (singles list) ls lists list alone h made).0;
  made = λ n lists h. (left_joined laws n js (singles list) ls lists list alone h made).1;
}

-- ---- rows

row_more : (max : ℕ) (front l : Listing) (lists : List Listing) → row_behind max front (lists ++ l ∷ []) ≡ limited max (pairs (row_behind max front lists) l)
unfolding row_behind
row_more max front l [] = refl
row_more max front l (k ∷ lists) = row_more max (limited max (pairs front k)) l lists

row_further : (max : ℕ) (t : Term) (lists : List Listing) (l : Listing) (c : Fraction) → row_from max t (lists ++ l ∷ []) c ≡ limited max (pairs (row_from max t lists c) l)
unfolding row
row_further max t lists l c = row_more max (limited max (single (record { coefficient = c; term = t }))) l lists

-- a term is a list within its limit
pub row_alone : (max : ℕ) (t : Term) (lists : List Listing) (c : Fraction) → 1 ≤ max → row_behind max (single (record { coefficient = c; term = t })) lists ≡ row_from max t lists c
unfolding row
row_alone max t lists c some = ap (λ (l : Listing). row_behind max l lists) (sym (limited_within max (single (record { coefficient = c; term = t })) (omega (arith, some))))

-- no list: the coefficients at the term alone
alone_with : (max : ℕ) (t : Term) (c : Fraction) → 1 ≤ max → row_from max t [] c ≡ single (record { coefficient = c; term = t })
unfolding row row_behind
alone_with max t c some = limited_within max (single (record { coefficient = c; term = t })) (omega (arith, some))

put_each : (t : Term) (ms : List Monomial) → each_on (λ m. single (put t m)) ms ≡ map (put t) ms
put_each t [] = refl
put_each t (m ∷ ms) = ap (λ l. put t m ∷ l) (put_each t ms)

put_ended : (t : Term) (ms : List Monomial) → AllByRecursion (λ m. (single (put t m)).end ≡ None) ms
put_ended t [] = tt
put_ended t (m ∷ ms) = (refl, put_ended t ms)

goes_put : (t : Term) (js : List JoinedTerm) → Goes (λ m. single (put t m)) js (map (with_term t) js)
goes_put t js = record {
  ended = λ n lists h k below. put_ended t (lists k);
  made = λ n lists h. moved (IsShare n) n (map (with_term t) js) (λ k. map (put t) (lists k)) (λ k. each_on (λ m. single (put t m)) (lists k)) (λ k below. same_list _ _ (sym (put_each t (lists k)))) (lists_with t n js lists h);
}

pub row_begun : (max : ℕ) (t : Term) (js : List JoinedTerm) → 1 ≤ max → IsRow max t [] js (map (with_term t) js) 1
row_begun max t js some = record {
  goes = goes_same (λ m. single (put t m)) (λ m. row_from max t [] m.coefficient) js (map (with_term t) js) (λ m. sym (alone_with max t m.coefficient some)) (goes_put t js);
  short = λ c. let e = ap (λ (l : Listing). length l.terms) (alone_with max t c some) in omega (arith, e);
}

-- One list more behind the fronts, or behind others that stand for them, by its joined terms.
pub row_done : (laws : WeightLaws) (max : ℕ) (t : Term) (lists : List Listing) (l : Listing) (js fronts gathered ks made : List JoinedTerm) (most more : ℕ)
    → IsRow max t lists js fronts most → Stand fronts gathered → HasList l ks → paired gathered ks ≡ Some made → more ≡ most * length l.terms → more ≤ max → IsRow max t (lists ++ l ∷ []) js made more
row_done laws max t lists l js fronts gathered ks made most more r s list e product few =
    let go : Monomial → Listing = λ m. row_from max t lists m.coefficient in
    record {
      goes = goes_same (λ m. limited max (pairs (go m) l)) (λ m. row_from max t (lists ++ l ∷ []) m.coefficient) js made (λ m. sym (row_further max t lists l m.coefficient))
          (rows_joined laws max most go l js gathered ks made list (goes_together go js fronts gathered r.goes s) e (λ m. r.short m.coefficient) (subst (λ n. n ≤ max) product few));
      short = λ c.
          let same = ap (λ (x : Listing). length x.terms) (row_further max t lists l c) in
          let long = length_of_row max most (row_from max t lists c) l (r.short c) in
          omega (arith, same, long, product);
    }

-- A list so many times behind a joined term, by its power.
pub row_at_once : (laws : WeightLaws) (max n : ℕ) (j : JoinedTerm) (list : List Monomial) (ps made : List JoinedTerm) → 1 ≤ max → IsPower list n ps → HasRoom (suc n) list j → length list ^ suc n ≤ max
    → paired (j ∷ []) ps ≡ Some made → Goes (λ m. row_from max j.term (replicate (suc n) (all_of list)) m.coefficient) (j ∷ []) made
row_at_once laws max n j list ps made some power room short product =
    goes_same (λ m. row_behind max (single (record { coefficient = m.coefficient; term = j.term })) (replicate (suc n) (all_of list))) (λ m. row_from max j.term (replicate (suc n) (all_of list)) m.coefficient) (j ∷ []) made
    (λ m. row_alone max j.term (replicate (suc n) (all_of list)) m.coefficient some)
    (goes_behind laws max n j list ps made power room short product)
