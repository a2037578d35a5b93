-- Joined terms taken apart, put beside others, moved and brought together.
use Rattle.std.proofs.Common.{◌≡◌, ℕ, ◌+◌, ◌<◌, ◌≤◌, max, Bool, true, false, List, [], ◌∷◌, ◌++◌, map, length, Some, ◌⊎◌, inl, inr, refl, sym, ap, subst, ◌∙◌, append_assoc, append-nil, length-append, arith}
use Rattle.std.specs.Prelude.{flat_map}
use Rattle.std.specs.List.{AllByRecursion}
use Rattle.std.specs.List.Sorted.{IsPermutation}
use Rattle.std.proofs.lemmas.List.{map-append, length-map}
use Rattle.std.proofs.lemmas.List.Concat.{flat_map-append}
use Rattle.std.proofs.lemmas.List.Sorted.{length_permutation, IsPermutation-trans, IsPermutation-sym, IsPermutation-refl, IsPermutation-append, IsPermutation-append_left, IsPermutation-append_right, IsPermutation-append_comm, IsPermutation-middle}
use Rattle.form_frac.specs.Fraction.{Fraction, IsLowest, add}
use Rattle.form_term.specs.Term.{Term}
use Rattle.form_term.specs.declared.monomial.Monomial.{Monomial}
use Rattle.form_frac.specs.Weight.{IsSum, join, sum_over}
use Rattle.form_frac.proofs.Added.{weight_of_one, sum_of_one}
use Rattle.form_frac.proofs.Joined.{joined as sums_joined, moved as sums_moved}
use Rattle.form_gathered.specs.declared.joined.JoinedTerm.{JoinedTerm}
use Rattle.form_gathered.specs.Joined.{Share, HasSum, IsShare, StandFor, IsJoined, HaveSums, single, members, share_members, in_row, NeverBoth}
use Rattle.form_gathered.specs.Tally.{IsTogether, IsPut}
use Rattle.form_gathered.proofs.Shuffled.{nothing_moved, all_moved, all_joined, all_front, all_back, lifted, flat_map_moved}
use Rattle.form_gathered.proofs.Rows.{row_both}

-- ---- what is made of two lists

module _ {X Y : Type 0} (f : X → Y) where
  pub record Cut (xs : List X) (us vs : List Y) : Type 0 where
    pub front : List X
    pub back : List X
    pub whole : xs ≡ front ++ back
    pub first : map f front ≡ us
    pub second : map f back ≡ vs

  pub cut : (xs : List X) (us vs : List Y) → map f xs ≡ us ++ vs → Cut xs us vs
  cut xs [] vs e = record { front = []; back = xs; whole = refl; first = refl; second = e }
  cut [] (u ∷ us) vs e = absurd (cc)
  cut (x ∷ xs) (u ∷ us) vs e =
      let head : f x ≡ u = cc in
      let tail : map f xs ≡ us ++ vs = cc in
      let rest = cut xs us vs tail in
      record { front = x ∷ rest.front; back = rest.back; whole = ap (λ l. x ∷ l) rest.whole; first = λ i. head i ∷ rest.first i; second = rest.second }

  pub nothing_made : (xs : List X) → map f xs ≡ [] → xs ≡ []
  nothing_made [] e = refl
  nothing_made (x ∷ xs) e = absurd (cc)

  record One (xs : List X) (y : Y) : Type 0 where
    first : X
    only : xs ≡ first ∷ []
    is : f first ≡ y

  one_made : (xs : List X) (y : Y) → map f xs ≡ y ∷ [] → One xs y
  one_made [] y e = absurd (cc)
  one_made (x ∷ xs) y e =
      let head : f x ≡ y = cc in
      let tail : map f xs ≡ [] = cc in
      record { first = x; only = ap (λ l. x ∷ l) (nothing_made xs tail); is = head }

-- ---- joined terms of each kind

abbrev joined_of : Share → JoinedTerm
joined_of s = s.joined

-- joined terms in two parts, with what each part stands for
pub record Halves (kind : Share → Type 0) (n : ℕ) (js ks : List JoinedTerm) (lists : ℕ → List Monomial) : Type 0 where
  pub first : ℕ → List Monomial
  pub second : ℕ → List Monomial
  pub left : StandFor kind n js first
  pub right : StandFor kind n ks second
  pub whole : (k : ℕ) → k < n → IsPermutation (first k ++ second k) (lists k)

-- one joined term, with its share
record Alone (kind : Share → Type 0) (n : ℕ) (j : JoinedTerm) (lists : ℕ → List Monomial) : Type 0 where
  share : Share
  is : share.joined ≡ j
  held : kind share
  whole : (k : ℕ) → k < n → IsPermutation (share_members k share) (lists k)

module _ (kind : Share → Type 0) (n : ℕ) where
  pub none_stand : StandFor kind n [] (λ k. [])
  none_stand = record { shares = []; joined = refl; each = tt; whole = λ k lt. IsPermutation-refl [] }

  pub none_empty : (lists : ℕ → List Monomial) → StandFor kind n [] lists → (k : ℕ) → k < n → lists k ≡ []
  none_empty lists h k lt =
      nothing_moved (lists k) (subst (λ ss. IsPermutation (flat_map (share_members k) ss) (lists k)) (nothing_made joined_of h.shares h.joined) (h.whole k lt))

  pub split : (js ks : List JoinedTerm) (lists : ℕ → List Monomial) → StandFor kind n (js ++ ks) lists → Halves kind n js ks lists
  split js ks lists h =
      let c = cut joined_of h.shares js ks h.joined in
      let all = subst (AllByRecursion kind) c.whole h.each in
      record {
        first = λ k. flat_map (share_members k) c.front;
        second = λ k. flat_map (share_members k) c.back;
        left = record { shares = c.front; joined = c.first; each = all_front kind c.front c.back all; whole = λ k lt. IsPermutation-refl (flat_map (share_members k) c.front) };
        right = record { shares = c.back; joined = c.second; each = all_back kind c.front c.back all; whole = λ k lt. IsPermutation-refl (flat_map (share_members k) c.back) };
        whole = λ k lt. subst (λ l. IsPermutation l (lists k)) (ap (flat_map (share_members k)) c.whole ∙ flat_map-append (share_members k) c.front c.back) (h.whole k lt);
      }

  pub beside : (js ks : List JoinedTerm) (a b : ℕ → List Monomial) → StandFor kind n js a → StandFor kind n ks b → StandFor kind n (js ++ ks) (λ k. a k ++ b k)
  beside js ks a b h g = record {
    shares = h.shares ++ g.shares;
    joined = map-append joined_of h.shares g.shares ∙ ap (λ l. l ++ map joined_of g.shares) h.joined ∙ ap (λ l. js ++ l) g.joined;
    each = all_joined kind h.shares g.shares h.each g.each;
    whole = λ k lt. subst (λ l. IsPermutation l (a k ++ b k)) (sym (flat_map-append (share_members k) h.shares g.shares))
        (IsPermutation-append (flat_map (share_members k) h.shares) (a k) (flat_map (share_members k) g.shares) (b k) (h.whole k lt) (g.whole k lt));
  }

  pub moved : (js : List JoinedTerm) (a b : ℕ → List Monomial) → ((k : ℕ) → k < n → IsPermutation (a k) (b k)) → StandFor kind n js a → StandFor kind n js b
  moved js a b p h = record { shares = h.shares; joined = h.joined; each = h.each; whole = λ k lt. IsPermutation-trans (flat_map (share_members k) h.shares) (a k) (b k) (h.whole k lt) (p k lt) }

  pub exchanged : (js ks : List JoinedTerm) (a : ℕ → List Monomial) → IsPermutation js ks → StandFor kind n js a → StandFor kind n ks a
  exchanged js ks a p h =
      let (ss, is, q) = lifted joined_of h.shares ks (subst (λ l. IsPermutation l ks) (sym h.joined) p) in
      record {
        shares = ss;
        joined = is;
        each = all_moved kind h.shares ss q h.each;
        whole = λ k lt. IsPermutation-trans (flat_map (share_members k) ss) (flat_map (share_members k) h.shares) (a k) (flat_map_moved (share_members k) ss h.shares (IsPermutation-sym h.shares ss q)) (h.whole k lt);
      }

  alone : (j : JoinedTerm) (a : ℕ → List Monomial) → StandFor kind n (j ∷ []) a → Alone kind n j a
  alone j a h =
      let o = one_made joined_of h.shares j h.joined in
      record {
        share = o.first;
        is = o.is;
        held = (subst (AllByRecursion kind) o.only h.each).0;
        whole = λ k lt. subst (λ l. IsPermutation l (a k)) (ap (flat_map (share_members k)) o.only ∙ append-nil (share_members k o.first)) (h.whole k lt);
      }

  pub by_share : (s : Share) (a : ℕ → List Monomial) → kind s → ((k : ℕ) → k < n → IsPermutation (share_members k s) (a k)) → StandFor kind n (s.joined ∷ []) a
  by_share s a held whole = record {
    shares = s ∷ [];
    joined = refl;
    each = (held, tt);
    whole = λ k lt. subst (λ l. IsPermutation l (a k)) (sym (append-nil (share_members k s))) (whole k lt);
  }

  -- a new one among others
  pub put_new : (js ks : List JoinedTerm) (j : JoinedTerm) (a b : ℕ → List Monomial) → IsPermutation (j ∷ js) ks → StandFor kind n js a → StandFor kind n (j ∷ []) b → StandFor kind n ks (λ k. a k ++ b k)
  put_new js ks j a b p h g =
      exchanged (j ∷ js) ks (λ k. a k ++ b k) p (moved (j ∷ js) (λ k. b k ++ a k) (λ k. a k ++ b k) (λ k lt. IsPermutation-append_comm (b k) (a k)) (beside (j ∷ []) js b a g h))

  -- one of them in the place of another one
  pub put_at : (front back : List JoinedTerm) (j k l : JoinedTerm) (a b : ℕ → List Monomial)
      → ((c : ℕ → List Monomial) → ((i : ℕ) → i < n → length (c i) ≤ length (a i)) → StandFor kind n (j ∷ []) c → StandFor kind n (k ∷ []) b → StandFor kind n (l ∷ []) (λ i. c i ++ b i))
      → StandFor kind n (front ++ j ∷ back) a → StandFor kind n (k ∷ []) b → StandFor kind n (front ++ l ∷ back) (λ i. a i ++ b i)
  put_at front back j k l a b fuse h g =
      let halves = split (j ∷ []) (front ++ back) a (exchanged (front ++ j ∷ back) (j ∷ (front ++ back)) a (IsPermutation-middle front j back) h) in
      let c = halves.first in
      let d = halves.second in
      let one = fuse c (λ i lt. shorter (c i) (d i) (a i) (halves.whole i lt)) halves.left g in
      let both = beside (l ∷ []) (front ++ back) (λ i. c i ++ b i) d one halves.right in
      moved (front ++ l ∷ back) (λ i. (c i ++ b i) ++ d i) (λ i. a i ++ b i) (λ i lt. regrouped (c i) (b i) (d i) (a i) (halves.whole i lt))
      (exchanged (l ∷ (front ++ back)) (front ++ l ∷ back) (λ i. (c i ++ b i) ++ d i) (IsPermutation-sym (front ++ l ∷ back) (l ∷ (front ++ back)) (IsPermutation-middle front l back)) both)
    where
      shorter : (p q r : List Monomial) → IsPermutation (p ++ q) r → length p ≤ length r
      shorter p q r h = omega (arith, length_permutation (p ++ q) r h, length-append p q)

      regrouped : (p q r s : List Monomial) → IsPermutation (p ++ r) s → IsPermutation ((p ++ q) ++ r) (s ++ q)
      regrouped p q r s h =
          IsPermutation-trans ((p ++ q) ++ r) ((p ++ r) ++ q) (s ++ q)
          (rw (append_assoc p q r, append_assoc p r q) (IsPermutation-append_right p (q ++ r) (r ++ q) (IsPermutation-append_comm q r)))
          (IsPermutation-append_left q (p ++ r) s h)

-- ---- two shares of one term

-- both together
abbrev fused : JoinedTerm → Share → Share → Share
fused l s t = record { joined = l; parts = λ k. s.parts k ++ t.parts k }

members_both : (t u v : Term) (cs ds : List Fraction) → t ≡ u → t ≡ v → members t (cs ++ ds) ≡ members u cs ++ members v ds
members_both t u v cs ds e f =
    map-append (λ (c : Fraction). record { coefficient = c; term = t }) cs ds ∙ ap (λ (w : Term). members w cs ++ members t ds) e ∙ ap (λ (w : Term). members u cs ++ members w ds) f

length_members : (t : Term) (cs : List Fraction) (ms : List Monomial) → IsPermutation (members t cs) ms → length cs ≡ length ms
length_members t cs ms p = sym (length-map cs (λ (c : Fraction). record { coefficient = c; term = t })) ∙ sym (length_permutation (members t cs) ms p)

module _ (is_further : Bool) (j k l : JoinedTerm) (h : IsTogether is_further j k l) where
  module _ (s t : Share) (is_first : s.joined ≡ j) (is_second : t.joined ≡ k) where
    fused_sum : (n : ℕ) → HasSum n s → HasSum n t → HasSum n (fused l s t)
    fused_sum n a b =
        let added : add s.joined.sum t.joined.sum ≡ Some l.sum = ap (λ (x : JoinedTerm). add x.sum t.joined.sum) is_first ∙ ap (λ (x : JoinedTerm). add j.sum x.sum) is_second ∙ h.sum in
        let weighed : join s.joined.weight t.joined.weight ≡ Some l.weight = ap (λ (x : JoinedTerm). join x.weight t.joined.weight) is_first ∙ ap (λ (x : JoinedTerm). join j.weight x.weight) is_second ∙ h.weight in
        let fs = in_row n s.parts in
        let gs = in_row n t.parts in
        let both = sums_joined s.joined.weight t.joined.weight l.weight s.joined.sum t.joined.sum fs gs a.in_range b.in_range weighed a.total b.total in
        let is : sum_over l.weight.denominator (fs ++ gs) ≡ l.sum = some_same (sum_over l.weight.denominator (fs ++ gs)) l.sum (sym both.1 ∙ added) in
        record {
          in_range = both.0;
          total = sums_moved l.weight l.sum (fs ++ gs) (in_row n (λ i. s.parts i ++ t.parts i)) (IsPermutation-sym (in_row n (λ i. s.parts i ++ t.parts i)) (fs ++ gs) (row_both n s.parts t.parts))
              (subst (λ (x : Fraction). IsSum l.weight x (fs ++ gs)) is both.2);
        }
      where
        some_same : (x y : Fraction) → Some x ≡ Some y → x ≡ y
        some_same x y e = cc

    fused_members : (i : ℕ) → share_members i (fused l s t) ≡ share_members i s ++ share_members i t
    fused_members i = members_both l.term s.joined.term t.joined.term (s.parts i) (t.parts i) (h.kept ∙ sym (ap (λ (x : JoinedTerm). x.term) is_first))
        (h.kept ∙ h.alike ∙ sym (ap (λ (x : JoinedTerm). x.term) is_second))

  module _ (kind : Share → Type 0) (n : ℕ) (a b : ℕ → List Monomial) where
    abbrev Fuses : Type 0
    Fuses = (s t : Share) → s.joined ≡ j → t.joined ≡ k → ((i : ℕ) → i < n → length (s.parts i) ≡ length (a i)) → ((i : ℕ) → i < n → length (t.parts i) ≡ length (b i)) → kind s → kind t → kind (fused l s t)

    pair : Fuses → StandFor kind n (j ∷ []) a → StandFor kind n (k ∷ []) b → StandFor kind n (l ∷ []) (λ i. a i ++ b i)
    pair fuse f g =
        let x = alone kind n j a f in
        let y = alone kind n k b g in
        let s = x.share in
        let t = y.share in
        by_share kind n (fused l s t) (λ i. a i ++ b i)
        (fuse s t x.is y.is (λ i lt. length_members s.joined.term (s.parts i) (a i) (x.whole i lt)) (λ i lt. length_members t.joined.term (t.parts i) (b i) (y.whole i lt)) x.held y.held)
        (λ i lt. subst (λ m. IsPermutation m (a i ++ b i)) (sym (fused_members s t x.is y.is i)) (IsPermutation-append (share_members i s) (a i) (share_members i t) (b i) (x.whole i lt) (y.whole i lt)))

  -- of two lists at least as many may be counted as both have
  pair_counted : (n : ℕ) (a b : ℕ → List Monomial) → ((i : ℕ) → i < n → length (a i) ≤ j.count → length (b i) ≤ k.count → length (a i) + length (b i) ≤ l.count)
      → IsJoined n (j ∷ []) a → IsJoined n (k ∷ []) b → IsJoined n (l ∷ []) (λ i. a i ++ b i)
  pair_counted n a b enough = pair (IsShare n) n a b (λ s t e f long more x y. record {
    sum = fused_sum s t e f n x.sum y.sum;
    few = λ i lt.
        let first : length (a i) ≤ j.count = subst (λ (m : ℕ). length (a i) ≤ m) (ap (λ (z : JoinedTerm). z.count) e) (subst (λ (m : ℕ). m ≤ s.joined.count) (long i lt) (x.few i lt)) in
        let second : length (b i) ≤ k.count = subst (λ (m : ℕ). length (b i) ≤ m) (ap (λ (z : JoinedTerm). z.count) f) (subst (λ (m : ℕ). m ≤ t.joined.count) (more i lt) (y.few i lt)) in
        omega (arith, length-append (s.parts i) (t.parts i), long i lt, more i lt, enough i lt first second);
  })

  pair_summed : (a b : ℕ → List Monomial) → StandFor (HasSum 1) 1 (j ∷ []) a → StandFor (HasSum 1) 1 (k ∷ []) b → StandFor (HasSum 1) 1 (l ∷ []) (λ i. a i ++ b i)
  pair_summed a b = pair (HasSum 1) 1 a b (λ s t e f long more x y. fused_sum s t e f 1 x y)

-- ---- a joined term among others

module _ (item : JoinedTerm) (old new : List JoinedTerm) where
  pub put_lists : (n : ℕ) (a b : ℕ → List Monomial) → IsPut false item old new true → IsJoined n old a → IsJoined n (item ∷ []) b → IsJoined n new (λ k. a k ++ b k)
  put_lists n a b (inl p) h g = put_new (IsShare n) n old new item a b p h g
  put_lists n a b (inr r) h g =
      subst (λ js. IsJoined n js (λ k. a k ++ b k)) (sym r.after)
      (put_at (IsShare n) n r.front r.back r.was item r.is a b
      (λ c less. pair_counted false r.was item r.is r.together n c b (λ i lt p q. subst (λ (m : ℕ). length (c i) + length (b i) ≤ m) (sym r.together.count) (omega (arith, p, q))))
      (subst (λ js. IsJoined n js a) r.before h) g)

  pub put_sums : (is_further : Bool) (a b : List Monomial) → IsPut is_further item old new true → HaveSums old a → HaveSums (item ∷ []) b → HaveSums new (a ++ b)
  put_sums is_further a b (inl p) h g = put_new (HasSum 1) 1 old new item (λ k. a) (λ k. b) p h g
  put_sums is_further a b (inr r) h g =
      subst (λ js. HaveSums js (a ++ b)) (sym r.after)
      (put_at (HasSum 1) 1 r.front r.back r.was item r.is (λ k. a) (λ k. b)
      (λ c less. pair_summed is_further r.was item r.is r.together c (λ k. b))
      (subst (λ js. HaveSums js a) r.before h) g)

  pub put_further : (n : ℕ) (a b : ℕ → List Monomial) → NeverBoth n a b → IsPut true item old new true → IsJoined n old a → IsJoined n (item ∷ []) b → IsJoined n new (λ k. a k ++ b k)
  put_further n a b apart (inl p) h g = put_new (IsShare n) n old new item a b p h g
  put_further n a b apart (inr r) h g =
      subst (λ js. IsJoined n js (λ k. a k ++ b k)) (sym r.after)
      (put_at (IsShare n) n r.front r.back r.was item r.is a b
      (λ c less. pair_counted true r.was item r.is r.together n c b (λ i lt p q. subst (λ (m : ℕ). length (c i) + length (b i) ≤ m) (sym r.together.count) (enough (c i) (a i) (b i) (less i lt) p q (apart i lt))))
      (subst (λ js. IsJoined n js a) r.before h) g)
    where
      enough : (c a b : List Monomial) → length c ≤ length a → length c ≤ r.was.count → length b ≤ item.count → (a ≡ []) ⊎ (b ≡ []) → length c + length b ≤ max r.was.count item.count
      enough c a b less p q (inl e) = let none : length a ≡ 0 = ap length e in omega (arith, less, p, q, none)
      enough c a b less p q (inr e) = let none : length b ≡ 0 = ap length e in omega (arith, less, p, q, none)

-- ---- one term alone

abbrev share_of : Monomial → Share
share_of m = record { joined = single m; parts = λ k. m.coefficient ∷ [] }

pub single_stands : (m : Monomial) → IsLowest m.coefficient → IsJoined 1 (single m ∷ []) (λ k. m ∷ [])
single_stands m lowest =
    by_share (IsShare 1) 1 (share_of m) (λ k. m ∷ []) (record { sum = record { in_range = weight_of_one m.coefficient lowest; total = sum_of_one m.coefficient lowest }; few = λ k lt. omega arith }) (λ k lt. IsPermutation-refl (m ∷ []))
