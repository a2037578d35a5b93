-- Inputs of which each is a list by itself.
use Rattle.std.proofs.Common.{◌≡◌, ℕ, zero, suc, ◌+◌, ◌<◌, ◌≤◌, Bool, true, false, List, [], ◌∷◌, ◌++◌, map, length, take, drop, get_or, ◌⊎◌, inl, inr, refl, sym, ap, subst, ◌∙◌, arith}
use Rattle.std.proofs.lemmas.Bool.{ltb-true, ltb-false}
use Rattle.std.proofs.lemmas.List.{take_more, length-take-le, take_all}
use lib.Dec.{ltb}
use Rattle.form_frac.specs.Fraction.{Fraction, IsLowest}
use Rattle.form_term.specs.declared.monomial.Monomial.{Monomial}
use Rattle.form_frac.specs.Weight.{IsSum, of}
use Rattle.form_frac.proofs.Added.{weight_of_one, sum_of_one}
use Rattle.form_gathered.specs.declared.joined.JoinedTerm.{JoinedTerm}
use Rattle.form_gathered.specs.Joined.{Share, IsShare, IsJoined, NeverBoth, single, share_members, in_row, alone}
use Rattle.form_gathered.proofs.Shuffled.{same_list}
use Rattle.form_gathered.proofs.Rows.{row_empty}
use Rattle.form_gathered.proofs.Joining.{by_share, moved, none_stand}

-- ---- one list of all

-- lists that are empty but for one, which has one element
unfoldable pub only : {A : Type 0} → ℕ → A → ℕ → List A
only zero x zero = x ∷ []
only zero x (suc k) = []
only (suc i) x zero = []
only (suc i) x (suc k) = only i x k

module _ {A : Type 0} (x : A) where
  only_here : (i : ℕ) → only i x i ≡ x ∷ []
  unfolding only
  only_here zero = refl
  only_here (suc i) = only_here i

  pub only_below : (i k : ℕ) → k < i → only i x k ≡ []
  unfolding only
  only_below zero k lt = absurd (omega (arith, lt))
  only_below (suc i) zero lt = refl
  only_below (suc i) (suc k) lt = only_below i k (omega (arith, lt))

  only_above : (i k : ℕ) → i < k → only i x k ≡ []
  unfolding only
  only_above i zero lt = absurd (omega (arith, lt))
  only_above zero (suc k) lt = refl
  only_above (suc i) (suc k) lt = only_above i k (omega (arith, lt))

  pub only_short : (i k : ℕ) → length (only i x k) ≤ 1
  unfolding only
  only_short zero zero = omega arith
  only_short zero (suc k) = omega arith
  only_short (suc i) zero = omega arith
  only_short (suc i) (suc k) = only_short i k

  pub only_row : (n i : ℕ) → i < n → in_row n (only i x) ≡ x ∷ []
  only_row zero i lt = absurd (omega (arith, lt))
  only_row (suc n) i lt = by (ltb i n) refl (only_row n i)
    where
      front : List A
      front = in_row n (only i x)

      last : i ≡ n → front ++ only i x n ≡ x ∷ []
      last e =
          let here : only i x n ≡ x ∷ [] = ap (only i x) (sym e) ∙ only_here i in
          ap (λ l. l ++ only i x n) (row_empty n (only i x) (λ k below. only_below i k (omega (arith, below, e)))) ∙ here

      by : (b : Bool) → ltb i n ≡ b → (i < n → front ≡ x ∷ []) → front ++ only i x n ≡ x ∷ []
      by true e rest =
          let before = ltb-true i n e in
          ap (λ l. l ++ only i x n) (rest before) ∙ ap (λ l. x ∷ l) (only_above i n before)
      by false e rest = last (omega (arith, lt, ltb-false i n e))

pub only_mapped : {A B : Type 0} (f : A → B) (i : ℕ) (x : A) (k : ℕ) → map f (only i x k) ≡ only i (f x) k
unfolding only
only_mapped f zero x zero = refl
only_mapped f zero x (suc k) = refl
only_mapped f (suc i) x zero = refl
only_mapped f (suc i) x (suc k) = only_mapped f i x k

-- ---- one more input

share_at : ℕ → Monomial → Share
share_at i m = record { joined = single m; parts = only i m.coefficient }

-- a term is the one of its list
single_at : (n i : ℕ) (m : Monomial) → i < n → IsLowest m.coefficient → IsJoined n (single m ∷ []) (only i m)
unfolding share_at
single_at n i m within lowest =
    by_share (IsShare n) n (share_at i m) (only i m) (record {
      sum = record {
        in_range = weight_of_one m.coefficient lowest;
        total = subst (λ (cs : List Fraction). IsSum (of m.coefficient) m.coefficient cs) (sym (only_row m.coefficient n i within)) (sum_of_one m.coefficient lowest);
      };
      few = λ k lt. only_short m.coefficient i k;
    }) (λ k lt. same_list (share_members k (share_at i m)) (only i m k) (only_mapped (λ (c : Fraction). record { coefficient = c; term = m.term }) i m.coefficient k))

none_behind : (k : ℕ) → drop {A = Monomial} k [] ≡ []
none_behind zero = refl
none_behind (suc k) = refl

alone_more : (list : List Monomial) (m : Monomial) (k : ℕ) → alone (list ++ m ∷ []) k ≡ alone list k ++ only (length list) m k
unfolding only
alone_more [] m zero = refl
alone_more [] m (suc k) = ap (take 1) (none_behind k)
alone_more (x ∷ list) m zero = refl
alone_more (x ∷ list) m (suc k) = alone_more list m k

alone_behind : (list : List Monomial) (k : ℕ) → length list ≤ k → alone list k ≡ []
alone_behind [] zero h = refl
alone_behind [] (suc k) h = refl
alone_behind (x ∷ list) zero h = absurd (omega (arith, h))
alone_behind (x ∷ list) (suc k) h = alone_behind list k (omega (arith, h))

-- what is told of a further joined term
abbrev pub Adds : JoinedTerm → List JoinedTerm → List JoinedTerm → Type 0
Adds item old new = (n : ℕ) (a b : ℕ → List Monomial) → NeverBoth n a b → IsJoined n old a → IsJoined n (item ∷ []) b → IsJoined n new (λ k. a k ++ b k)

module _ (inputs : List Monomial) where
  -- these stand for so many inputs, of which each is a list
  abbrev pub StandSoFar : List JoinedTerm → ℕ → Type 0
  StandSoFar js i = IsJoined (length inputs) js (alone (take i inputs))

  pub none_so_far : StandSoFar [] 0
  none_so_far = moved (IsShare (length inputs)) (length inputs) [] (λ k. []) (alone []) (λ k lt. same_list [] (alone [] k) (sym (alone_behind [] k (omega arith)))) (none_stand (IsShare (length inputs)) (length inputs))

  pub one_further : (old new : List JoinedTerm) (i : ℕ) (m : Monomial) → i < length inputs → m ≡ get_or inputs i m → IsLowest m.coefficient → Adds (single m) old new → StandSoFar old i → StandSoFar new (i + 1)
  one_further old new i m within at lowest adds h =
      let front = take i inputs in
      let long : length front ≡ i = length-take-le i inputs (omega (arith, within)) in
      let more : take (i + 1) inputs ≡ front ++ m ∷ [] = take_more inputs i m within ∙ ap (λ (x : Monomial). front ++ x ∷ []) (sym at) in
      let n = length inputs in
      moved (IsShare n) n new (λ k. alone front k ++ only i m k) (alone (take (i + 1) inputs))
      (λ k lt. same_list (alone front k ++ only i m k) (alone (take (i + 1) inputs) k) (sym (ap (λ l. alone l k) more ∙ alone_more front m k ∙ ap (λ (j : ℕ). alone front k ++ only j m k) long)))
      (adds n (alone front) (only i m) (λ k lt. apart front long k) h (single_at n i m within lowest))
    where
      apart : (front : List Monomial) → length front ≡ i → (k : ℕ) → (alone front k ≡ []) ⊎ (only i m k ≡ [])
      apart front long k = by (ltb k i) refl
        where
          by : (b : Bool) → ltb k i ≡ b → (alone front k ≡ []) ⊎ (only i m k ≡ [])
          by true e = inr (only_below m i k (ltb-true k i e))
          by false e = inl (alone_behind front k (omega (arith, long, ltb-false k i e)))

  pub all_so_far : (js : List JoinedTerm) (i : ℕ) → length inputs ≤ i → StandSoFar js i → IsJoined (length inputs) js (alone inputs)
  all_so_far js i past h = subst (λ (l : List Monomial). IsJoined (length inputs) js (alone l)) (take_all i inputs past) h
