-- What a list collects to, by joined terms that have its sums.
use Rattle.std.proofs.Common.{◌≡◌, ℕ, ◌<◌, ◌≤◌, Bool, true, false, not, cond, List, [], ◌∷◌, ◌++◌, map, length, Some, ◌⊎◌, inl, inr, refl, sym, ap, subst, ◌∙◌, append-nil, length-append, arith}
use Rattle.std.specs.Prelude.{flat_map, filter, fold, if◌then◌else◌, ◌||◌}
use Rattle.std.specs.List.{AllByRecursion, IsDistinct}
use Rattle.std.specs.List.Sorted.{IsPermutation, IsStrictlySortedBy}
use Rattle.std.specs.Map.{keys_of}
use Rattle.std.specs.Ordering.{is_eq, match_ordering}
use Rattle.std.specs.declared.cmp.Ordering.{Ordering}
use Rattle.std.specs.declared.cmp.Ordering.TheVariants.{Less, Equal, Greater}
use Rattle.std.proofs.lemmas.Cmp.{tied_itself, eq_by_cmp_equiv}
use Rattle.std.proofs.lemmas.List.{map-append, length-map}
use Rattle.std.proofs.lemmas.List.Elements.{filter-append, All-from_recursion}
use Rattle.std.proofs.lemmas.List.Sorted.{length_permutation, IsPermutation-trans, IsPermutation-sym, IsPermutation-refl, IsPermutation-cons, IsPermutation-middle, IsPermutation-map, Contains-permutation, list_any-IsPermutation}
use Rattle.std.proofs.lemmas.List.Sums.{sum_by-cons}
use Rattle.std.proofs.lemmas.Map.Keys.{IsDistinct-head, IsDistinct-tail, IsDistinct-IsPermutation}
use Rattle.form_frac.specs.Fraction.{Fraction, is_zero}
use Rattle.form_term.specs.Term.{Term, order}
use Rattle.form_term.specs.TermLaws.{order_total}
use Rattle.form_term.specs.declared.monomial.Monomial.{Monomial}
use Rattle.form_frac.specs.Weight.{Weight, IsWeight, IsSum}
use Rattle.form_frac.proofs.Added.{added_within}
use Rattle.form_frac.proofs.Joined.{moved as sums_moved}
use Rattle.form_collect.specs.Collecting.{with_term, terms_of, coefficients_at, total, collected}
use Rattle.form_collect.specs.Collector.{AreTotalsOf}
use Rattle.form_collect.specs.Keys.{AreSorted}
use Rattle.form_collect.proofs.Lists.{same, has, occurs, has-terms_of, terms_rise}
use Rattle.form_collect.proofs.Members.{Member, member_from, contains_from}
use Rattle.form_collect.proofs.Ordered.{monomials_of, collected_from_sorted}
use Rattle.form_collect.proofs.Sums.{IsTotal}
use Rattle.form_gathered.specs.declared.joined.JoinedTerm.{JoinedTerm}
use Rattle.form_gathered.specs.Joined.{Share, HasSum, IsShare, IsJoined, HaveSums, AreApart, item_of, counted, present, members, share_members, in_row}
use Rattle.form_gathered.proofs.Shuffled.{filter_moved}
use Rattle.form_gathered.proofs.Rows.{row_mapped, row_moved, row_crossed}

-- ---- the sums of lists in a row

abbrev joined_of : Share → JoinedTerm
joined_of s = s.joined

-- a share of the row
abbrev in_all : ℕ → Share → Share
in_all n s = record { joined = s.joined; parts = λ k. in_row n s.parts }

module _ (n : ℕ) where
  joined_in_all : (ss : List Share) → map joined_of (map (in_all n) ss) ≡ map joined_of ss
  joined_in_all [] = refl
  joined_in_all (s ∷ ss) = ap (λ l. s.joined ∷ l) (joined_in_all ss)

  sums_in_all : (ss : List Share) → AllByRecursion (IsShare n) ss → AllByRecursion (HasSum 1) (map (in_all n) ss)
  sums_in_all [] h = tt
  sums_in_all (s ∷ ss) h = (record { in_range = h.0.sum.in_range; total = h.0.sum.total }, sums_in_all ss h.1)

  members_in_all : (k : ℕ) (ss : List Share) → flat_map (share_members k) (map (in_all n) ss) ≡ flat_map (λ s. in_row n (λ i. share_members i s)) ss
  members_in_all k [] = refl
  members_in_all k (s ∷ ss) =
      ap (λ l. l ++ flat_map (share_members k) (map (in_all n) ss)) (row_mapped (λ (c : Fraction). record { coefficient = c; term = s.joined.term }) n s.parts)
      ∙ ap (λ l. in_row n (λ i. share_members i s) ++ l) (members_in_all k ss)

  pub sums_of_row : (js : List JoinedTerm) (lists : ℕ → List Monomial) → IsJoined n js lists → HaveSums js (in_row n lists)
  sums_of_row js lists h = record {
    shares = map (in_all n) h.shares;
    joined = joined_in_all h.shares ∙ h.joined;
    each = sums_in_all h.shares h.each;
    whole = λ k lt. subst (λ l. IsPermutation l (in_row n lists)) (sym (members_in_all k h.shares))
        (IsPermutation-trans (flat_map (λ s. in_row n (λ i. share_members i s)) h.shares) (in_row n (λ i. flat_map (share_members i) h.shares)) (in_row n lists)
        (row_crossed n share_members h.shares) (row_moved n (λ i. flat_map (share_members i) h.shares) lists h.whole));
  }

  -- ---- the lengths of lists

  module _ (k : ℕ) (within : k < n) where
    length_in : (ss : List Share) → AllByRecursion (IsShare n) ss → length (flat_map (share_members k) ss) ≤ counted (map joined_of ss)
    length_in [] h = omega arith
    length_in (s ∷ ss) h =
        let first : length (share_members k s) ≡ length (s.parts k) = length-map (s.parts k) (λ (c : Fraction). record { coefficient = c; term = s.joined.term }) in
        omega (arith, length-append (share_members k s) (flat_map (share_members k) ss), first, h.0.few k within, length_in ss h.1, sum_by-cons (λ (j : JoinedTerm). j.count) s.joined (map joined_of ss))

    pub length_counted : (js : List JoinedTerm) (lists : ℕ → List Monomial) → IsJoined n js lists → length (lists k) ≤ counted js
    length_counted js lists h =
        let long = length_permutation (flat_map (share_members k) h.shares) (lists k) (h.whole k within) in
        subst (λ l. length (lists k) ≤ counted l) h.joined (omega (arith, long, length_in h.shares h.each))

-- ---- coefficients at terms

abbrev term_of : Share → Term
term_of s = s.joined.term

abbrev flat : List Share → List Monomial
flat ss = flat_map (share_members 0) ss

at_both : (t : Term) (list more : List Monomial) → coefficients_at t (list ++ more) ≡ coefficients_at t list ++ coefficients_at t more
at_both t list more = rw filter-append (map-append (λ (m : Monomial). m.coefficient) (filter (λ m. same t m.term) list) (filter (λ m. same t m.term) more))

none_at_other : (t u : Term) (cs : List Fraction) → same t u ≡ false → coefficients_at t (members u cs) ≡ []
none_at_other t u [] e = refl
none_at_other t u (c ∷ cs) e = rw (e, none_at_other t u cs e) refl

all_at_own : (t : Term) (cs : List Fraction) → coefficients_at t (members t cs) ≡ cs
all_at_own t [] = refl
all_at_own t (c ∷ cs) = rw (tied_itself order_total t) (ap (λ l. c ∷ l) (all_at_own t cs))

none_at : (t : Term) (ss : List Share) → AllByRecursion (λ u. same t u ≡ false) (map term_of ss) → coefficients_at t (flat ss) ≡ []
none_at t [] h = refl
none_at t (s ∷ ss) h =
    at_both t (share_members 0 s) (flat ss) ∙ ap (λ l. l ++ coefficients_at t (flat ss)) (none_at_other t s.joined.term (s.parts 0) h.0) ∙ none_at t ss h.1

same_back : (t u : Term) → same t u ≡ same u t
same_back = (eq_by_cmp_equiv order_total).symm

abbrev HasOwn : List Monomial → Share → Type 0
HasOwn list s = coefficients_at s.joined.term list ≡ s.parts 0

behind_others : (t : Term) (cs : List Fraction) (rest : List Monomial) (ss : List Share) → AllByRecursion (λ u. same t u ≡ false) (map term_of ss) → AllByRecursion (HasOwn rest) ss → AllByRecursion (HasOwn (members t cs ++ rest)) ss
behind_others t cs rest [] apart h = tt
behind_others t cs rest (s ∷ ss) apart h = (
  at_both s.joined.term (members t cs) rest ∙ ap (λ l. l ++ coefficients_at s.joined.term rest) (none_at_other s.joined.term t cs (same_back s.joined.term t ∙ apart.0)) ∙ h.0,
  behind_others t cs rest ss apart.1 h.1,
)

-- at each share's term stand its own
own_at : (ss : List Share) → IsDistinct same (map term_of ss) → AllByRecursion (HasOwn (flat ss)) ss
own_at [] apart = tt
own_at (s ∷ ss) apart =
    let t = s.joined.term in
    let others = IsDistinct-head same t (map term_of ss) apart in (
      at_both t (share_members 0 s) (flat ss) ∙ ap (λ l. l ++ coefficients_at t (flat ss)) (all_at_own t (s.parts 0)) ∙ ap (λ l. s.parts 0 ++ l) (none_at t ss others) ∙ append-nil (s.parts 0),
      behind_others t (s.parts 0) (flat ss) ss others (own_at ss (IsDistinct-tail same t (map term_of ss) apart)),
    )

-- ---- totals

total_is : (w : Weight) (x : Fraction) (cs : List Fraction) → IsWeight w → IsSum w x cs → total cs ≡ Some x
total_is w x [] h k = absurd (omega (arith, k.some))
total_is w x (c ∷ cs) h k = added_within w x c cs h k

module _ (list : List Monomial) where
  total_at : (s : Share) (front : List Monomial) → IsPermutation front list → HasOwn front s → HasSum 1 s → total (coefficients_at s.joined.term list) ≡ Some s.joined.sum
  total_at s front p own h =
      let t = s.joined.term in
      let there : IsPermutation (coefficients_at t front) (coefficients_at t list) =
      IsPermutation-map (λ (m : Monomial). m.coefficient) (filter (λ (m : Monomial). same t m.term) front) (filter (λ (m : Monomial). same t m.term) list) (filter_moved (λ (m : Monomial). same t m.term) front list p) in
      let whole : IsSum s.joined.weight s.joined.sum (coefficients_at t front) = subst (λ cs. IsSum s.joined.weight s.joined.sum cs) (sym own) h.total in
      total_is s.joined.weight s.joined.sum (coefficients_at t list) h.in_range (sums_moved s.joined.weight s.joined.sum (coefficients_at t front) (coefficients_at t list) there whole)

abbrev entry_of : JoinedTerm → Term × Fraction
entry_of j = (j.term, j.sum)

totals_at : (list front : List Monomial) (ss : List Share) → IsPermutation front list → AllByRecursion (HasOwn front) ss → AllByRecursion (HasSum 1) ss → AllByRecursion (IsTotal list) (map entry_of (map joined_of ss))
totals_at list front [] p own h = tt
totals_at list front (s ∷ ss) p own h = (total_at list s front p own.0 h.0, totals_at list front ss p own.1 h.1)

-- ---- distinct terms

not_same_itself : (t u : Term) → t ≡ u → same t u ≡ false → ⊥
not_same_itself t u e f = let g : is_eq Equal ≡ false = sym (ap is_eq (tied_itself order_total t)) ∙ subst (λ (v : Term). same t v ≡ false) (sym e) f in absurd (cc)

module _ (t : Term) where
  -- none of these is a term from which all of them differ
  not_among : (us : List Term) → AllByRecursion (λ u. same t u ≡ false) us → Member t us → ⊥
  unfolding Member
  not_among [] h m = m
  not_among (u ∷ us) h (inl e) = not_same_itself t u (sym e) h.0
  not_among (u ∷ us) h (inr m) = not_among us h.1 m

  record Taken (us : List Term) : Type 0 where
    rest : List Term
    moved : IsPermutation us (t ∷ rest)

  taken : (us : List Term) → Member t us → Taken us
  unfolding Member
  taken [] m = absurd m
  taken (u ∷ us) (inl e) = record { rest = us; moved = subst (λ (v : Term). IsPermutation (u ∷ us) (v ∷ us)) e (IsPermutation-refl (u ∷ us)) }
  taken (u ∷ us) (inr m) =
      let k = taken us m in
      record {
        rest = u ∷ k.rest;
        moved = IsPermutation-trans (u ∷ us) (u ∷ t ∷ k.rest) (t ∷ u ∷ k.rest) (IsPermutation-cons u us (t ∷ k.rest) k.moved) (IsPermutation-middle (u ∷ []) t k.rest);
      }

member_moved : (t : Term) (us vs : List Term) → IsPermutation us vs → Member t us → Member t vs
member_moved t us vs p m = member_from t vs (Contains-permutation us vs t p (contains_from t us m))

-- distinct terms are the same where each of the first is among the second, and each of the second among the first
same_terms : (us vs : List Term) → IsDistinct same us → IsDistinct same vs → ((z : Term) → Member z us → Member z vs) → ((z : Term) → Member z vs → Member z us) → IsPermutation us vs
unfolding Member
same_terms [] [] s r there back = IsPermutation-refl []
same_terms [] (v ∷ vs) s r there back = absurd (back v (inl refl))
same_terms (u ∷ us) vs s r there back =
    let k = taken u vs (there u (inl refl)) in
    let apart = IsDistinct-IsPermutation same same_back vs (u ∷ k.rest) k.moved r in
    let first = IsDistinct-head same u us s in
    let second = IsDistinct-head same u k.rest apart in
    let rest = same_terms us k.rest (IsDistinct-tail same u us s) (IsDistinct-tail same u k.rest apart)
    (λ z m. other z us k.rest first m (member_moved z vs (u ∷ k.rest) k.moved (there z (inr m))))
    (λ z m. other z k.rest us second m (back z (member_moved z (u ∷ k.rest) vs (IsPermutation-sym vs (u ∷ k.rest) k.moved) (inr m)))) in
    IsPermutation-trans (u ∷ us) (u ∷ k.rest) vs (IsPermutation-cons u us k.rest rest) (IsPermutation-sym vs (u ∷ k.rest) k.moved)
  where
    other : (z : Term) (from to : List Term) → AllByRecursion (λ v. same u v ≡ false) from → Member z from → (u ≡ z) ⊎ Member z to → Member z to
    other z from to h m (inl e) = absurd (not_among u from h (subst (λ (v : Term). Member v from) (sym e) m))
    other z from to h m (inr n) = n

-- a term that is found among others is found by one of them
found : (t : Term) (us : List Term) → has t us ≡ true → (u : Term) × Member u us × (same t u ≡ true)
unfolding Member
found t [] h = absurd (cc)
found t (u ∷ us) h = by (same t u) refl h (found t us)
  where
    by : (b : Bool) → same t u ≡ b → (b || has t us) ≡ true → (has t us ≡ true → (v : Term) × Member v us × (same t v ≡ true)) → (v : Term) × ((u ≡ v) ⊎ Member v us) × (same t v ≡ true)
    by true e h rest = (u, inl refl, e)
    by false e h rest = let (v, m, f) = rest h in (v, inr m, f)

-- a term from which all of these differ doesn't compare equal to one of them
differ : (t u : Term) (us : List Term) → AllByRecursion (λ v. same t v ≡ false) us → Member u us → same t u ≡ true → ⊥
unfolding Member
differ t u [] h m e = m
differ t u (v ∷ vs) h (inl a) e = let f : false ≡ true = sym h.0 ∙ ap (same t) a ∙ e in absurd (cc)
differ t u (v ∷ vs) h (inr m) e = differ t u vs h.1 m e

-- of distinct terms no two compare equal
only_one : (us : List Term) (t u : Term) → IsDistinct same us → Member t us → Member u us → same t u ≡ true → t ≡ u
unfolding Member
only_one [] t u apart m n e = absurd m
only_one (v ∷ vs) t u apart (inl a) (inl b) e = sym a ∙ b
only_one (v ∷ vs) t u apart (inl a) (inr n) e = absurd (differ v u vs (IsDistinct-head same v vs apart) n (subst (λ (x : Term). same x u ≡ true) (sym a) e))
only_one (v ∷ vs) t u apart (inr m) (inl b) e = absurd (differ v t vs (IsDistinct-head same v vs apart) m (same_back v t ∙ subst (λ (x : Term). same t x ≡ true) (sym b) e))
only_one (v ∷ vs) t u apart (inr m) (inr n) e = only_one vs t u (IsDistinct-tail same v vs apart) m n e

-- terms that rise are distinct
distinct_rising : (us : List Term) → IsStrictlySortedBy order us → IsDistinct same us
unfolding IsStrictlySortedBy IsDistinct
distinct_rising [] s = tt
distinct_rising (u ∷ us) s = (apart us s.0, distinct_rising us s.1)
  where
    apart : (vs : List Term) → AllByRecursion (λ v. order u v ≡ Less) vs → AllByRecursion (λ v. same u v ≡ false) vs
    apart [] h = tt
    apart (v ∷ vs) h = (ap is_eq h.0, apart vs h.1)

-- ---- the terms of a list

abbrev terms_in : List Monomial → List Term
terms_in list = map (λ m. m.term) list

from_with_term : (z t : Term) (us : List Term) → Member z (with_term t us) → (t ≡ z) ⊎ Member z us
unfolding Member
from_with_term z t [] m = m
from_with_term z t (u ∷ us) m = by (order t u) m (from_with_term z t us)
  where
    by : (r : Ordering) → Member z (match_ordering r (t ∷ u ∷ us) (u ∷ us) (u ∷ with_term t us)) → (Member z (with_term t us) → (t ≡ z) ⊎ Member z us) → (t ≡ z) ⊎ ((u ≡ z) ⊎ Member z us)
    by Less m rest = m
    by Equal m rest = inr m
    by Greater (inl e) rest = inr (inl e)
    by Greater (inr m) rest = behind (rest m)
      where
        behind : (t ≡ z) ⊎ Member z us → (t ≡ z) ⊎ ((u ≡ z) ⊎ Member z us)
        behind (inl e) = inl e
        behind (inr n) = inr (inr n)

from_fold : (z : Term) (us : List Term) (list : List Monomial) → Member z (fold (λ ts m. with_term m.term ts) us list) → Member z us ⊎ Member z (terms_in list)
unfolding Member
from_fold z us [] m = inl m
from_fold z us (x ∷ list) m = by (from_fold z (with_term x.term us) list m)
  where
    first : (x.term ≡ z) ⊎ Member z us → Member z us ⊎ ((x.term ≡ z) ⊎ Member z (terms_in list))
    first (inl e) = inr (inl e)
    first (inr m) = inl m

    by : Member z (with_term x.term us) ⊎ Member z (terms_in list) → Member z us ⊎ ((x.term ≡ z) ⊎ Member z (terms_in list))
    by (inl m) = first (from_with_term z x.term us m)
    by (inr m) = inr (inr m)

-- each of them is the term of a summand
from_terms : (z : Term) (list : List Monomial) → Member z (terms_of list) → Member z (terms_in list)
unfolding terms_of Member
from_terms z list m = by (from_fold z [] list m)
  where
    by : ⊥ ⊎ Member z (terms_in list) → Member z (terms_in list)
    by (inl n) = absurd n
    by (inr n) = n

-- a summand of shares stands at the term of one of them
from_shares : (z : Term) (ss : List Share) → Member z (terms_in (flat ss)) → Member z (map term_of ss)
unfolding Member
from_shares z [] m = absurd m
from_shares z (s ∷ ss) m = by (s.parts 0) m (from_shares z ss)
  where
    by : (cs : List Fraction) → Member z (terms_in (members s.joined.term cs ++ flat ss)) → (Member z (terms_in (flat ss)) → Member z (map term_of ss)) → (s.joined.term ≡ z) ⊎ Member z (map term_of ss)
    by [] m rest = inr (rest m)
    by (c ∷ cs) (inl e) rest = inl e
    by (c ∷ cs) (inr m) rest = by cs m rest

-- a term that occurs in what is behind occurs in all
occurs_behind : (z : Term) (front rest : List Monomial) → occurs z rest ≡ true → occurs z (front ++ rest) ≡ true
occurs_behind z [] rest h = h
occurs_behind z (m ∷ front) rest h = by (same z m.term) (occurs_behind z front rest h)
  where
    by : (b : Bool) → occurs z (front ++ rest) ≡ true → (b || occurs z (front ++ rest)) ≡ true
    by true e = refl
    by false e = e

-- the term of each share occurs
occurs_in : (z : Term) (ss : List Share) → AllByRecursion (HasSum 1) ss → Member z (map term_of ss) → occurs z (flat ss) ≡ true
unfolding Member
occurs_in z [] h m = absurd m
occurs_in z (s ∷ ss) h (inl e) = by (s.parts 0) h.0.total.some
  where
    by : (cs : List Fraction) → 0 < length cs → occurs z (members s.joined.term cs ++ flat ss) ≡ true
    by [] some = absurd (omega (arith, some))
    by (c ∷ cs) some = rw (e, tied_itself order_total z) refl
occurs_in z (s ∷ ss) h (inr m) = occurs_behind z (share_members 0 s) (flat ss) (occurs_in z ss h.1 m)

-- the terms of a list are those of its shares
terms_are : (list : List Monomial) (ss : List Share) → IsDistinct same (map term_of ss) → AllByRecursion (HasSum 1) ss → IsPermutation (flat ss) list → IsPermutation (terms_of list) (map term_of ss)
terms_are list ss apart h p =
    same_terms (terms_of list) (map term_of ss) (distinct_rising (terms_of list) (terms_rise list)) apart there back
  where
    there : (z : Term) → Member z (terms_of list) → Member z (map term_of ss)
    there z m =
        let moved = IsPermutation-map (λ (x : Monomial). x.term) list (flat ss) (IsPermutation-sym (flat ss) list p) in
        from_shares z ss (member_moved z (terms_in list) (terms_in (flat ss)) moved (from_terms z list m))

    back : (z : Term) → Member z (map term_of ss) → Member z (terms_of list)
    back z m =
        let occurs_there : occurs z list ≡ true = sym (list_any-IsPermutation (λ (x : Monomial). same z x.term) (flat ss) list p) ∙ occurs_in z ss h m in
        let (u, n, e) = found z (terms_of list) (has-terms_of z list ∙ occurs_there) in
        subst (λ (x : Term). Member x (terms_of list)) (sym (only_one (map term_of ss) z u apart m (there u n) e)) n

-- ---- together

keys_in : (ss : List Share) → keys_of (map entry_of (map joined_of ss)) ≡ map term_of ss
keys_in [] = refl
keys_in (s ∷ ss) = ap (λ l. s.joined.term ∷ l) (keys_in ss)

keys_joined : (js : List JoinedTerm) → IsDistinct (λ j k. same j.term k.term) js → IsDistinct same (keys_of (map entry_of js))
unfolding IsDistinct
keys_joined [] h = tt
keys_joined (j ∷ js) h = (others js h.0, keys_joined js h.1)
  where
    others : (ks : List JoinedTerm) → AllByRecursion (λ k. same j.term k.term ≡ false) ks → AllByRecursion (λ u. same j.term u ≡ false) (keys_of (map entry_of ks))
    others [] h = tt
    others (k ∷ ks) h = (h.0, others ks h.1)

present_is : (js : List JoinedTerm) → monomials_of (map entry_of js) ≡ present js
unfolding monomials_of
present_is [] = refl
present_is (j ∷ js) = by (is_zero j.sum) (present_is js)
  where
    by : (b : Bool) → monomials_of (map entry_of js) ≡ present js → (if b then monomials_of (map entry_of js) else item_of j ∷ monomials_of (map entry_of js)) ≡ map item_of (cond (not b) (j ∷ filter (λ k. not (is_zero k.sum)) js) (filter (λ k. not (is_zero k.sum)) js))
    by true e = e
    by false e = ap (λ l. item_of j ∷ l) e

-- their terms have the totals of the list
pub totals_joined : (js : List JoinedTerm) (list : List Monomial) → AreApart js → HaveSums js list → AreTotalsOf (map entry_of js) list
totals_joined js list apart h =
    let ss = h.shares in
    let p = h.whole 0 (omega arith) in
    let distinct : IsDistinct same (map term_of ss) = subst (IsDistinct same) (ap (λ l. keys_of (map entry_of l)) (sym h.joined) ∙ keys_in ss) (keys_joined js apart) in
    let made : AreTotalsOf (map entry_of (map joined_of ss)) list = record {
      terms = subst (λ l. IsPermutation (terms_of list) l) (sym (keys_in ss)) (terms_are list ss distinct h.each p);
      totals = All-from_recursion (IsTotal list) (map entry_of (map joined_of ss)) (totals_at list (flat ss) ss p (own_at ss distinct) h.each);
    } in
    subst (λ l. AreTotalsOf (map entry_of l) list) h.joined made

-- what isn't 0, put in order, is what is collected
pub collected_joined : (js : List JoinedTerm) (list ms : List Monomial) → AreApart js → HaveSums js list → AreSorted (present js) ms → collected list ≡ Some ms
collected_joined js list ms apart h sorted =
    collected_from_sorted (map entry_of js) list ms (keys_joined js apart) (totals_joined js list apart h)
    (subst (λ l. IsPermutation l ms) (sym (present_is js)) sorted.moved) sorted.rising
