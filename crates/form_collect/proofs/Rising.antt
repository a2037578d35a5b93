-- A list that rises, in which no coefficient is 0, collects to itself.
use Rattle.std.proofs.Common.{◌≡◌, ◌+◌, ◌<◌, ℕ, Bool, true, false, not, ◌&&◌, List, [], ◌∷◌, ◌++◌, length, map, get_or, Some, refl, ap, sym, ◌∙◌, append_assoc, append-nil, add-one, arith}
use Rattle.std.specs.Prelude.{All, fold}
use Rattle.std.specs.Bool.{OnTrue}
use Rattle.std.specs.List.{AllByRecursion, IsAllAdjacentAnswer, list_all}
use Rattle.std.specs.List.Sorted.{IsStrictlySortedBy}
use Rattle.std.specs.Ordering.{is_lt, ordering_reverse}
use Rattle.std.specs.declared.cmp.Ordering.{Ordering}
use Rattle.std.specs.declared.cmp.Ordering.TheVariants.{Less, Equal, Greater}
use Rattle.std.proofs.lemmas.Cmp.{tied_itself}
use Rattle.std.proofs.lemmas.List.Elements.{recursion_from_All}
use Rattle.form_frac.specs.Fraction.{is_zero}
use Rattle.form_term.specs.Term.{Term, order}
use Rattle.form_term.specs.TermLaws.{order_total}
use Rattle.form_term.specs.declared.monomial.Monomial.{Monomial}
use Rattle.form_collect.specs.Collecting.{with_term, terms_of, coefficients_at, total, with_totals, collected}
use Rattle.form_collect.specs.Keys.{term_order}
use Rattle.form_collect.proofs.Lists.{occurs, none_stand}

-- ---- the terms

abbrev term_at : Monomial → Term
term_at m = m.term

-- a term above all others stands behind them
with_term_last : (t : Term) (us : List Term) → AllByRecursion (λ u. order u t ≡ Less) us → with_term t us ≡ us ++ t ∷ []
with_term_last t [] h = refl
with_term_last t (u ∷ us) h =
    let back : order t u ≡ Greater = order_total.antisymm t u ∙ ap ordering_reverse h.0 in
    rw back (ap (λ vs. u ∷ vs) (with_term_last t us h.1))

-- these terms are below all of a list
abbrev AreBelow : List Term → List Monomial → Type 0
AreBelow us ms = AllByRecursion (λ (m : Monomial). AllByRecursion (λ u. order u m.term ≡ Less) us) ms

and_last : (t : Term) (us : List Term) (u : Term) → AllByRecursion (λ v. order v t ≡ Less) us → order u t ≡ Less → AllByRecursion (λ v. order v t ≡ Less) (us ++ u ∷ [])
and_last t [] u h below = (below, tt)
and_last t (v ∷ vs) u h below = (h.0, and_last t vs u h.1 below)

also_below : (us : List Term) (t : Term) (ms : List Monomial) → AreBelow us ms → AllByRecursion (λ (m : Monomial). order t m.term ≡ Less) ms → AreBelow (us ++ t ∷ []) ms
also_below us t [] b h = tt
also_below us t (m ∷ ms) b h = (and_last m.term us t b.0 h.0, also_below us t ms b.1 h.1)

put_all : (us : List Term) (ms : List Monomial) → AreBelow us ms → IsStrictlySortedBy term_order ms → fold (λ ts m. with_term m.term ts) us ms ≡ us ++ map term_at ms
unfolding IsStrictlySortedBy
put_all us [] b s = sym (append-nil us)
put_all us (m ∷ ms) b s =
    ap (λ ts. fold (λ vs n. with_term n.term vs) ts ms) (with_term_last m.term us b.0)
    ∙ put_all (us ++ m.term ∷ []) ms (also_below us m.term ms b.1 s.0) s.1
    ∙ append_assoc us (m.term ∷ []) (map term_at ms)

none_below : (ms : List Monomial) → AreBelow [] ms
none_below [] = tt
none_below (m ∷ ms) = (tt, none_below ms)

terms_of_rising : (ms : List Monomial) → IsStrictlySortedBy term_order ms → terms_of ms ≡ map term_at ms
unfolding terms_of
terms_of_rising ms s = put_all [] ms (none_below ms) s

-- ---- the coefficients

-- a term below all of a list doesn't occur in it
not_above : (t : Term) (ms : List Monomial) → AllByRecursion (λ (m : Monomial). order t m.term ≡ Less) ms → occurs t ms ≡ false
not_above t [] h = refl
not_above t (m ∷ ms) h = rw h.0 (not_above t ms h.1)

abbrev IsAlone : List Monomial → Monomial → Type 0
IsAlone list m = coefficients_at m.term list ≡ m.coefficient ∷ []

-- so each term has its own coefficient alone
alone : (ms : List Monomial) → IsStrictlySortedBy term_order ms → AllByRecursion (IsAlone ms) ms
unfolding IsStrictlySortedBy
alone [] s = tt
alone (x ∷ xs) s = (first, later xs s.0 (alone xs s.1))
  where
    first : coefficients_at x.term (x ∷ xs) ≡ x.coefficient ∷ []
    first = rw (tied_itself order_total x.term) (ap (λ cs. x.coefficient ∷ cs) (none_stand x.term xs (not_above x.term xs s.0)))

    later : (ys : List Monomial) → AllByRecursion (λ (y : Monomial). order x.term y.term ≡ Less) ys → AllByRecursion (IsAlone xs) ys → AllByRecursion (IsAlone (x ∷ xs)) ys
    later [] b h = tt
    later (y ∷ ys) b h =
        let back : order y.term x.term ≡ Greater = order_total.antisymm y.term x.term ∙ ap ordering_reverse b.0 in
        (rw back h.0, later ys b.1 h.1)

-- ---- together

totals : (list ms : List Monomial) → AllByRecursion (IsAlone list) ms → AllByRecursion (λ (m : Monomial). is_zero m.coefficient ≡ false) ms → with_totals list (map term_at ms) ≡ Some ms
totals list [] h p = refl
totals list (m ∷ ms) h p =
    let here : total (coefficients_at m.term list) ≡ Some m.coefficient = ap total h.0 in
    rw (here, totals list ms h.1 p.1, p.0) refl

again : (ms : List Monomial) → IsStrictlySortedBy term_order ms → AllByRecursion (λ (m : Monomial). is_zero m.coefficient ≡ false) ms → collected ms ≡ Some ms
unfolding collected
again ms s p = ap (with_totals ms) (terms_of_rising ms s) ∙ totals ms ms (alone ms s) p

pub collected_again : (ms : List Monomial) → IsStrictlySortedBy term_order ms → All (λ (m : Monomial). is_zero m.coefficient ≡ false) ms → collected ms ≡ Some ms
collected_again ms s p = again ms s (recursion_from_All (λ (m : Monomial). is_zero m.coefficient ≡ false) ms p)

-- ---- what tests tell

-- a list in which each is below the next one rises
module _ {X : Type 0} (R : X → X → Ordering) (trans : (x y z : X) → R x y ≡ Less → R y z ≡ Less → R x z ≡ Less) where
  above : (x y : X) (zs : List X) → R x y ≡ Less → AllByRecursion (λ z. R y z ≡ Less) zs → AllByRecursion (λ z. R x z ≡ Less) zs
  above x y [] e h = tt
  above x y (z ∷ zs) e h = (trans x y z e h.0, above x y zs e h.1)

  abbrev Rises : List X → Type 0
  Rises xs = (k : ℕ) (d : X) → k + 1 < length xs → R (get_or xs k d) (get_or xs (k + 1) d) ≡ Less

  rises_behind : (x : X) (xs : List X) → Rises (x ∷ xs) → Rises xs
  rises_behind x xs h k d within =
      let one : get_or (x ∷ xs) (k + 1) d ≡ get_or xs k d = ap (λ n. get_or (x ∷ xs) n d) (add-one k) in
      let next : get_or (x ∷ xs) (k + 1 + 1) d ≡ get_or xs (k + 1) d = ap (λ n. get_or (x ∷ xs) n d) (add-one (k + 1)) in
      sym (ap (λ m. R m (get_or (x ∷ xs) (k + 1 + 1) d)) one ∙ ap (R (get_or xs k d)) next) ∙ h (k + 1) d (omega (arith, within))

  rising : (xs : List X) → Rises xs → IsStrictlySortedBy R xs
  unfolding IsStrictlySortedBy
  rising [] h = tt
  rising (x ∷ xs) h = by xs h (rising xs (rises_behind x xs h))
    where
      by : (ys : List X) → Rises (x ∷ ys) → IsStrictlySortedBy R ys → IsStrictlySortedBy R (x ∷ ys)
      by [] r s = (tt, tt)
      by (y ∷ ys) r s = let first : R x y ≡ Less = r 0 x (omega arith) in ((first, above x y ys first s.0), s)

  -- so it does where a test says so of neighbours
  pub rise_from : (test : X → X → Bool) → ((x y : X) → test x y ≡ true → R x y ≡ Less) → (xs : List X) (b : Bool) → IsAllAdjacentAnswer (λ x y t. t ≡ test x y) xs b → OnTrue b (IsStrictlySortedBy R xs)
  rise_from test tells xs true h = rising xs (λ k d within. tells (get_or xs k d) (get_or xs (k + 1) d) (sym (h k d within)))
  rise_from test tells xs false h = tt

before : (o : Ordering) → is_lt o ≡ true → o ≡ Less
before Less e = refl
before Equal e = absurd (cc)
before Greater e = absurd (cc)

pub terms_rise_from : (ms : List Monomial) (b : Bool) → IsAllAdjacentAnswer (λ x y t. t ≡ is_lt (term_order x y)) ms b → OnTrue b (IsStrictlySortedBy term_order ms)
terms_rise_from = rise_from term_order (λ x y z. order_total.trans x.term y.term z.term) (λ x y. is_lt (term_order x y)) (λ x y. before (term_order x y))

all_present : (ms : List Monomial) → list_all (λ m. not (is_zero m.coefficient)) ms ≡ true → AllByRecursion (λ (m : Monomial). is_zero m.coefficient ≡ false) ms
all_present [] e = tt
all_present (m ∷ ms) e = step (is_zero m.coefficient) refl e (all_present ms)
  where
    step : (z : Bool) → is_zero m.coefficient ≡ z → (not z && list_all (λ n. not (is_zero n.coefficient)) ms) ≡ true →
        (list_all (λ n. not (is_zero n.coefficient)) ms ≡ true → AllByRecursion (λ (n : Monomial). is_zero n.coefficient ≡ false) ms) → AllByRecursion (λ (n : Monomial). is_zero n.coefficient ≡ false) (m ∷ ms)
    step true is e rest = absurd (cc)
    step false is e rest = (is, rest e)

pub of_tests : (ms : List Monomial) (rises present : Bool) → rises ≡ true → OnTrue rises (IsStrictlySortedBy term_order ms) → present ≡ list_all (λ m. not (is_zero m.coefficient)) ms → OnTrue present (collected ms ≡ Some ms)
of_tests ms true true e s p = again ms s (all_present ms (sym p))
of_tests ms true false e s p = tt
of_tests ms false present e s p = absurd (cc)
