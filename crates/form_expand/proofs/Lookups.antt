-- Looking up the terms of a stored expression from the front.
use Rattle.std.proofs.Common.{◌≡◌, ℕ, zero, suc, ◌+◌, ◌<◌, ◌≤◌, Bool, true, false, cond, not, eqb, ltb, ltb-true, ltb-false, eq-eqb, ne_eqb, List, [], ◌∷◌, length, drop, get_or, refl, sym, ap, ◌∙◌, arith}
use Rattle.std.specs.List.Sorted.{IsPartitionPoint}
use Rattle.std.proofs.lemmas.List.{get_or_default}
use Rattle.form_expand.specs.declared.stored.Stored.{Stored}
use Rattle.form_expand.specs.Stored.{Rise, terms_in}
use Rattle.form_expand.proofs.Places.{drop_here, drop_past}

module _ (all : List Stored) (expression i : ℕ) where
  pub looked_up : (s : Stored) (b : Bool) → i < length all → s ≡ get_or all i s → b ≡ eqb s.expression expression
      → terms_in (drop i all) expression ≡ cond b s.terms (terms_in (drop (i + 1) all) expression)
  unfolding terms_in
  looked_up s b within is test = ap (λ rest. terms_in rest expression) (drop_here all i s within is) ∙ ap (λ t. cond t s.terms (terms_in (drop (i + 1) all) expression)) (sym test)

  pub looked_through : length all ≤ i → terms_in (drop i all) expression ≡ []
  unfolding terms_in
  looked_through past = ap (λ rest. terms_in rest expression) (drop_past all i past)

pub differs_where : (b c : Bool) → c ≡ not b → c ≡ true → b ≡ false
differs_where true c e h = cc
differs_where false c e h = refl

pub same_where : (b c : Bool) → c ≡ not b → c ≡ false → b ≡ true
same_where true c e h = refl
same_where false c e h = cc

-- no expression of these has the Id
pub none_has : (all : List Stored) (expression : ℕ) → ((i : ℕ) (d : Stored) → i < length all → eqb ((get_or all i d).expression) expression ≡ false) → terms_in all expression ≡ []
unfolding terms_in
none_has [] expression differ = refl
none_has (s ∷ all) expression differ =
    ap (λ t. cond t s.terms (terms_in all expression)) (differ 0 s (omega arith))
    ∙ none_has all expression (λ i d within. differ (suc i) d (omega arith))

-- none before a place has it
pub none_before : (all : List Stored) (expression place : ℕ) → ((i : ℕ) (d : Stored) → i < place → i < length all → eqb ((get_or all i d).expression) expression ≡ false)
    → terms_in all expression ≡ terms_in (drop place all) expression
unfolding terms_in
none_before [] expression place differ = ap (λ rest. terms_in rest expression) (sym (drop_past [] place (omega arith)))
none_before (s ∷ all) expression zero differ = refl
none_before (s ∷ all) expression (suc place) differ =
    ap (λ t. cond t s.terms (terms_in all expression)) (differ 0 s (omega arith) (omega arith))
    ∙ none_before all expression place (λ i d before within. differ (suc i) d (omega arith) (omega arith))

module _ (all : List Stored) (expression place : ℕ) (rise : Rise all)
    (point : IsPartitionPoint (λ (s : Stored). ltb s.expression expression ≡ true) (λ (s : Stored). ltb s.expression expression ≡ false) all place) where
  lower_differs : (i : ℕ) (d : Stored) → i < place → eqb ((get_or all i d).expression) expression ≡ false
  lower_differs i d before =
      let lower = ltb-true ((get_or all i d).expression) expression (point.0 i d (omega arith) before) in
      ne_eqb ((get_or all i d).expression) expression (λ same. absurd (omega (arith, lower, same)))

  -- the expression at the place where no lower Ids stand any more
  pub found_at : (s : Stored) → place < length all → s ≡ get_or all place s → s.expression ≡ expression → terms_in all expression ≡ s.terms
  found_at s within is same =
      none_before all expression place (λ i d before in_all. lower_differs i d before)
      ∙ looked_up all expression place s true within is (sym (eq-eqb s.expression expression same))

  pub not_found_at : (s : Stored) → place < length all → s ≡ get_or all place s → (s.expression ≡ expression → ⊥) → terms_in all expression ≡ []
  not_found_at s within is differs = none_has all expression one_differs
    where
      one_differs : (i : ℕ) (d : Stored) → i < length all → eqb ((get_or all i d).expression) expression ≡ false
      one_differs i d in_all = by_place (ltb i place) refl
        where
          by_place : (b : Bool) → ltb i place ≡ b → eqb ((get_or all i d).expression) expression ≡ false
          by_place true e = lower_differs i d (ltb-true i place e)
          by_place false e =
              let behind = ltb-false i place e in
              let here : s.expression ≡ (get_or all place d).expression = ap (λ (x : Stored). x.expression) (is ∙ get_or_default all place s d within) in
              let least = ltb-false ((get_or all place d).expression) expression (point.1 place d (omega arith) within) in
              let more = rise place i d behind in_all in
              ne_eqb ((get_or all i d).expression) expression (λ same. differs (omega (arith, here, least, more, same)))

  pub not_found : length all ≤ place → terms_in all expression ≡ []
  not_found past = none_has all expression (λ i d within. lower_differs i d (omega arith))
