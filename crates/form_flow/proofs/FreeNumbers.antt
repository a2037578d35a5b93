-- The number of a new dummy is free, and the least such.
use Rattle.std.proofs.Common.{◌≡◌, true≢false, ℕ, zero, suc, ◌+◌, ◌*◌, ◌<◌, ◌≤◌, ◌||◌, Bool, true, false, cond, List, [], ◌∷◌, length, map, refl, sym, ap, ◌∙◌, subst, arith, eqb-true}
use Rattle.std.specs.Prelude.{nat_lt, ◌==◌}
use Rattle.std.specs.List.{count_by, list_any}
use Rattle.std.proofs.lemmas.Bool.{eq-eqb, eqb-false, ltb-false, ltb-true}
use Rattle.std.proofs.lemmas.List.{length-map}
use Rattle.std.proofs.lemmas.List.Sums.{count_by-le-length, sum_by-cons}
use Rattle.form_term.specs.declared.index.Index.{Index}
use Rattle.form_term.specs.declared.index.Index.TheVariants as indices
use Rattle.form_term.specs.Term.{largest_size}
use Rattle.form_flow.specs.Indices.{free_dummy, is_declared, is_dummy, least_free, put}
use Rattle.form_flow.specs.Numbering.{AreNumbered}

-- a dummy of this number or of a larger one
abbrev from_on : ℕ → Index → Bool
from_on n (indices.Dummy m) = nat_lt n (suc m)
from_on n i = false

abbrev one : Bool → ℕ
one b = cond b 1 0

abbrev many : ℕ → List Index → ℕ
many n there = count_by (from_on n) there

many_next : (n : ℕ) (j : Index) (js : List Index) → many n (j ∷ js) ≡ one (from_on n j) + many n js
many_next n j js = sum_by-cons (λ (i : Index). one (from_on n i)) j js

one_fewer : (n : ℕ) (j : Index) → one (is_dummy n j) + one (from_on (suc n) j) ≤ one (from_on n j)
one_fewer n (indices.Dummy m) = by (m == n) refl (nat_lt (suc n) (suc m)) refl (nat_lt n (suc m)) refl
  where
    by : (a : Bool) → (m == n) ≡ a → (b : Bool) → nat_lt (suc n) (suc m) ≡ b → (c : Bool) → nat_lt n (suc m) ≡ c → one a + one b ≤ one c
    by true e true f c g = absurd (omega (arith, eqb-true m n e, ltb-true (suc n) (suc m) f))
    by true e false f true g = omega arith
    by true e false f false g = absurd (omega (arith, eqb-true m n e, ltb-false n (suc m) g))
    by false e true f true g = omega arith
    by false e true f false g = absurd (omega (arith, ltb-true (suc n) (suc m) f, ltb-false n (suc m) g))
    by false e false f c g = omega arith
one_fewer n (indices.Fixed m) = omega arith
one_fewer n (indices.Declared m) = omega arith

no_more : (n : ℕ) (there : List Index) → many (suc n) there ≤ many n there
no_more n [] = omega arith
no_more n (j ∷ js) = omega (arith, one_fewer n j, no_more n js, many_next n j js, many_next (suc n) j js)

fewer : (n : ℕ) (there : List Index) → list_any (is_dummy n) there ≡ true → many (suc n) there < many n there
fewer n [] e = absurd cc
fewer n (j ∷ js) e = by (is_dummy n j) refl (fewer n js)
  where
    by : (b : Bool) → is_dummy n j ≡ b → (list_any (is_dummy n) js ≡ true → many (suc n) js < many n js) → many (suc n) (j ∷ js) < many n (j ∷ js)
    by true h less =
        let here : one (is_dummy n j) ≡ 1 = ap one h in
        omega (arith, here, one_fewer n j, no_more n js, many_next n j js, many_next (suc n) j js)
    by false h less =
        let rest : list_any (is_dummy n) js ≡ true = sym (ap (λ (b : Bool). b || list_any (is_dummy n) js) h) ∙ e in
        omega (arith, less rest, one_fewer n j, many_next n j js, many_next (suc n) j js)

free : (k n : ℕ) (there : List Index) → many n there ≤ k → list_any (is_dummy (least_free k n there)) there ≡ false
free zero n there few = by (list_any (is_dummy n) there) refl
  where
    by : (b : Bool) → list_any (is_dummy n) there ≡ b → list_any (is_dummy n) there ≡ false
    by true e = absurd (omega (arith, few, fewer n there e))
    by false e = e
free (suc k) n there few = by (list_any (is_dummy n) there) refl (free k (suc n) there)
  where
    next : (b : Bool) → list_any (is_dummy n) there ≡ b → list_any (is_dummy (least_free (suc k) n there)) there ≡ list_any (is_dummy (cond b (least_free k (suc n) there) n)) there
    next b e = ap (λ (d : Bool). list_any (is_dummy (cond d (least_free k (suc n) there) n)) there) e

    by : (b : Bool) → list_any (is_dummy n) there ≡ b → (many (suc n) there ≤ k → list_any (is_dummy (least_free k (suc n) there)) there ≡ false) → list_any (is_dummy (least_free (suc k) n there)) there ≡ false
    by true e later = next true e ∙ later (omega (arith, few, fewer n there e))
    by false e later = next false e ∙ e

least : (k n : ℕ) (there : List Index) (m : ℕ) → n ≤ m → m < least_free k n there → list_any (is_dummy m) there ≡ true
least zero n there m low high = absurd (omega (arith, low, high))
least (suc k) n there m low high = by (list_any (is_dummy n) there) refl (least k (suc n) there m)
  where
    by : (b : Bool) → list_any (is_dummy n) there ≡ b → (suc n ≤ m → m < least_free k (suc n) there → list_any (is_dummy m) there ≡ true) → list_any (is_dummy m) there ≡ true
    by false e later =
        let below : m < n = subst (λ (b : Bool). m < cond b (least_free k (suc n) there) n) e high in
        absurd (omega (arith, low, below))
    by true e later = at (m == n) refl
      where
        at : (b : Bool) → (m == n) ≡ b → list_any (is_dummy m) there ≡ true
        at true f = ap (λ (i : ℕ). list_any (is_dummy i) there) (eqb-true m n f) ∙ e
        at false f =
            let below : m < least_free k (suc n) there = subst (λ (b : Bool). m < cond b (least_free k (suc n) there) n) e high in
            later (omega (arith, low, eqb-false m n f)) below

pub new_is_free : (there : List Index) → list_any (is_dummy (free_dummy there)) there ≡ false
new_is_free there = free (length there) 1 there (count_by-le-length (from_on 1) there)

pub new_is_least : (there : List Index) (n : ℕ) → 1 ≤ n → n < free_dummy there → list_any (is_dummy n) there ≡ true
new_is_least there n low high = least (length there) 1 there n low high

-- ---- where the first numbers are known to be taken

at_least : (k n : ℕ) (there : List Index) → n ≤ least_free k n there
at_least zero n there = omega arith
at_least (suc k) n there = by (list_any (is_dummy n) there) (at_least k (suc n) there)
  where
    by : (b : Bool) → suc n ≤ least_free k (suc n) there → n ≤ cond b (least_free k (suc n) there) n
    by true h = omega (arith, h)
    by false h = omega arith

at_most : (k n : ℕ) (there : List Index) → least_free k n there ≤ n + k
at_most zero n there = omega arith
at_most (suc k) n there = by (list_any (is_dummy n) there) (at_most k (suc n) there)
  where
    by : (b : Bool) → least_free k (suc n) there ≤ suc n + k → cond b (least_free k (suc n) there) n ≤ n + suc k
    by true h = omega (arith, h)
    by false h = omega arith

pub number_within : (there : List Index) → free_dummy there ≤ length there + 1
number_within there = omega (arith, at_most (length there) 1 there)

-- the least number is found from there on too
pub found_from : (there : List Index) (n : ℕ) → AreNumbered there n → least_free (length there) n there ≡ free_dummy there
found_from there n h =
    by (least_free (length there) n there) (free_dummy there) (free (length there) n there (count_by-le-length (from_on n) there)) (new_is_free there)
    (at_least (length there) n there) (at_least (length there) 1 there) (least (length there) n there) (new_is_least there)
  where
    by : (r d : ℕ) → list_any (is_dummy r) there ≡ false → list_any (is_dummy d) there ≡ false → n ≤ r → 1 ≤ d
        → ((m : ℕ) → n ≤ m → m < r → list_any (is_dummy m) there ≡ true) → ((m : ℕ) → 1 ≤ m → m < d → list_any (is_dummy m) there ≡ true) → r ≡ d
    by r d free_r free_d low_r low_d below_r below_d = at (nat_lt r d) refl (nat_lt d r) refl (nat_lt d n) refl
      where
        at : (a : Bool) → nat_lt r d ≡ a → (b : Bool) → nat_lt d r ≡ b → (c : Bool) → nat_lt d n ≡ c → r ≡ d
        at true e b f c g = absurd (true≢false (sym (below_d r (omega (arith, h.from, low_r)) (ltb-true r d e)) ∙ free_r))
        at false e true f true g = absurd (true≢false (sym (h.taken d low_d (ltb-true d n g)) ∙ free_d))
        at false e true f false g = absurd (true≢false (sym (below_r d (ltb-false d n g) (ltb-true d r f)) ∙ free_d))
        at false e false f c g = omega (arith, ltb-false r d e, ltb-false d r f)

-- ---- one dummy more

either : (a b c d : Bool) → (a ≡ true → c ≡ true) → (b ≡ true → d ≡ true) → (a || b) ≡ true → (c || d) ≡ true
either true b c d left right h = ap (λ x. x || d) (left refl)
either false b true d left right h = refl
either false b false d left right h = right h

module _ (i d : ℕ) where
  abbrev became : Index → Index
  became j = put i (indices.Dummy d) j

  stays_dummy : (n : ℕ) (j : Index) → is_dummy n j ≡ true → is_dummy n (became j) ≡ true
  stays_dummy n (indices.Dummy m) h = h
  stays_dummy n (indices.Fixed m) h = absurd cc
  stays_dummy n (indices.Declared m) h = absurd cc

  stays : (n : ℕ) (there : List Index) → list_any (is_dummy n) there ≡ true → list_any (is_dummy n) (map became there) ≡ true
  stays n [] h = h
  stays n (j ∷ js) h = either (is_dummy n j) (list_any (is_dummy n) js) (is_dummy n (became j)) (list_any (is_dummy n) (map became js)) (stays_dummy n j) (stays n js) h

  becomes_dummy : (j : Index) → is_declared i j ≡ true → is_dummy d (became j) ≡ true
  becomes_dummy (indices.Declared m) h = ap (λ b. is_dummy d (cond b (indices.Dummy d) (indices.Declared m))) h ∙ eq-eqb d d refl
  becomes_dummy (indices.Fixed m) h = absurd cc
  becomes_dummy (indices.Dummy m) h = absurd cc

  appears : (there : List Index) → list_any (is_declared i) there ≡ true → list_any (is_dummy d) (map became there) ≡ true
  appears [] h = absurd cc
  appears (j ∷ js) h = either (is_declared i j) (list_any (is_declared i) js) (is_dummy d (became j)) (list_any (is_dummy d) (map became js)) (becomes_dummy j) (appears js) h

pub one_numbered : (i d next more : ℕ) (there list : List Index) → AreNumbered there next → d ≡ free_dummy there → list_any (is_declared i) there ≡ true → list ≡ map (put i (indices.Dummy d)) there → more ≡ d + 1
    → AreNumbered list more
one_numbered i d next more there list h is declared made e = record {
  few = omega (arith, h.few, ap length made, length-map there (became i d));
  from = omega (arith, e);
  reach = omega (arith, h.few, e, is, number_within there);
  taken = λ n low high. subst (λ (js : List Index). list_any (is_dummy n) js ≡ true) (sym made) (by n low high (nat_lt n d) refl);
}
  where
    by : (n : ℕ) → 1 ≤ n → n < more → (b : Bool) → nat_lt n d ≡ b → list_any (is_dummy n) (map (became i d) there) ≡ true
    by n low high true f = stays i d n there (new_is_least there n low (omega (arith, is, ltb-true n d f)))
    by n low high false f =
        let same : d ≡ n = omega (arith, e, high, ltb-false n d f) in
        subst (λ (m : ℕ). list_any (is_dummy m) (map (became i d) there) ≡ true) same (appears i d there declared)

pub none_numbered : (there : List Index) → length there ≤ 2 * largest_size → AreNumbered there 1
none_numbered there few = record {
  few = few;
  from = omega arith;
  reach = omega arith;
  taken = λ n low high. absurd (omega (arith, low, high));
}
