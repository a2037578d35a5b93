-- Exponents to which those of a factor are added again and again.
use Rattle.std.proofs.Common.{◌≡◌, ℕ, zero, suc, ◌+◌, ◌-◌, ◌<◌, ◌≤◌, ◌==◌, Bool, true, false, not, ◌&&◌, ◌||◌, eqb, List, [], ◌∷◌, ◌++◌, map, ℤ, pos, ◌+ℤ◌, ◌*ℤ◌, ◌≤ℤ◌, nat_abs, nat_lt, nat_le, refl, sym, ap, subst, ◌∙◌, arith}
use Rattle.std.specs.Prelude.{All}
use Rattle.std.specs.Bool.{beq}
use Rattle.std.specs.Int.{is_negative}
use Rattle.std.specs.List.{AllByRecursion, list_all}
use Rattle.std.specs.List.Sorted.{IsStrictlySortedBy}
use Rattle.std.specs.Ordering.{nat_cmp, ordering_then}
use Rattle.std.specs.Cmp.{nat_cmp_is}
use Rattle.std.specs.declared.cmp.Ordering.{Ordering}
use Rattle.std.specs.declared.cmp.Ordering.TheVariants.{Less, Equal}
use Rattle.std.proofs.lemmas.Bool.{and_parts, eqb-true, leb-true, ltb-true}
use Rattle.std.proofs.lemmas.Int.{ints}
use Rattle.std.proofs.lemmas.List.Elements.{All-nil, All-cons, All-head, All-tail}
use Rattle.std.proofs.Math.IntN.{suc_ℤ-*ℤ, +ℤ_assoc, +ℤ_idr, zero-*ℤ, *ℤ-zero}
use Rattle.form_term.specs.declared.power.Power.{Power}
use Rattle.form_term.specs.declared.power.DotPower.{DotPower}
use Rattle.form_term.specs.Term.{Others, RiseFrom, exponent_in, pair_order, largest_exponent}
use Rattle.form_term.specs.Terms.{term}
use Rattle.form_normal.specs.Factors.{IsPresent, IsInRange}
use Rattle.form_normal.specs.Lists.{dots_product, exponent_at}
use Rattle.form_normal.specs.Product.{symbols_product}
use Rattle.form_normal.proofs.Dots.{IsThere, dots_from, exponents_append}
use Rattle.form_normal.proofs.Limits.{IsDotInRange}
use Rattle.form_normal.proofs.Order.{all_append}
use Rattle.form_normal.proofs.Powers.{product_from}
use Rattle.form_expand.specs.Often.{reached, is_kept, raised_power, keeps_power, stands_in, dot_in, raised_dot, keeps_dot, dot_stands_in}

pub equal_or_not : (m n : ℕ) → ((m == n) || not (m == n)) ≡ true
equal_or_not m n = by (m == n)
  where
    by : (b : Bool) → (b || not b) ≡ true
    by true = refl
    by false = refl

-- ---- one exponent

pub reached_next : (e d : ℤ) (k : ℕ) → reached e d (suc k) ≡ reached e d k +ℤ d
reached_next e d k = ap (λ (x : ℤ). e +ℤ x) (suc_ℤ-*ℤ (pos k) d) ∙ sym (+ℤ_assoc e (pos k *ℤ d) d)

reached_first : (e d : ℤ) → reached e d 0 ≡ e
reached_first e d = ap (λ (x : ℤ). e +ℤ x) (zero-*ℤ d) ∙ +ℤ_idr e

none_reached : (k : ℕ) → reached (pos 0) (pos 0) k ≡ pos 0
none_reached k = ap (λ (x : ℤ). pos 0 +ℤ x) (*ℤ-zero (pos k))

-- it rises, or falls

rises_once : (x y d : ℤ) → is_negative d ≡ false → x ≤ℤ y → x ≤ℤ (y +ℤ d)
rises_once x y d up h = omega (arith, ints)

falls_once : (x y d : ℤ) → is_negative d ≡ true → y ≤ℤ x → (y +ℤ d) ≤ℤ x
falls_once x y d down h = omega (arith, ints)

no_further : (x : ℤ) → x ≤ℤ x
no_further x = omega (arith, ints)

rises_by : (e d : ℤ) → is_negative d ≡ false → (j m : ℕ) → reached e d j ≤ℤ reached e d (j + m)
rises_by e d up j zero =
    let same : j ≡ j + 0 = omega arith in
    subst (λ (y : ℤ). reached e d j ≤ℤ y) (ap (reached e d) same) (no_further (reached e d j))
rises_by e d up j (suc m) =
    let next : j + suc m ≡ suc (j + m) = omega arith in
    subst (λ (y : ℤ). reached e d j ≤ℤ y) (sym (ap (reached e d) next ∙ reached_next e d (j + m))) (rises_once (reached e d j) (reached e d (j + m)) d up (rises_by e d up j m))

falls_by : (e d : ℤ) → is_negative d ≡ true → (j m : ℕ) → reached e d (j + m) ≤ℤ reached e d j
falls_by e d down j zero =
    let same : j ≡ j + 0 = omega arith in
    subst (λ (y : ℤ). y ≤ℤ reached e d j) (ap (reached e d) same) (no_further (reached e d j))
falls_by e d down j (suc m) =
    let next : j + suc m ≡ suc (j + m) = omega arith in
    subst (λ (y : ℤ). y ≤ℤ reached e d j) (sym (ap (reached e d) next ∙ reached_next e d (j + m))) (falls_once (reached e d j) (reached e d (j + m)) d down (falls_by e d down j m))

rises : (e d : ℤ) → is_negative d ≡ false → (j k : ℕ) → j ≤ k → reached e d j ≤ℤ reached e d k
rises e d up j k h =
    let all : j + (k - j) ≡ k = omega (arith, h) in
    subst (λ (y : ℤ). reached e d j ≤ℤ y) (ap (reached e d) all) (rises_by e d up j (k - j))

falls : (e d : ℤ) → is_negative d ≡ true → (j k : ℕ) → j ≤ k → reached e d k ≤ℤ reached e d j
falls e d down j k h =
    let all : j + (k - j) ≡ k = omega (arith, h) in
    subst (λ (y : ℤ). y ≤ℤ reached e d j) (ap (reached e d) all) (falls_by e d down j (k - j))

-- an exponent that isn't 0 and is in range
abbrev pub IsThereInRange : ℤ → Type 0
IsThereInRange e = (0 < nat_abs e) × (nat_abs e ≤ largest_exponent)

-- what lies between two on one side of 0 is on it, too
between : (e f g : ℤ) (n : Bool) → is_negative e ≡ n → is_negative g ≡ n → IsThereInRange e → IsThereInRange g → e ≤ℤ f → f ≤ℤ g → IsThereInRange f
between e f g true a b h k l m = (omega (arith, ints, h.0, h.1, k.0, k.1), omega (arith, ints, h.0, h.1, k.0, k.1))
between e f g false a b h k l m = (omega (arith, ints, h.0, h.1, k.0, k.1), omega (arith, ints, h.0, h.1, k.0, k.1))

alike : (a b : Bool) → beq a b ≡ true → a ≡ b
alike true true e = refl
alike true false e = cc
alike false true e = cc
alike false false e = refl

three : (a b c : Bool) → (a && b && c) ≡ true → (a ≡ true) × (b ≡ true) × (c ≡ true)
three true true true e = (refl, refl, refl)
three true true false e = cc
three true false c e = cc
three false b c e = cc

-- where it is kept, it isn't 0, is in range, and on the same side
pub kept_parts : (e f : ℤ) → is_kept e f ≡ true → IsThereInRange f × (is_negative f ≡ is_negative e)
kept_parts e f h =
    let parts = three (nat_lt 0 (nat_abs f)) (nat_le (nat_abs f) largest_exponent) (beq (is_negative f) (is_negative e)) h in
    ((ltb-true 0 (nat_abs f) parts.0, leb-true (nat_abs f) largest_exponent parts.1), alike (is_negative f) (is_negative e) parts.2)

-- where it is kept in the end, it is kept up to there
pub kept_so_far : (e d : ℤ) (j k : ℕ) → j ≤ k → IsThereInRange e → is_kept e (reached e d k) ≡ true → IsThereInRange (reached e d j)
kept_so_far e d j k h there kept = by (is_negative d) refl
  where
    end : IsThereInRange (reached e d k) × (is_negative (reached e d k) ≡ is_negative e)
    end = kept_parts e (reached e d k) kept

    by : (n : Bool) → is_negative d ≡ n → IsThereInRange (reached e d j)
    by false up =
        between e (reached e d j) (reached e d k) (is_negative e) refl end.1 there end.0
        (subst (λ (x : ℤ). x ≤ℤ reached e d j) (reached_first e d) (rises e d up 0 j (omega arith)))
        (rises e d up j k h)
    by true down =
        between (reached e d k) (reached e d j) e (is_negative e) end.1 refl end.0 there
        (falls e d down j k h)
        (subst (λ (x : ℤ). reached e d j ≤ℤ x) (reached_first e d) (falls e d down 0 j (omega arith)))

-- ---- powers of symbols

module _ (qs : List Power) where
  -- a symbol that isn't in the front isn't in the factor
  absent_there : (ps : List Power) (s : ℕ) (rs : List Power) → list_all (stands_in ps) rs ≡ true → exponent_in ps s ≡ pos 0 → exponent_in rs s ≡ pos 0
  absent_there ps s [] all none = refl
  absent_there ps s (r ∷ rs) all none = step (eqb r.symbol s) refl (absent_there ps s rs both.1 none)
    where
      both : (stands_in ps r ≡ true) × (list_all (stands_in ps) rs ≡ true)
      both = and_parts (stands_in ps r) (list_all (stands_in ps) rs) all

      step : (b : Bool) → eqb r.symbol s ≡ b → exponent_in rs s ≡ pos 0 → exponent_in (r ∷ rs) s ≡ pos 0
      step true e rest =
          let zero_there : nat_abs (exponent_in ps r.symbol) ≡ 0 = ap (λ (n : ℕ). nat_abs (exponent_in ps n)) (eqb-true r.symbol s e) ∙ ap nat_abs none in
          absurd (omega (arith, ltb-true 0 (nat_abs (exponent_in ps r.symbol)) both.0, zero_there))
      step false e rest = rw e rest

  raised_exponent : (k : ℕ) (ps : List Power) (s : ℕ) → (exponent_in ps s ≡ pos 0 → exponent_in qs s ≡ pos 0) → exponent_in (map (raised_power qs k) ps) s ≡ reached (exponent_in ps s) (exponent_in qs s) k
  raised_exponent k [] s h = sym (ap (λ (d : ℤ). reached (pos 0) d k) (h refl) ∙ none_reached k)
  raised_exponent k (p ∷ ps) s h = step (eqb p.symbol s) refl (raised_exponent k ps s)
    where
      step : (b : Bool) → eqb p.symbol s ≡ b → ((exponent_in ps s ≡ pos 0 → exponent_in qs s ≡ pos 0) → exponent_in (map (raised_power qs k) ps) s ≡ reached (exponent_in ps s) (exponent_in qs s) k)
          → exponent_in (map (raised_power qs k) (p ∷ ps)) s ≡ reached (exponent_in (p ∷ ps) s) (exponent_in qs s) k
      step true e rest = rw e (ap (λ (n : ℕ). reached p.exponent (exponent_in qs n) k) (eqb-true p.symbol s e))
      step false e rest = rw e (rest (rw e at h))

  pub raised_rises : (k n : ℕ) (ps : List Power) → RiseFrom n ps → RiseFrom n (map (raised_power qs k) ps)
  raised_rises k n [] h = tt
  raised_rises k n (p ∷ ps) h = (h.0, raised_rises k (suc p.symbol) ps h.1)

  pub raised_kept : (j k : ℕ) → j ≤ k → (ps : List Power) → All IsPresent ps → All IsInRange ps → list_all (keeps_power qs k) ps ≡ true
      → All IsPresent (map (raised_power qs j) ps) × All IsInRange (map (raised_power qs j) ps)
  raised_kept j k h [] p r all = (All-nil IsPresent, All-nil IsInRange)
  raised_kept j k h (x ∷ ps) p r all =
      let both = and_parts (keeps_power qs k x) (list_all (keeps_power qs k) ps) all in
      let here = kept_so_far x.exponent (exponent_in qs x.symbol) j k h (All-head IsPresent x ps p, All-head IsInRange x ps r) both.0 in
      let rest = raised_kept j k h ps (All-tail IsPresent x ps p) (All-tail IsInRange x ps r) both.1 in
      (All-cons IsPresent (raised_power qs j x) (map (raised_power qs j) ps) here.0 rest.0, All-cons IsInRange (raised_power qs j x) (map (raised_power qs j) ps) here.1 rest.1)

  -- before the first factor
  pub raised_first : (ps : List Power) → map (raised_power qs 0) ps ≡ ps
  raised_first [] = refl
  raised_first (p ∷ ps) =
      let here : raised_power qs 0 p ≡ p = λ i. record { symbol = p.symbol; exponent = reached_first p.exponent (exponent_in qs p.symbol) i } in
      λ i. here i ∷ raised_first ps i

  -- with a further factor
  pub raised_next : (k : ℕ) (ps : List Power) (o u : Others) → RiseFrom 0 ps → All IsPresent (map (raised_power qs (suc k)) ps) → list_all (stands_in ps) qs ≡ true
      → map (raised_power qs (suc k)) ps ≡ symbols_product (term (map (raised_power qs k) ps) o ∷ term qs u ∷ [])
  raised_next k ps o u rise present there =
      product_from (map (raised_power qs (suc k)) ps) (term (map (raised_power qs k) ps) o ∷ term qs u ∷ []) (raised_rises (suc k) 0 ps rise) present
      (λ s.
      let none : exponent_in ps s ≡ pos 0 → exponent_in qs s ≡ pos 0 = absent_there ps s qs there in
      raised_exponent (suc k) ps s none
      ∙ reached_next (exponent_in ps s) (exponent_in qs s) k
      ∙ add (reached (exponent_in ps s) (exponent_in qs s) k) (exponent_in (map (raised_power qs k) ps) s) (exponent_in qs s) (raised_exponent k ps s none))
    where
      add : (x y d : ℤ) → y ≡ x → x +ℤ d ≡ y +ℤ (d +ℤ pos 0)
      add x y d e = omega (arith, ints)

-- ---- powers of dot products

differ : (m n p q : ℕ) → ordering_then (nat_cmp p m) (nat_cmp q n) ≡ Less → (m == p && n == q) ≡ false
differ m n p q h = step (m == p) (n == q) refl refl
  where
    step : (a b : Bool) → (m == p) ≡ a → (n == q) ≡ b → (m == p && n == q) ≡ false
    step false b e f = rw e refl
    step true false e f = rw (e, f) refl
    step true true e f =
        let left = nat_cmp_is p m Equal (sym (eqb-true m p e)) in
        let right = nat_cmp_is q n Equal (sym (eqb-true n q f)) in
        let tie : ordering_then (nat_cmp p m) (nat_cmp q n) ≡ Equal = ap (λ (o : Ordering). ordering_then o (nat_cmp q n)) (sym left) ∙ sym right in
        let no_tie : Less ≡ Equal = sym h ∙ tie in
        absurd (cc)

-- a pair before those of all these is absent
absent_pair : (p q : ℕ) (ds : List DotPower) → AllByRecursion (λ (d : DotPower). ordering_then (nat_cmp p d.left) (nat_cmp q d.right) ≡ Less) ds → exponent_at ds p q ≡ pos 0
absent_pair p q [] h = refl
absent_pair p q (d ∷ ds) h = rw (differ d.left d.right p q h.0, absent_pair p q ds h.1) refl

-- in order, the sum of the exponents of a pair is its exponent
at_in : (ds : List DotPower) (p q : ℕ) → IsStrictlySortedBy pair_order ds → exponent_at ds p q ≡ dot_in ds p q
unfolding IsStrictlySortedBy
at_in [] p q rise = refl
at_in (d ∷ ds) p q rise = step (d.left == p && d.right == q) refl (at_in ds p q rise.1)
  where
    alone : (x y : ℤ) → y ≡ pos 0 → x +ℤ y ≡ x
    alone x y e = omega (arith, ints)

    behind : (y z : ℤ) → y ≡ z → pos 0 +ℤ y ≡ z
    behind y z e = omega (arith, ints)

    step : (b : Bool) → (d.left == p && d.right == q) ≡ b → exponent_at ds p q ≡ dot_in ds p q → exponent_at (d ∷ ds) p q ≡ dot_in (d ∷ ds) p q
    step true e rest =
        let both = and_parts (d.left == p) (d.right == q) e in
        let none : exponent_at ds p q ≡ pos 0 =
        ap (λ (n : ℕ). exponent_at ds n q) (sym (eqb-true d.left p both.0)) ∙ ap (λ (n : ℕ). exponent_at ds d.left n) (sym (eqb-true d.right q both.1)) ∙ absent_pair d.left d.right ds rise.0 in
        rw e (alone d.exponent (exponent_at ds p q) none)
    step false e rest = rw e (behind (exponent_at ds p q) (dot_in ds p q) rest)

module _ (es : List DotPower) where
  dot_absent_there : (ds : List DotPower) (p q : ℕ) (rs : List DotPower) → list_all (dot_stands_in ds) rs ≡ true → dot_in ds p q ≡ pos 0 → dot_in rs p q ≡ pos 0
  dot_absent_there ds p q [] all none = refl
  dot_absent_there ds p q (r ∷ rs) all none = step (r.left == p && r.right == q) refl (dot_absent_there ds p q rs both.1 none)
    where
      both : (dot_stands_in ds r ≡ true) × (list_all (dot_stands_in ds) rs ≡ true)
      both = and_parts (dot_stands_in ds r) (list_all (dot_stands_in ds) rs) all

      step : (b : Bool) → (r.left == p && r.right == q) ≡ b → dot_in rs p q ≡ pos 0 → dot_in (r ∷ rs) p q ≡ pos 0
      step true e rest =
          let pair = and_parts (r.left == p) (r.right == q) e in
          let zero_there : nat_abs (dot_in ds r.left r.right) ≡ 0 =
          ap (λ (n : ℕ). nat_abs (dot_in ds n r.right)) (eqb-true r.left p pair.0) ∙ ap (λ (n : ℕ). nat_abs (dot_in ds p n)) (eqb-true r.right q pair.1) ∙ ap nat_abs none in
          absurd (omega (arith, ltb-true 0 (nat_abs (dot_in ds r.left r.right)) both.0, zero_there))
      step false e rest = rw e rest

  raised_in : (k : ℕ) (ds : List DotPower) (p q : ℕ) → (dot_in ds p q ≡ pos 0 → dot_in es p q ≡ pos 0) → dot_in (map (raised_dot es k) ds) p q ≡ reached (dot_in ds p q) (dot_in es p q) k
  raised_in k [] p q h = sym (ap (λ (d : ℤ). reached (pos 0) d k) (h refl) ∙ none_reached k)
  raised_in k (x ∷ ds) p q h = step (x.left == p && x.right == q) refl (raised_in k ds p q)
    where
      step : (b : Bool) → (x.left == p && x.right == q) ≡ b → ((dot_in ds p q ≡ pos 0 → dot_in es p q ≡ pos 0) → dot_in (map (raised_dot es k) ds) p q ≡ reached (dot_in ds p q) (dot_in es p q) k)
          → dot_in (map (raised_dot es k) (x ∷ ds)) p q ≡ reached (dot_in (x ∷ ds) p q) (dot_in es p q) k
      step true e rest =
          let pair = and_parts (x.left == p) (x.right == q) e in
          rw e (ap (λ (n : ℕ). reached x.exponent (dot_in es n x.right) k) (eqb-true x.left p pair.0) ∙ ap (λ (n : ℕ). reached x.exponent (dot_in es p n) k) (eqb-true x.right q pair.1))
      step false e rest = rw e (rest (rw e at h))

  raised_above : (k : ℕ) (x : DotPower) (ds : List DotPower) → AllByRecursion (λ e. pair_order x e ≡ Less) ds → AllByRecursion (λ e. pair_order (raised_dot es k x) e ≡ Less) (map (raised_dot es k) ds)
  raised_above k x [] h = tt
  raised_above k x (d ∷ ds) h = (h.0, raised_above k x ds h.1)

  pub raised_dots_rise : (k : ℕ) (ds : List DotPower) → IsStrictlySortedBy pair_order ds → IsStrictlySortedBy pair_order (map (raised_dot es k) ds)
  unfolding IsStrictlySortedBy
  raised_dots_rise k [] h = tt
  raised_dots_rise k (d ∷ ds) h = (raised_above k d ds h.0, raised_dots_rise k ds h.1)

  pub raised_dots_kept : (j k : ℕ) → j ≤ k → (ds : List DotPower) → All IsThere ds → All IsDotInRange ds → list_all (keeps_dot es k) ds ≡ true
      → All IsThere (map (raised_dot es j) ds) × All IsDotInRange (map (raised_dot es j) ds)
  raised_dots_kept j k h [] p r all = (All-nil IsThere, All-nil IsDotInRange)
  raised_dots_kept j k h (x ∷ ds) p r all =
      let both = and_parts (keeps_dot es k x) (list_all (keeps_dot es k) ds) all in
      let here = kept_so_far x.exponent (dot_in es x.left x.right) j k h (All-head IsThere x ds p, All-head IsDotInRange x ds r) both.0 in
      let rest = raised_dots_kept j k h ds (All-tail IsThere x ds p) (All-tail IsDotInRange x ds r) both.1 in
      (All-cons IsThere (raised_dot es j x) (map (raised_dot es j) ds) here.0 rest.0, All-cons IsDotInRange (raised_dot es j x) (map (raised_dot es j) ds) here.1 rest.1)

  abbrev IsTurned : DotPower → Type 0
  IsTurned d = d.left ≤ d.right

  pub raised_dots_turned : (k : ℕ) (ds : List DotPower) → All (λ (d : DotPower). d.left ≤ d.right) ds → All (λ (d : DotPower). d.left ≤ d.right) (map (raised_dot es k) ds)
  raised_dots_turned k [] h = All-nil IsTurned
  raised_dots_turned k (d ∷ ds) h = All-cons IsTurned (raised_dot es k d) (map (raised_dot es k) ds) (All-head IsTurned d ds h) (raised_dots_turned k ds (All-tail IsTurned d ds h))

  pub raised_dots_first : (ds : List DotPower) → map (raised_dot es 0) ds ≡ ds
  raised_dots_first [] = refl
  raised_dots_first (d ∷ ds) =
      let here : raised_dot es 0 d ≡ d = λ i. record { left = d.left; right = d.right; exponent = reached_first d.exponent (dot_in es d.left d.right) i } in
      λ i. here i ∷ raised_dots_first ds i

  pub raised_dots_next : (k : ℕ) (ds : List DotPower) → IsStrictlySortedBy pair_order ds → IsStrictlySortedBy pair_order es → AllByRecursion IsThere (map (raised_dot es k) ds) → AllByRecursion IsThere (map (raised_dot es (suc k)) ds)
      → AllByRecursion IsThere es → list_all (dot_stands_in ds) es ≡ true → map (raised_dot es (suc k)) ds ≡ dots_product (map (raised_dot es k) ds ++ es)
  raised_dots_next k ds rise own before after factor there =
      dots_from (map (raised_dot es (suc k)) ds) (map (raised_dot es k) ds ++ es) (raised_dots_rise (suc k) ds rise) after (all_append IsThere (map (raised_dot es k) ds) es before factor)
      (λ p q.
      let none : dot_in ds p q ≡ pos 0 → dot_in es p q ≡ pos 0 = dot_absent_there ds p q es there in
      at_in (map (raised_dot es (suc k)) ds) p q (raised_dots_rise (suc k) ds rise)
      ∙ raised_in (suc k) ds p q none
      ∙ reached_next (dot_in ds p q) (dot_in es p q) k
      ∙ add (reached (dot_in ds p q) (dot_in es p q) k) (dot_in (map (raised_dot es k) ds) p q) (exponent_at (map (raised_dot es k) ds) p q) (dot_in es p q) (exponent_at es p q)
      (raised_in k ds p q none) (at_in (map (raised_dot es k) ds) p q (raised_dots_rise k ds rise)) (at_in es p q own)
      ∙ sym (exponents_append (map (raised_dot es k) ds) es p q))
    where
      add : (x y z d e : ℤ) → y ≡ x → z ≡ y → e ≡ d → x +ℤ d ≡ z +ℤ e
      add x y z d e f g h = omega (arith, ints)
