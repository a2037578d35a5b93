-- How often a match fits.
use Rattle.std.proofs.Common.{◌≡◌, ℕ, zero, suc, ◌+◌, ◌*◌, ◌/◌, ◌<◌, ◌≤◌, ℤ, pos, negsuc, ◌*ℤ◌, neg_ℤ, nat_abs, FitsSigned, All, Bool, cond, ◌==◌, true, false, not, ◌&&◌, ◌||◌, IsTrue, Option, Some, None, IfSome, inl, inr, List, [], ◌∷◌, drop, get_or, length, map, min, refl, ap, ap₂, subst, sym, ◌∙◌, arith}
use Rattle.std.specs.Prelude.{slice_get}
use Rattle.std.specs.Int.{w64}
use Rattle.std.specs.List.{AllByRecursion, list_any}
use Rattle.std.proofs.lemmas.Bool.Decides.{nat_tests}
use Rattle.std.proofs.lemmas.Int.{fits_signed_from_abs, unsigned_abs-mul}
use Rattle.std.proofs.lemmas.Nat.{mul-le}
use Rattle.std.proofs.Math.Nat.{min-le_left, min-le_right, div-mul-le_self, mul-le-mul_right}
use Rattle.std.proofs.lemmas.List.{drop_more}
use Rattle.std.proofs.lemmas.List.Elements.{All-from_recursion, recursion_from_All}
use Rattle.form_term.specs.Term.{IsTerm, Term, exponent_in, exponent_of, largest_exponent}
use Rattle.form_term.specs.declared.power.DotPower.{DotPower}
use Rattle.form_term.specs.declared.power.Power.{Power}
use Rattle.form_match.specs.declared.uses.Use.{Use}
use Rattle.form_match.specs.declared.uses.Use.TheVariants as uses
use Rattle.form_match.specs.Fits.{Fits, FitsUse}
use Rattle.form_match.specs.Matching.{are_apart, clashes, fits}
use Rattle.form_rewrite.specs.Taking.{dot_exponent, fits_times, least, so_often, times_at, times_in}
use Rattle.form_rewrite.specs.Ways.{HasRoom}

min_assoc : (a b c : ℕ) → min (min a b) c ≡ min a (min b c)
min_assoc a b c = omega arith

least_min : (n m : ℕ) (ms : List ℕ) → least (min n m) ms ≡ min n (least m ms)
least_min n m [] = refl
least_min n m (k ∷ ks) = min_assoc n m (least k ks)

-- one number more
pub least_more : (t : Term) (n : ℕ) (us : List Use) (i : ℕ) (u : Use) → i < length us → u ≡ get_or us i u
    → least (min n (times_at t u)) (map (times_at t) (drop (i + 1) us)) ≡ least n (map (times_at t) (drop i us))
least_more t n us i u within is =
    let e : drop i us ≡ u ∷ drop (i + 1) us = drop_more us i u within ∙ ap (λ x. x ∷ drop (i + 1) us) (sym is) in
    least_min n (times_at t u) (map (times_at t) (drop (i + 1) us)) ∙ sym (ap (λ xs. least n (map (times_at t) xs)) e)

-- ---- so many times a power

fits_above : (a m : ℕ) → 0 < m → m ≤ a → fits false (pos a) (pos m) ≡ true
fits_above a m some h = grind (arith, nat_tests)

fits_below : (b m : ℕ) → m ≤ b → fits false (negsuc b) (negsuc m) ≡ true
fits_below b m h = grind (arith, nat_tests)

above_fits : (e : ℤ) (m : ℕ) → fits false e (pos (suc m)) ≡ true → (a : ℕ) × (e ≡ pos a) × (suc m ≤ a)
above_fits (pos a) m h = (a, refl, grind (arith, nat_tests))
above_fits (negsuc b) m h = absurd (grind (arith, nat_tests))

below_fits : (e : ℤ) (m : ℕ) → fits false e (negsuc m) ≡ true → (b : ℕ) × (e ≡ negsuc b) × (m ≤ b)
below_fits (pos a) m h = absurd (grind (arith, nat_tests))
below_fits (negsuc b) m h = (b, refl, grind (arith, nat_tests))

positive : (a b : ℕ) → 0 < a → 0 < b → 0 < a * b
positive a b x y = omega (arith, mul-le 1 1 a b x y)

often_within : (n a m : ℕ) → n ≤ a / suc m → n * suc m ≤ a
often_within n a m h = omega (arith, mul-le-mul_right (suc m) h, div-mul-le_self a (suc m))

minus_suc : (n : ℕ) → 0 < n → (k : ℕ) × (n ≡ suc k)
minus_suc zero h = absurd (omega arith)
minus_suc (suc k) h = (k, refl)

often_above : (e : ℤ) (a n m : ℕ) → e ≡ pos a → 0 < n → n ≤ nat_abs e / suc m → fits false e (pos n *ℤ pos (suc m)) ≡ true
often_above e a n m is some within =
    let w : n ≤ a / suc m = rw is at within in
    let p : 0 < n * suc m = positive n (suc m) some (omega arith) in
    subst (λ x. fits false x (pos (n * suc m)) ≡ true) (sym is) (fits_above a (n * suc m) p (often_within n a m w))

often_below : (e : ℤ) (b n m : ℕ) → e ≡ negsuc b → 0 < n → n ≤ nat_abs e / suc m → fits false e (pos n *ℤ negsuc m) ≡ true
often_below e b n m is some within =
    let w : n ≤ suc b / suc m = rw is at within in
    let k = minus_suc (n * suc m) (positive n (suc m) some (omega arith)) in
    let y : k.0 ≤ b = omega (arith, often_within n (suc b) m w, k.1) in
    subst (λ x. fits false x (pos n *ℤ negsuc m) ≡ true) (sym is)
    (subst (λ (x : ℕ). fits false (negsuc b) (neg_ℤ (pos x)) ≡ true) (sym k.1) (fits_below b k.0 y))

often_exponent : (e k : ℤ) (n : ℕ) → 0 < n → n ≤ times_in e k → fits false e k ≡ true → fits false e (pos n *ℤ k) ≡ true
often_exponent e (pos zero) n some within h = cc
often_exponent e (pos (suc m)) n some within h = let f = above_fits e m h in often_above e f.0 n m f.1 some within
often_exponent e (negsuc m) n some within h = let f = below_fits e m h in often_below e f.0 n m f.1 some within

-- ---- so many times what a match takes

often_zero : (k : ℤ) (n : ℕ) → nat_abs k ≡ 0 → nat_abs (pos n *ℤ k) ≡ 0
often_zero (pos a) n h = omega (arith, ap (λ x. n * x) h)
often_zero (negsuc a) n h = cc

often_one : (t : Term) (u : Use) (n : ℕ) → 0 < n → n ≤ times_at t u → FitsUse t u → FitsUse t (so_often n u)
often_one t (uses.Symbol s k) n some within (inl h) = inl (often_zero k n h)
often_one t (uses.Symbol s k) n some within (inr h) = inr (often_exponent (exponent_of t s) k n some within h)
often_one t (uses.Dot m k) n some within h = (h.0, by (slice_get t.others.dots m) within h.1)
  where
    by : (o : Option DotPower) → n ≤ times_in (dot_exponent o) k → IfSome o (λ d. fits false d.exponent k ≡ true) → IfSome o (λ d. fits false d.exponent (pos n *ℤ k) ≡ true)
    by None w f = tt
    by (Some d) w f = often_exponent d.exponent k n some w f
often_one t (uses.Component m) n some within h = h
often_one t (uses.Delta m) n some within h = h
often_one t (uses.Function m) n some within h = h
often_one t (uses.Stretch a b) n some within h = h

clashes_alike : (n : ℕ) (u v : Use) → clashes (so_often n u) (so_often n v) ≡ clashes u v
clashes_alike n (uses.Symbol s k) (uses.Symbol t l) = refl
clashes_alike n (uses.Symbol s k) (uses.Dot t l) = refl
clashes_alike n (uses.Symbol s k) (uses.Component m) = refl
clashes_alike n (uses.Symbol s k) (uses.Delta m) = refl
clashes_alike n (uses.Symbol s k) (uses.Function m) = refl
clashes_alike n (uses.Symbol s k) (uses.Stretch a b) = refl
clashes_alike n (uses.Dot s k) (uses.Symbol t l) = refl
clashes_alike n (uses.Dot s k) (uses.Dot t l) = refl
clashes_alike n (uses.Dot s k) (uses.Component m) = refl
clashes_alike n (uses.Dot s k) (uses.Delta m) = refl
clashes_alike n (uses.Dot s k) (uses.Function m) = refl
clashes_alike n (uses.Dot s k) (uses.Stretch a b) = refl
clashes_alike n (uses.Component x) v = other n v
  where
    other : (n : ℕ) (v : Use) → clashes (uses.Component x) (so_often n v) ≡ clashes (uses.Component x) v
    other n (uses.Symbol t l) = refl
    other n (uses.Dot t l) = refl
    other n (uses.Component m) = refl
    other n (uses.Delta m) = refl
    other n (uses.Function m) = refl
    other n (uses.Stretch a b) = refl
clashes_alike n (uses.Delta x) v = other n v
  where
    other : (n : ℕ) (v : Use) → clashes (uses.Delta x) (so_often n v) ≡ clashes (uses.Delta x) v
    other n (uses.Symbol t l) = refl
    other n (uses.Dot t l) = refl
    other n (uses.Component m) = refl
    other n (uses.Delta m) = refl
    other n (uses.Function m) = refl
    other n (uses.Stretch a b) = refl
clashes_alike n (uses.Function x) v = other n v
  where
    other : (n : ℕ) (v : Use) → clashes (uses.Function x) (so_often n v) ≡ clashes (uses.Function x) v
    other n (uses.Symbol t l) = refl
    other n (uses.Dot t l) = refl
    other n (uses.Component m) = refl
    other n (uses.Delta m) = refl
    other n (uses.Function m) = refl
    other n (uses.Stretch a b) = refl
clashes_alike n (uses.Stretch x y) v = refl

any_alike : (n : ℕ) (u : Use) (us : List Use) → list_any (clashes (so_often n u)) (map (so_often n) us) ≡ list_any (clashes u) us
any_alike n u [] = refl
any_alike n u (v ∷ vs) = ap₂ ◌||◌ (clashes_alike n u v) (any_alike n u vs)

apart_alike : (n : ℕ) (us : List Use) → are_apart (map (so_often n) us) ≡ are_apart us
apart_alike n [] = refl
apart_alike n (u ∷ us) = ap₂ (λ a b. not a && b) (any_alike n u us) (apart_alike n us)

least_below : (n : ℕ) (ms : List ℕ) → least n ms ≤ n
least_below n [] = omega arith
least_below n (m ∷ ms) = min-le_left n (least m ms)

each_often : (t : Term) (n : ℕ) (us : List Use) → 0 < n → AllByRecursion (λ u. n ≤ times_at t u) us → AllByRecursion (FitsUse t) us → AllByRecursion (FitsUse t) (map (so_often n) us)
each_often t n [] some within h = tt
each_often t n (u ∷ us) some within h = (often_one t u n some within.0 h.0, each_often t n us some within.1 h.1)

all_below : (t : Term) (n : ℕ) (us : List Use) (k : ℕ) → n ≤ least k (map (times_at t) us) → AllByRecursion (λ u. n ≤ times_at t u) us
all_below t n [] k h = tt
all_below t n (u ∷ us) k h =
    let below : n ≤ least (times_at t u) (map (times_at t) us) = omega (arith, min-le_right k (least (times_at t u) (map (times_at t) us))) in
    (omega (arith, least_below (times_at t u) (map (times_at t) us)), all_below t n us (times_at t u) below)

times_below : (t : Term) (us : List Use) → AllByRecursion (λ u. fits_times t us ≤ times_at t u) us
times_below t [] = tt
times_below t (u ∷ us) = (least_below (times_at t u) (map (times_at t) us), all_below t (fits_times t (u ∷ us)) us (times_at t u) (omega arith))

-- a match can be taken as often as it fits
pub often_fits : (t : Term) (us : List Use) → 0 < fits_times t us → Fits us t → Fits (map (so_often (fits_times t us)) us) t
often_fits t us some h = record {
  apart = subst IsTrue (sym (apart_alike (fits_times t us) us)) h.apart;
  each = All-from_recursion (FitsUse t) (map (so_often (fits_times t us)) us)
      (each_often t (fits_times t us) us some (times_below t us) (recursion_from_All (FitsUse t) us h.each));
}

-- ---- so many times a power has room

product_within : (n a m : ℕ) → n ≤ a / m → n * m ≤ a
product_within n a zero h = omega arith
product_within n a (suc m) h = often_within n a m h

room : (e k : ℤ) (n : ℕ) → nat_abs e ≤ largest_exponent → n ≤ times_in e k → FitsSigned w64 (pos n *ℤ k)
room e k n small within =
    let size : nat_abs (pos n *ℤ k) ≡ n * nat_abs k = unsigned_abs-mul (pos n) k in
    let below : n * nat_abs k ≤ nat_abs e = product_within n (nat_abs e) (nat_abs k) within in
    fits_signed_from_abs w64 (pos n *ℤ k) (omega (arith, size, below, small))

exponent_small : (s : ℕ) (ps : List Power) → AllByRecursion (λ (p : Power). nat_abs p.exponent ≤ largest_exponent) ps → nat_abs (exponent_in ps s) ≤ largest_exponent
exponent_small s [] h = omega arith
exponent_small s (p ∷ ps) h = by (p.symbol == s) (exponent_small s ps h.1)
  where
    by : (b : Bool) → nat_abs (exponent_in ps s) ≤ largest_exponent → nat_abs (cond b p.exponent (exponent_in ps s)) ≤ largest_exponent
    by true rest = h.0
    by false rest = rest

dot_small : (ds : List DotPower) (m : ℕ) → AllByRecursion (λ (d : DotPower). nat_abs d.exponent ≤ largest_exponent) ds → nat_abs (dot_exponent (slice_get ds m)) ≤ largest_exponent
dot_small [] m h = omega arith
dot_small (d ∷ ds) zero h = h.0
dot_small (d ∷ ds) (suc m) h = dot_small ds m h.1

one_has_room : (t : Term) (n : ℕ) (u : Use) → IsTerm t → n ≤ times_at t u → HasRoom n u
one_has_room t n (uses.Symbol s k) lawful within =
    room (exponent_of t s) k n (exponent_small s t.symbols (recursion_from_All (λ (p : Power). nat_abs p.exponent ≤ largest_exponent) t.symbols lawful.in_range)) within
one_has_room t n (uses.Dot m k) lawful within =
    room (dot_exponent (slice_get t.others.dots m)) k n
    (dot_small t.others.dots m (recursion_from_All (λ (d : DotPower). nat_abs d.exponent ≤ largest_exponent) t.others.dots lawful.others.dots_in_range)) within
one_has_room t n (uses.Component m) lawful within = tt
one_has_room t n (uses.Delta m) lawful within = tt
one_has_room t n (uses.Function m) lawful within = tt
one_has_room t n (uses.Stretch a b) lawful within = tt

each_has_room : (t : Term) (n : ℕ) (us : List Use) → IsTerm t → AllByRecursion (λ u. n ≤ times_at t u) us → AllByRecursion (HasRoom n) us
each_has_room t n [] lawful h = tt
each_has_room t n (u ∷ us) lawful h = (one_has_room t n u lawful h.0, each_has_room t n us lawful h.1)

-- what is taken as often as it fits has room
pub often_has_room : (t : Term) (us : List Use) → IsTerm t → All (HasRoom (fits_times t us)) us
often_has_room t us lawful =
    All-from_recursion (HasRoom (fits_times t us)) us (each_has_room t (fits_times t us) us lawful (times_below t us))
