-- What a match leaves weighs less, where it removes something.
use Rattle.std.proofs.Common.{◌≡◌, ◌⊎◌, inl, inr, ℕ, zero, suc, ◌+◌, ◌<◌, ◌≤◌, ◌==◌, Bool, true, false, not, cond, ◌&&◌, ◌||◌, ℤ, pos, ◌+ℤ◌, ◌-ℤ◌, List, [], ◌∷◌, Option, Some, None, length, map, take, drop, get_or, refl, sym, ap, ap₂, subst, ◌∙◌, arith, length-append, length-take, length-drop, eqb-true, eq-eqb}
use Rattle.std.proofs.lemmas.Int.{ints}
use Rattle.std.specs.Prelude.{nat_abs, nat_lt, filter, slice_get, sum, IfSome}
use Rattle.std.specs.List.{list_all, list_any, enumerate_from, sum_by, AllByRecursion}
use Rattle.std.proofs.lemmas.List.Sums.{sum_by-cons, sum-map}
use Rattle.std.proofs.lemmas.List.Elements.{recursion_from_All}
use Rattle.form_term.specs.declared.power.Power.{Power}
use Rattle.form_term.specs.declared.power.DotPower.{DotPower}
use Rattle.form_term.specs.Term.{Term, Call, IsTerm, exponent_in, exponent_of}
use Rattle.form_match.specs.declared.uses.Use.{Use}
use Rattle.form_match.specs.declared.uses.Use.TheVariants as uses
use Rattle.form_match.specs.declared.matching.Match.{Match}
use Rattle.form_match.specs.Fits.{Fits, FitsExponent, FitsUse}
use Rattle.form_match.specs.Left.{left_of, taken, symbol_taken, dot_taken, takes_component, takes_delta, takes_function, untaken, powers_left, dots_left, word_left, without_stretch}
use Rattle.form_match.specs.Matching.{are_apart, clashes, fits}
use Rattle.form_match.specs.Taken.{FitsSymbols}
use Rattle.form_match.proofs.Portions.{apart_is, both_true, both_false, not_true}
use Rattle.form_match.proofs.Remaining.{dots_from, dots_fit, symbols_fit, untaken_from, untaken_length}
use Rattle.form_rewrite.specs.Taking.{is_idle, is_idle_use, weight}

some : (n : ℕ) → (n == 0) ≡ false → 0 < n
some zero e = cc
some (suc n) e = omega arith

-- ---- a use among uses

abbrev IsIn : Use → List Use → Type 0
IsIn u [] = ⊥
IsIn u (v ∷ vs) = (u ≡ v) ⊎ IsIn u vs

or_true : (a b : Bool) → b ≡ true → (a || b) ≡ true
or_true true b e = refl
or_true false b e = e

any_in : (test : Use → Bool) (u : Use) (us : List Use) → test u ≡ true → IsIn u us → list_any test us ≡ true
any_in test u [] passes h = absurd h
any_in test u (v ∷ vs) passes (inl e) = ap (λ (b : Bool). b || list_any test vs) (ap test (sym e) ∙ passes)
any_in test u (v ∷ vs) passes (inr h) = or_true (test v) (list_any test vs) (any_in test u vs passes h)

none_in : (test : Use → Bool) (u : Use) (us : List Use) → list_any test us ≡ false → IsIn u us → test u ≡ false
none_in test u [] no_one h = absurd h
none_in test u (v ∷ vs) no_one (inl e) = ap test e ∙ (both_false (test v) (list_any test vs) no_one).0
none_in test u (v ∷ vs) no_one (inr h) = none_in test u vs (both_false (test v) (list_any test vs) no_one).1 h

each_in : (P : Use → Type 0) (u : Use) (us : List Use) → AllByRecursion P us → IsIn u us → P u
each_in P u [] all h = absurd h
each_in P u (v ∷ vs) all (inl e) = subst P (sym e) all.0
each_in P u (v ∷ vs) all (inr h) = each_in P u vs all.1 h

-- one that removes something
not_idle : (us : List Use) → list_all is_idle_use us ≡ false → (u : Use) × IsIn u us × (is_idle_use u ≡ false)
not_idle [] h = cc
not_idle (v ∷ vs) h = by (is_idle_use v) refl (not_idle vs) h
  where
    by : (b : Bool) → is_idle_use v ≡ b → (list_all is_idle_use vs ≡ false → (u : Use) × IsIn u vs × (is_idle_use u ≡ false))
        → (b && list_all is_idle_use vs) ≡ false → (u : Use) × IsIn u (v ∷ vs) × (is_idle_use u ≡ false)
    by false e rest k = (v, inl refl, e)
    by true e rest k = let r = rest k in (r.0, inr r.1, r.2)

-- ---- what is taken of a thing is what the one use of it takes

zero_left : (z : ℤ) → pos 0 +ℤ z ≡ z
zero_left z = omega (arith, ints)

zero_right : (z : ℤ) → z +ℤ pos 0 ≡ z
zero_right z = omega (arith, ints)

module _ (of_use : Use → ℤ) (u : Use) (before : (v : Use) → clashes v u ≡ false → of_use v ≡ pos 0) (after : (v : Use) → clashes u v ≡ false → of_use v ≡ pos 0) where
  none_taken : (us : List Use) → list_any (clashes u) us ≡ false → taken of_use us ≡ pos 0
  none_taken [] h = refl
  none_taken (v ∷ vs) h = let b = both_false (clashes u v) (list_any (clashes u) vs) h in ap₂ ◌+ℤ◌ (after v b.0) (none_taken vs b.1)

  one_taken : (us : List Use) → are_apart us ≡ true → IsIn u us → taken of_use us ≡ of_use u
  one_taken [] apart h = absurd h
  one_taken (v ∷ vs) apart (inl e) =
      let b = both_true (not (list_any (clashes v) vs)) (are_apart vs) apart in
      let others : list_any (clashes u) vs ≡ false = ap (λ (x : Use). list_any (clashes x) vs) e ∙ not_true (list_any (clashes v) vs) b.0 in
      ap₂ ◌+ℤ◌ (ap of_use (sym e)) (none_taken vs others) ∙ zero_right (of_use u)
  one_taken (v ∷ vs) apart (inr h) =
      let b = both_true (not (list_any (clashes v) vs)) (are_apart vs) apart in
      let away : clashes v u ≡ false = none_in (clashes v) u vs (not_true (list_any (clashes v) vs) b.0) h in
      ap₂ ◌+ℤ◌ (before v away) (one_taken vs b.1 h) ∙ zero_left (of_use u)

turned : (a b : ℕ) → (a == b) ≡ false → (b == a) ≡ false
turned a b e = by (b == a) refl
  where
    by : (c : Bool) → (b == a) ≡ c → c ≡ false
    by false k = refl
    by true k = let same = eq-eqb a b (sym (eqb-true b a k)) in cc

symbol_before : (s : ℕ) (k : ℤ) (v : Use) → clashes v (uses.Symbol s k) ≡ false → symbol_taken s v ≡ pos 0
symbol_before s k (uses.Symbol r l) e = ap (λ (b : Bool). cond b l (pos 0)) (turned r s e)
symbol_before s k (uses.Dot m l) e = refl
symbol_before s k (uses.Component m) e = refl
symbol_before s k (uses.Delta m) e = refl
symbol_before s k (uses.Function m) e = refl
symbol_before s k (uses.Stretch start n) e = refl

symbol_after : (s : ℕ) (k : ℤ) (v : Use) → clashes (uses.Symbol s k) v ≡ false → symbol_taken s v ≡ pos 0
symbol_after s k (uses.Symbol r l) e = ap (λ (b : Bool). cond b l (pos 0)) e
symbol_after s k (uses.Dot m l) e = refl
symbol_after s k (uses.Component m) e = refl
symbol_after s k (uses.Delta m) e = refl
symbol_after s k (uses.Function m) e = refl
symbol_after s k (uses.Stretch start n) e = refl

dot_before : (m : ℕ) (k : ℤ) (v : Use) → clashes v (uses.Dot m k) ≡ false → dot_taken m v ≡ pos 0
dot_before m k (uses.Dot n l) e = ap (λ (b : Bool). cond b l (pos 0)) (turned n m e)
dot_before m k (uses.Symbol s l) e = refl
dot_before m k (uses.Component n) e = refl
dot_before m k (uses.Delta n) e = refl
dot_before m k (uses.Function n) e = refl
dot_before m k (uses.Stretch start n) e = refl

dot_after : (m : ℕ) (k : ℤ) (v : Use) → clashes (uses.Dot m k) v ≡ false → dot_taken m v ≡ pos 0
dot_after m k (uses.Dot n l) e = ap (λ (b : Bool). cond b l (pos 0)) e
dot_after m k (uses.Symbol s l) e = refl
dot_after m k (uses.Component n) e = refl
dot_after m k (uses.Delta n) e = refl
dot_after m k (uses.Function n) e = refl
dot_after m k (uses.Stretch start n) e = refl

symbol_is : (s : ℕ) (k : ℤ) (us : List Use) → are_apart us ≡ true → IsIn (uses.Symbol s k) us → taken (symbol_taken s) us ≡ k
symbol_is s k us apart h =
    one_taken (symbol_taken s) (uses.Symbol s k) (symbol_before s k) (symbol_after s k) us apart h ∙ ap (λ (b : Bool). cond b k (pos 0)) (eq-eqb s s refl)

dot_is : (m : ℕ) (k : ℤ) (us : List Use) → are_apart us ≡ true → IsIn (uses.Dot m k) us → taken (dot_taken m) us ≡ k
dot_is m k us apart h =
    one_taken (dot_taken m) (uses.Dot m k) (dot_before m k) (dot_after m k) us apart h ∙ ap (λ (b : Bool). cond b k (pos 0)) (eq-eqb m m refl)

-- ---- exponents

leaves : (e k : ℤ) → FitsExponent e k → nat_abs (e -ℤ k) + nat_abs k ≡ nat_abs e
leaves e k h = grind (arith, ints)

abbrev of_power : Power → ℕ
of_power p = nat_abs p.exponent

abbrev lowered : List Use → Power → Power
lowered us p = record { symbol = p.symbol; exponent = p.exponent -ℤ taken (symbol_taken p.symbol) us }

left_or : (P : List Power → Type 0) (us : List Use) (p : Power) (ps : List Power) → P (powers_left us ps) → P (lowered us p ∷ powers_left us ps) → P (powers_left us (p ∷ ps))
left_or P us p ps without with_it = by (nat_lt 0 (nat_abs (p.exponent -ℤ taken (symbol_taken p.symbol) us)))
  where
    by : (b : Bool) → P (cond b (lowered us p ∷ powers_left us ps) (powers_left us ps))
    by true = with_it
    by false = without

powers_weigh : (us : List Use) (ps : List Power) → FitsSymbols us ps → sum_by of_power (powers_left us ps) ≤ sum_by of_power ps
powers_weigh us [] f = omega arith
powers_weigh us (p ∷ ps) f =
    let rest = powers_weigh us ps (λ i q within is. f (suc i) q (omega arith) is) in
    let here = leaves p.exponent (taken (symbol_taken p.symbol) us) (f 0 p (omega arith) refl) in
    left_or (λ (qs : List Power). sum_by of_power qs ≤ sum_by of_power (p ∷ ps)) us p ps
    (omega (arith, rest, sum_by-cons of_power p ps)) (omega (arith, rest, here, sum_by-cons of_power p ps, sum_by-cons of_power (lowered us p) (powers_left us ps)))

powers_lighter : (us : List Use) (ps : List Power) (s : ℕ) → FitsSymbols us ps → 0 < nat_abs (exponent_in ps s) → 0 < nat_abs (taken (symbol_taken s) us)
    → sum_by of_power (powers_left us ps) < sum_by of_power ps
powers_lighter us [] s f there takes = absurd (omega arith)
powers_lighter us (p ∷ ps) s f there takes = by (p.symbol == s) refl there (λ below. powers_lighter us ps s later below takes)
  where
    later : FitsSymbols us ps
    later i q within is = f (suc i) q (omega arith) is

    by : (b : Bool) → (p.symbol == s) ≡ b → 0 < nat_abs (cond b p.exponent (exponent_in ps s))
        → (0 < nat_abs (exponent_in ps s) → sum_by of_power (powers_left us ps) < sum_by of_power ps)
        → sum_by of_power (powers_left us (p ∷ ps)) < sum_by of_power (p ∷ ps)
    by true e found rest =
        let takes_it : 0 < nat_abs (taken (symbol_taken p.symbol) us) = subst (λ (n : ℕ). 0 < nat_abs (taken (symbol_taken n) us)) (sym (eqb-true p.symbol s e)) takes in
        let others = powers_weigh us ps later in
        let here = leaves p.exponent (taken (symbol_taken p.symbol) us) (f 0 p (omega arith) refl) in
        left_or (λ (qs : List Power). sum_by of_power qs < sum_by of_power (p ∷ ps)) us p ps
        (omega (arith, others, here, takes_it, sum_by-cons of_power p ps))
        (omega (arith, others, here, takes_it, sum_by-cons of_power p ps, sum_by-cons of_power (lowered us p) (powers_left us ps)))
    by false e found rest =
        let others = rest found in
        let here = leaves p.exponent (taken (symbol_taken p.symbol) us) (f 0 p (omega arith) refl) in
        left_or (λ (qs : List Power). sum_by of_power qs < sum_by of_power (p ∷ ps)) us p ps
        (omega (arith, others, here, sum_by-cons of_power p ps))
        (omega (arith, others, here, sum_by-cons of_power p ps, sum_by-cons of_power (lowered us p) (powers_left us ps)))

-- ---- dot products

abbrev of_dot : DotPower → ℕ
of_dot d = nat_abs d.exponent

abbrev lowered_dot : ℕ → List Use → DotPower → DotPower
lowered_dot n us d = record { left = d.left; right = d.right; exponent = d.exponent -ℤ taken (dot_taken n) us }

dots_or : (P : List DotPower → Type 0) (n : ℕ) (us : List Use) (d : DotPower) (ds : List DotPower)
    → P (dots_from (n + 1) us ds) → P (lowered_dot n us d ∷ dots_from (n + 1) us ds) → P (dots_from n us (d ∷ ds))
dots_or P n us d ds without with_it = by (nat_lt 0 (nat_abs (d.exponent -ℤ taken (dot_taken n) us)))
  where
    by : (b : Bool) → P (cond b (lowered_dot n us d ∷ dots_from (n + 1) us ds) (dots_from (n + 1) us ds))
    by true = with_it
    by false = without

abbrev FitsFrom : ℕ → List Use → List DotPower → Type 0
FitsFrom n us ds = (i : ℕ) (d : DotPower) → i < length ds → d ≡ get_or ds i d → FitsExponent d.exponent (taken (dot_taken (n + i)) us)

fits_later : (n : ℕ) (us : List Use) (d : DotPower) (ds : List DotPower) → FitsFrom n us (d ∷ ds) → FitsFrom (n + 1) us ds
fits_later n us d ds f i e within is =
    let same : n + suc i ≡ n + 1 + i = omega arith in
    subst (λ (m : ℕ). FitsExponent e.exponent (taken (dot_taken m) us)) same (f (suc i) e (omega arith) is)

fits_here : (n : ℕ) (us : List Use) (d : DotPower) (ds : List DotPower) → FitsFrom n us (d ∷ ds) → nat_abs (d.exponent -ℤ taken (dot_taken n) us) + nat_abs (taken (dot_taken n) us) ≡ nat_abs d.exponent
fits_here n us d ds f =
    let same : n + 0 ≡ n = omega arith in
    leaves d.exponent (taken (dot_taken n) us) (subst (λ (m : ℕ). FitsExponent d.exponent (taken (dot_taken m) us)) same (f 0 d (omega arith) refl))

dots_weigh : (n : ℕ) (us : List Use) (ds : List DotPower) → FitsFrom n us ds → sum_by of_dot (dots_from n us ds) ≤ sum_by of_dot ds
dots_weigh n us [] f = omega arith
dots_weigh n us (d ∷ ds) f =
    let rest = dots_weigh (n + 1) us ds (fits_later n us d ds f) in
    let here = fits_here n us d ds f in
    dots_or (λ (es : List DotPower). sum_by of_dot es ≤ sum_by of_dot (d ∷ ds)) n us d ds
    (omega (arith, rest, sum_by-cons of_dot d ds)) (omega (arith, rest, here, sum_by-cons of_dot d ds, sum_by-cons of_dot (lowered_dot n us d) (dots_from (n + 1) us ds)))

dots_lighter : (n : ℕ) (us : List Use) (ds : List DotPower) (m : ℕ) → FitsFrom n us ds → m < length ds → 0 < nat_abs (taken (dot_taken (n + m)) us)
    → sum_by of_dot (dots_from n us ds) < sum_by of_dot ds
dots_lighter n us [] m f within takes = absurd (omega arith)
dots_lighter n us (d ∷ ds) zero f within takes =
    let same : n + 0 ≡ n = omega arith in
    let takes_it : 0 < nat_abs (taken (dot_taken n) us) = subst (λ (m : ℕ). 0 < nat_abs (taken (dot_taken m) us)) same takes in
    let rest = dots_weigh (n + 1) us ds (fits_later n us d ds f) in
    let here = fits_here n us d ds f in
    dots_or (λ (es : List DotPower). sum_by of_dot es < sum_by of_dot (d ∷ ds)) n us d ds
    (omega (arith, rest, here, takes_it, sum_by-cons of_dot d ds))
    (omega (arith, rest, here, takes_it, sum_by-cons of_dot d ds, sum_by-cons of_dot (lowered_dot n us d) (dots_from (n + 1) us ds)))
dots_lighter n us (d ∷ ds) (suc m) f within takes =
    let same : n + suc m ≡ n + 1 + m = omega arith in
    let rest = dots_lighter (n + 1) us ds m (fits_later n us d ds f) (omega arith) (subst (λ (j : ℕ). 0 < nat_abs (taken (dot_taken j) us)) same takes) in
    let here = fits_here n us d ds f in
    dots_or (λ (es : List DotPower). sum_by of_dot es < sum_by of_dot (d ∷ ds)) n us d ds
    (omega (arith, rest, here, sum_by-cons of_dot d ds))
    (omega (arith, rest, here, sum_by-cons of_dot d ds, sum_by-cons of_dot (lowered_dot n us d) (dots_from (n + 1) us ds)))

-- ---- things at places

untaken_fewer : {A : Type 0} (takes : ℕ → Use → Bool) (us : List Use) (n : ℕ) (xs : List A) (m : ℕ) → m < length xs → list_any (takes (n + m)) us ≡ true
    → length (untaken_from n takes us xs) < length xs
untaken_fewer {A} takes us n [] m within is = absurd (omega arith)
untaken_fewer {A} takes us n (x ∷ xs) zero within is =
    let same : n + 0 ≡ n = omega arith in
    by (list_any (takes n) us) (subst (λ (j : ℕ). list_any (takes j) us ≡ true) same is) (untaken_length takes us (n + 1) xs)
  where
    by : (b : Bool) → b ≡ true → length (untaken_from (n + 1) takes us xs) ≤ length xs
        → length (map (λ (e : ℕ × A). e.1) (cond (not b) ((n, x) ∷ filter (λ e. not (list_any (takes e.0) us)) (enumerate_from (n + 1) xs)) (filter (λ e. not (list_any (takes e.0) us)) (enumerate_from (n + 1) xs)))) < suc (length xs)
    by true e rest = omega (arith, rest)
    by false e rest = cc
untaken_fewer {A} takes us n (x ∷ xs) (suc m) within is =
    let same : n + suc m ≡ n + 1 + m = omega arith in
    by (list_any (takes n) us) (untaken_fewer takes us (n + 1) xs m (omega arith) (subst (λ (j : ℕ). list_any (takes j) us ≡ true) same is))
  where
    by : (b : Bool) → length (untaken_from (n + 1) takes us xs) < length xs
        → length (map (λ (e : ℕ × A). e.1) (cond (not b) ((n, x) ∷ filter (λ e. not (list_any (takes e.0) us)) (enumerate_from (n + 1) xs)) (filter (λ e. not (list_any (takes e.0) us)) (enumerate_from (n + 1) xs)))) < suc (length xs)
    by true rest = omega (arith, rest)
    by false rest = omega (arith, rest)

-- ---- the word

without_no_longer : (u : Use) (w : List Call) → length (without_stretch u w) ≤ length w
without_no_longer (uses.Symbol r k) w = omega arith
without_no_longer (uses.Dot n k) w = omega arith
without_no_longer (uses.Component n) w = omega arith
without_no_longer (uses.Delta n) w = omega arith
without_no_longer (uses.Function n) w = omega arith
without_no_longer (uses.Stretch start n) w = omega (arith, length-append (take start w) (drop (start + n) w), length-take start w, length-drop (start + n) w)

word_no_longer : (us : List Use) (w : List Call) → length (word_left us w) ≤ length w
word_no_longer [] w = omega arith
word_no_longer (u ∷ us) w = omega (arith, word_no_longer us (without_stretch u w), without_no_longer u w)

word_shorter : (most start n : ℕ) (us : List Use) (w : List Call) → length w ≤ most → start + n ≤ most → 0 < n → IsIn (uses.Stretch start n) us → length (word_left us w) < most
word_shorter most start n [] w within fit takes h = absurd h
word_shorter most start n (u ∷ us) w within fit takes (inl e) =
    let here : length (without_stretch u w) < most
    = subst (λ (v : Use). length (without_stretch v w) < most) e (omega (arith, length-append (take start w) (drop (start + n) w), length-take start w, length-drop (start + n) w)) in
    omega (arith, here, word_no_longer us (without_stretch u w))
word_shorter most start n (u ∷ us) w within fit takes (inr h) =
    word_shorter most start n us (without_stretch u w) (omega (arith, without_no_longer u w)) fit takes h

-- ---- all of it

fits_first : (t : Term) (us : List Use) → Fits us t → FitsFrom 0 us t.others.dots
fits_first t us f i d within is =
    let same : 0 + i ≡ i = omega arith in
    subst (λ (m : ℕ). FitsExponent d.exponent (taken (dot_taken m) us)) (sym same) (dots_fit t us f i d within is)

present : (e k : ℤ) → (nat_abs k == 0) ≡ false → FitsExponent e k → (0 < nat_abs e) × (0 < nat_abs k)
present e k active h = let takes = some (nat_abs k) active in (omega (arith, takes, leaves e k h), takes)

from_zero : (m : ℕ) → m ≡ 0 + m
from_zero m = omega arith

-- what is taken of a dot product isn't nothing
not_nothing : (k : ℤ) (o : Option DotPower) → IfSome o (λ d. fits false d.exponent k ≡ true) → (m : ℕ) (ds : List DotPower) → o ≡ slice_get ds m → m < length ds → 0 < nat_abs k
not_nothing k None h m [] is within = absurd (omega arith)
not_nothing k None h (suc m) (d ∷ ds) is within = not_nothing k None h m ds is (omega arith)
not_nothing k None h zero (d ∷ ds) is within = cc
not_nothing k (Some d) h m ds is within = by (nat_abs k == 0) refl h
  where
    by : (b : Bool) → (nat_abs k == 0) ≡ b → fits false d.exponent k ≡ true → 0 < nat_abs k
    by true e g = cc
    by false e g = some (nat_abs k) e

dot_takes : (t : Term) (m : ℕ) (k : ℤ) → FitsUse t (uses.Dot m k) → 0 < nat_abs k
dot_takes t m k fit = not_nothing k (slice_get t.others.dots m) fit.1 m t.others.dots refl fit.0

module _ (t : Term) (us : List Use) (lawful : IsTerm t) (f : Fits us t) where
  powers : sum (map of_power (powers_left us t.symbols)) ≤ sum (map of_power t.symbols)
  powers = omega (arith, powers_weigh us t.symbols (symbols_fit t us lawful f), sum-map of_power t.symbols, sum-map of_power (powers_left us t.symbols))

  dots : sum (map of_dot (dots_left us t.others.dots)) ≤ sum (map of_dot t.others.dots)
  dots = omega (arith, dots_weigh 0 us t.others.dots (fits_first t us f), sum-map of_dot t.others.dots, sum-map of_dot (dots_left us t.others.dots))

  components : length (untaken takes_component us t.others.components) ≤ length t.others.components
  components = untaken_length takes_component us 0 t.others.components

  deltas : length (untaken takes_delta us t.others.deltas) ≤ length t.others.deltas
  deltas = untaken_length takes_delta us 0 t.others.deltas

  functions : length (untaken takes_function us t.others.functions) ≤ length t.others.functions
  functions = untaken_length takes_function us 0 t.others.functions

  word : length (word_left us t.others.word) ≤ length t.others.word
  word = word_no_longer us t.others.word

  lighter_by : (u : Use) → IsIn u us → FitsUse t u → is_idle_use u ≡ false → weight (left_of t us) < weight t
  unfolding left_of
  lighter_by (uses.Symbol s k) h fit active =
      let there = present (exponent_of t s) k active fit in
      let takes : 0 < nat_abs (taken (symbol_taken s) us) = subst (λ (z : ℤ). 0 < nat_abs z) (sym (symbol_is s k us (apart_is f.apart) h)) there.1 in
      let less = powers_lighter us t.symbols s (symbols_fit t us lawful f) there.0 takes in
      omega (arith, less, sum-map of_power t.symbols, sum-map of_power (powers_left us t.symbols), dots, components, deltas, functions, word)
  lighter_by (uses.Dot m k) h fit active =
      let takes : 0 < nat_abs (taken (dot_taken m) us) = subst (λ (z : ℤ). 0 < nat_abs z) (sym (dot_is m k us (apart_is f.apart) h)) (dot_takes t m k fit) in
      let less = dots_lighter 0 us t.others.dots m (fits_first t us f) fit.0 (subst (λ (j : ℕ). 0 < nat_abs (taken (dot_taken j) us)) (from_zero m) takes) in
      omega (arith, less, sum-map of_dot t.others.dots, sum-map of_dot (dots_left us t.others.dots), powers, components, deltas, functions, word)
  lighter_by (uses.Component m) h fit active =
      let less = untaken_fewer takes_component us 0 t.others.components m fit (any_in (takes_component (0 + m)) (uses.Component m) us (eq-eqb (0 + m) m (sym (from_zero m))) h) in
      omega (arith, less, powers, dots, deltas, functions, word)
  lighter_by (uses.Delta m) h fit active =
      let less = untaken_fewer takes_delta us 0 t.others.deltas m fit (any_in (takes_delta (0 + m)) (uses.Delta m) us (eq-eqb (0 + m) m (sym (from_zero m))) h) in
      omega (arith, less, powers, dots, components, functions, word)
  lighter_by (uses.Function m) h fit active =
      let less = untaken_fewer takes_function us 0 t.others.functions m fit (any_in (takes_function (0 + m)) (uses.Function m) us (eq-eqb (0 + m) m (sym (from_zero m))) h) in
      omega (arith, less, powers, dots, components, deltas, word)
  lighter_by (uses.Stretch start n) h fit active =
      let less = word_shorter (length t.others.word) start n us t.others.word (omega arith) fit (some n active) h in
      omega (arith, less, powers, dots, components, deltas, functions)

-- what a match leaves weighs less, where it removes something
pub lighter : (m : Match) (t : Term) → IsTerm t → Fits m.takes t → is_idle m ≡ false → weight (left_of t m.takes) < weight t
lighter m t lawful f active =
    let one = not_idle m.takes active in
    let fit = each_in (FitsUse t) one.0 m.takes (recursion_from_All (FitsUse t) m.takes f.each) one.1 in
    lighter_by t m.takes lawful f one.0 one.1 fit one.2
