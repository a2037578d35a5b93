-- What is left of a term, element by element, and that it is a term.
use Rattle.std.proofs.Common.{◌≡◌, inl, inr, ℕ, zero, suc, ◌+◌, ◌<◌, ◌≤◌, ◌==◌, max, Bool, true, false, not, cond, ℤ, pos, ◌-ℤ◌, List, [], ◌∷◌, ◌++◌, Option, Some, None, IfSome, length, map, take, drop, get_or, refl, sym, ap, subst, ◌∙◌, append_assoc, arith, eqb-true, eq-eqb}
use Rattle.std.proofs.lemmas.Int.{ints}
use Rattle.std.specs.Prelude.{All, nat_abs, nat_lt, filter, slice_get}
use Rattle.std.specs.List.{list_any, enumerate_from, sum_by, AllByRecursion}
use Rattle.std.specs.List.Sorted.{IsStrictlySortedBy}
use Rattle.std.specs.Ordering.{is_gt}
use Rattle.std.specs.declared.cmp.Ordering.{Ordering}
use Rattle.std.specs.declared.cmp.Ordering.TheVariants.{Less}
use Rattle.std.specs.Option.{unwrap_or}
use Rattle.std.proofs.lemmas.Bool.{ltb-true, ne_eqb}
use Rattle.std.proofs.lemmas.Option.{slice_get-get_or}
use Rattle.std.proofs.lemmas.List.{drop_more, length-append, length-drop, length-take, nil_from_length}
use Rattle.std.proofs.lemmas.List.Sums.{sum_by-cons, sum-map}
use Rattle.std.proofs.lemmas.List.Elements.{All-append, All-take, All-drop, All-head, All-tail, All-weaker, filter_passes, All-from_recursion, recursion_from_All}
use Rattle.form_term.specs.declared.power.Power.{Power}
use Rattle.form_term.specs.declared.power.DotPower.{DotPower}
use Rattle.form_term.specs.declared.index.Delta.{Delta}
use Rattle.form_term.specs.Pieces.{deepest}
use Rattle.form_term.specs.Term.{Term, Others, Call, IsTerm, IsCall, AreFactors, RiseFrom, RisesBy, exponent_in, exponent_of, pair_order, index_order, component_order, delta_order, call_order, size, depth, size_of_call, depth_of_calls, largest_exponent}
use Rattle.form_term.specs.PowerLaws.{rise_lower}
use Rattle.form_term.specs.Terms.{term}
use Rattle.form_match.specs.declared.uses.Use.{Use}
use Rattle.form_match.specs.declared.uses.Use.TheVariants as uses
use Rattle.form_match.specs.Fits.{Fits, FitsExponent, FitsUse}
use Rattle.form_match.specs.Left.{left_of, taken, symbol_taken, dot_taken, takes_component, takes_delta, takes_function, untaken, powers_left, dots_left, word_left, without_stretch}
use Rattle.form_match.specs.Matching.{fits}
use Rattle.form_match.specs.Taken.{FitsDots, FitsSymbols, IsOfFunctions, first_part, rest_left, symbol_part, dot_part, present_dot, present_power, unless}
use Rattle.form_match.proofs.Backwards.{exchanged, one_back, seen, standing}
use Rattle.form_match.proofs.Portions.{apart_is, symbol_first, dot_first}

-- ---- element by element

filter_first : {A : Type 0} (test : A → Bool) (x : A) (xs : List A) → filter test (x ∷ []) ++ filter test xs ≡ filter test (x ∷ xs)
filter_first {A} test x xs = by (test x)
  where
    by : (b : Bool) → cond b (x ∷ []) [] ++ filter test xs ≡ cond b (x ∷ filter test xs) (filter test xs)
    by true = refl
    by false = refl

-- what is put last is what the element leaves, and the others follow
put_step : {A : Type 0} (left here rest next whole : List A) → left ++ next ≡ whole → here ++ rest ≡ next → (left ++ here) ++ rest ≡ whole
put_step left here rest next whole before e = append_assoc left here rest ∙ ap (λ (l : List _). left ++ l) e ∙ before

abbrev lowered : List Use → Power → Power
lowered us p = record { symbol = p.symbol; exponent = p.exponent -ℤ taken (symbol_taken p.symbol) us }

-- what a power leaves, and those behind it
powers_here : (us : List Use) (ps : List Power) (i : ℕ) (p : Power) → i < length ps → p ≡ get_or ps i p
    → present_power (lowered us p) ++ powers_left us (drop (i + 1) ps) ≡ powers_left us (drop i ps)
powers_here us ps i p within is =
    filter_first (λ (q : Power). nat_lt 0 (nat_abs q.exponent)) (lowered us p) (map (lowered us) (drop (i + 1) ps))
    ∙ ap (powers_left us) (ap (λ (q : Power). q ∷ drop (i + 1) ps) is ∙ sym (drop_more ps i p within))

pub powers_back : (us : List Use) (ps left new : List Power) (m k : ℕ) (p made : Power) → m ≡ k + 1 → k < length ps → left ≡ take m ps ++ powers_left us (drop m ps)
    → p ≡ get_or left k p → made ≡ record { symbol = p.symbol; exponent = p.exponent -ℤ taken (symbol_taken p.symbol) us }
    → new ≡ take k left ++ (present_power made ++ drop (k + 1) left)
    → new ≡ take k ps ++ powers_left us (drop k ps)
powers_back us ps left new m k p made one within before is low put =
    let rest = powers_left us (drop m ps) in
    let there : p ≡ get_or ps k p = is ∙ seen ps left rest m k one within before p in
    put
    ∙ exchanged ps left rest m k one within before (present_power made) p
    ∙ ap (λ (q : Power). take k ps ++ (present_power q ++ rest)) low
    ∙ ap (λ (n : ℕ). take k ps ++ (present_power (lowered us p) ++ powers_left us (drop n ps))) one
    ∙ ap (λ (l : List Power). take k ps ++ l) (powers_here us ps k p within there)

-- those of dot products from a place on
abbrev pub dots_from : ℕ → List Use → List DotPower → List DotPower
dots_from n us ds =
    filter (λ d. nat_lt 0 (nat_abs d.exponent)) (map (λ e. record { left = e.1.left; right = e.1.right; exponent = e.1.exponent -ℤ taken (dot_taken e.0) us }) (enumerate_from n ds))

dots_more : (n : ℕ) (us : List Use) (d : DotPower) (ds : List DotPower)
    → dots_from n us (d ∷ ds) ≡ present_dot (record { left = d.left; right = d.right; exponent = d.exponent -ℤ taken (dot_taken n) us }) ++ dots_from (n + 1) us ds
dots_more n us d ds =
    sym (filter_first (λ (q : DotPower). nat_lt 0 (nat_abs q.exponent)) (record { left = d.left; right = d.right; exponent = d.exponent -ℤ taken (dot_taken n) us })
    (map (λ e. record { left = e.1.left; right = e.1.right; exponent = e.1.exponent -ℤ taken (dot_taken e.0) us }) (enumerate_from (n + 1) ds)))

pub dots_step : (us : List Use) (ds left : List DotPower) (n i : ℕ) (d made : DotPower) → n ≡ i → i < length ds → d ≡ get_or ds i d
    → made ≡ record { left = d.left; right = d.right; exponent = d.exponent -ℤ taken (dot_taken n) us }
    → left ++ dots_from n us (drop i ds) ≡ dots_left us ds
    → (left ++ present_dot made) ++ dots_from (n + 1) us (drop (i + 1) ds) ≡ dots_left us ds
dots_step us ds left n i d made at within is lowered before =
    put_step left (present_dot made) (dots_from (n + 1) us (drop (i + 1) ds)) (dots_from n us (drop i ds)) (dots_left us ds) before
    (ap (λ (m : DotPower). present_dot m ++ dots_from (n + 1) us (drop (i + 1) ds)) lowered
    ∙ sym (dots_more n us d (drop (i + 1) ds))
    ∙ ap (dots_from n us) (ap (λ (q : DotPower). q ∷ drop (i + 1) ds) is ∙ sym (drop_more ds i d within)))

-- the elements that aren't taken, from a place on
abbrev pub untaken_from : {A : Type 0} → ℕ → (ℕ → Use → Bool) → List Use → List A → List A
untaken_from n takes us xs = map (λ e. e.1) (filter (λ e. not (list_any (takes e.0) us)) (enumerate_from n xs))

module _ {A : Type 0} (takes : ℕ → Use → Bool) (us : List Use) where
  pub untaken_more : (n : ℕ) (x : A) (xs : List A) → untaken_from n takes us (x ∷ xs) ≡ unless (list_any (takes n) us) x ++ untaken_from (n + 1) takes us xs
  untaken_more n x xs = by (list_any (takes n) us) (filter (λ (e : ℕ × A). not (list_any (takes e.0) us)) (enumerate_from (n + 1) xs))
    where
      by : (b : Bool) (rest : List (ℕ × A)) → map (λ e. e.1) (cond (not b) ((n, x) ∷ rest) rest) ≡ unless b x ++ map (λ e. e.1) rest
      by true rest = refl
      by false rest = refl

  -- they are gone through from the last one, and those that are taken go
  untaken_here : (xs : List A) (k : ℕ) (x : A) (b : Bool) → k < length xs → x ≡ get_or xs k x → b ≡ list_any (takes k) us
      → unless b x ++ untaken_from (k + 1) takes us (drop (k + 1) xs) ≡ untaken_from k takes us (drop k xs)
  untaken_here xs k x b within is test =
      ap (λ (t : Bool). unless t x ++ untaken_from (k + 1) takes us (drop (k + 1) xs)) test
      ∙ sym (untaken_more k x (drop (k + 1) xs))
      ∙ ap (untaken_from k takes us) (ap (λ (q : A). q ∷ drop (k + 1) xs) is ∙ sym (drop_more xs k x within))

  module _ (xs left : List A) (m k : ℕ) (one : m ≡ k + 1) (within : k < length xs) (before : left ≡ take m xs ++ untaken_from m takes us (drop m xs)) where
    rest_is : untaken_from m takes us (drop m xs) ≡ untaken_from (k + 1) takes us (drop (k + 1) xs)
    rest_is = ap (λ (n : ℕ). untaken_from n takes us (drop n xs)) one

    pub kept_back : false ≡ list_any (takes k) us → left ≡ take k xs ++ untaken_from k takes us (drop k xs)
    kept_back test =
        let rest = untaken_from m takes us (drop m xs) in
        let there = standing xs k within in
        one_back xs left rest m k one within before there.0
        ∙ ap (λ (y : A). take k xs ++ y ∷ rest) (sym there.1)
        ∙ ap (λ (l : List A). take k xs ++ there.0 ∷ l) rest_is
        ∙ ap (λ (l : List A). take k xs ++ l) (untaken_here xs k there.0 false within there.1 test)

  -- ---- what holds of all holds of those that stay

  unless_or : (P : List A → Type 0) (b : Bool) (x : A) (rest : List A) → P rest → P (x ∷ rest) → P (unless b x ++ rest)
  unless_or P true x rest without with_it = without
  unless_or P false x rest without with_it = with_it

  stays : (P : List A → Type 0) (n : ℕ) (x : A) (xs : List A) → P (untaken_from (n + 1) takes us xs) → P (x ∷ untaken_from (n + 1) takes us xs) → P (untaken_from n takes us (x ∷ xs))
  stays P n x xs without with_it = subst P (sym (untaken_more n x xs)) (unless_or P (list_any (takes n) us) x (untaken_from (n + 1) takes us xs) without with_it)

  untaken_all : (P : A → Type 0) (n : ℕ) (xs : List A) → AllByRecursion P xs → AllByRecursion P (untaken_from n takes us xs)
  untaken_all P n [] h = tt
  untaken_all P n (x ∷ xs) h = let rest = untaken_all P (n + 1) xs h.1 in stays (AllByRecursion P) n x xs rest (h.0, rest)

  pub untaken_each : (P : A → Type 0) (xs : List A) → All P xs → All P (untaken takes us xs)
  untaken_each P xs h = All-from_recursion P (untaken takes us xs) (untaken_all P 0 xs (recursion_from_All P xs h))

  pub untaken_rise : (cmp : A → A → Ordering) (n : ℕ) (xs : List A) → RisesBy cmp xs → RisesBy cmp (untaken_from n takes us xs)
  untaken_rise cmp n [] h = tt
  untaken_rise cmp n (x ∷ xs) h =
      let rest = untaken_rise cmp (n + 1) xs h.1 in
      stays (RisesBy cmp) n x xs rest (untaken_all (λ (y : A). is_gt (cmp x y) ≡ false) (n + 1) xs h.0, rest)

  pub untaken_length : (n : ℕ) (xs : List A) → length (untaken_from n takes us xs) ≤ length xs
  untaken_length n [] = omega arith
  untaken_length n (x ∷ xs) =
      let rest = untaken_length (n + 1) xs in
      stays (λ (ys : List A). length ys ≤ suc (length xs)) n x xs (omega arith) (omega arith)

  pub untaken_sum : (f : A → ℕ) (n : ℕ) (xs : List A) → sum_by f (untaken_from n takes us xs) ≤ sum_by f xs
  untaken_sum f n [] = omega arith
  untaken_sum f n (x ∷ xs) =
      let rest = untaken_sum f (n + 1) xs in
      let ys = untaken_from (n + 1) takes us xs in
      stays (λ (zs : List A). sum_by f zs ≤ sum_by f (x ∷ xs)) n x xs (omega (arith, rest, sum_by-cons f x xs)) (omega (arith, rest, sum_by-cons f x xs, sum_by-cons f x ys))

pub untaken_depth : (takes : ℕ → Use → Bool) (us : List Use) (n : ℕ) (cs : List Call) → depth_of_calls (untaken_from n takes us cs) ≤ depth_of_calls cs
untaken_depth takes us n [] = omega arith
untaken_depth takes us n (c ∷ cs) =
    let rest = untaken_depth takes us (n + 1) cs in
    stays takes us (λ (zs : List Call). depth_of_calls zs ≤ max (deepest 0 c.pieces) (depth_of_calls cs)) n c cs (omega (arith, rest)) (omega (arith, rest))

-- ---- exponents

shrinks : (e k : ℤ) → FitsExponent e k → nat_abs (e -ℤ k) ≤ nat_abs e
shrinks e k h = grind (arith, ints)

at_least : (position : ℕ) (ps : List Power) (i : ℕ) (p : Power) → RiseFrom position ps → i < length ps → p ≡ get_or ps i p → position ≤ p.symbol
at_least position [] i p rise within is = absurd (omega arith)
at_least position (q ∷ qs) zero p rise within is = let e : p.symbol ≡ q.symbol = ap (λ (x : Power). x.symbol) is in omega (arith, rise.0, e)
at_least position (q ∷ qs) (suc j) p rise within is = let h = at_least (suc q.symbol) qs j p rise.1 (omega arith) is in omega (arith, rise.0, h)

-- the exponent of a symbol that is there
pub exponent_there : (position : ℕ) (ps : List Power) (i : ℕ) (p : Power) → RiseFrom position ps → i < length ps → p ≡ get_or ps i p → exponent_in ps p.symbol ≡ p.exponent
exponent_there position [] i p rise within is = absurd (omega arith)
exponent_there position (q ∷ qs) zero p rise within is =
    let same : (q.symbol == p.symbol) ≡ true = eq-eqb q.symbol p.symbol (sym (ap (λ (x : Power). x.symbol) is)) in
    rw same (sym (ap (λ (x : Power). x.exponent) is))
exponent_there position (q ∷ qs) (suc j) p rise within is =
    let above = at_least (suc q.symbol) qs j p rise.1 (omega arith) is in
    let other : (q.symbol == p.symbol) ≡ false = ne_eqb q.symbol p.symbol (λ e. omega (arith, above, e)) in
    rw other (exponent_there (suc q.symbol) qs j p rise.1 (omega arith) is)

nothing_fits : (e : ℤ) → FitsExponent e (pos 0)
nothing_fits e = inl refl

symbol_fits : (t : Term) (s : ℕ) (us : List Use) → All (FitsUse t) us → FitsExponent (exponent_of t s) (first_part (symbol_part s) us)
symbol_fits t s [] h = nothing_fits (exponent_of t s)
symbol_fits t s (u ∷ us) h = by u (All-head (FitsUse t) u us h) (symbol_fits t s us (All-tail (FitsUse t) u us h))
  where
    decide : (b : Bool) (r : ℕ) (k : ℤ) → (s == r) ≡ b → FitsExponent (exponent_of t r) k → FitsExponent (exponent_of t s) (first_part (symbol_part s) us)
        → FitsExponent (exponent_of t s) (unwrap_or (cond b (Some k) None) (first_part (symbol_part s) us))
    decide true r k e here rest = subst (λ (n : ℕ). FitsExponent (exponent_of t n) k) (sym (eqb-true s r e)) here
    decide false r k e here rest = rest

    by : (v : Use) → FitsUse t v → FitsExponent (exponent_of t s) (first_part (symbol_part s) us) → FitsExponent (exponent_of t s) (unwrap_or (symbol_part s v) (first_part (symbol_part s) us))
    by (uses.Symbol r k) here rest = decide (s == r) r k refl here rest
    by (uses.Dot m k) here rest = rest
    by (uses.Component m) here rest = rest
    by (uses.Delta m) here rest = rest
    by (uses.Function m) here rest = rest
    by (uses.Stretch start n) here rest = rest

dot_fits : (t : Term) (m : ℕ) (d : DotPower) (us : List Use) → m < length t.others.dots → d ≡ get_or t.others.dots m d → All (FitsUse t) us → FitsExponent d.exponent (first_part (dot_part m) us)
dot_fits t m d [] within is h = nothing_fits d.exponent
dot_fits t m d (u ∷ us) within is h = by u (All-head (FitsUse t) u us h) (dot_fits t m d us within is (All-tail (FitsUse t) u us h))
  where
    there : slice_get t.others.dots m ≡ Some d
    there = slice_get-get_or t.others.dots m d within ∙ ap Some (sym is)

    decide : (b : Bool) (n : ℕ) (k : ℤ) → (m == n) ≡ b → FitsUse t (uses.Dot n k) → FitsExponent d.exponent (first_part (dot_part m) us)
        → FitsExponent d.exponent (unwrap_or (cond b (Some k) None) (first_part (dot_part m) us))
    decide true n k e here rest =
        inr (subst (λ (o : Option DotPower). IfSome o (λ x. fits false x.exponent k ≡ true)) there
        (subst (λ (j : ℕ). IfSome (slice_get t.others.dots j) (λ x. fits false x.exponent k ≡ true)) (sym (eqb-true m n e)) here.1))
    decide false n k e here rest = rest

    by : (v : Use) → FitsUse t v → FitsExponent d.exponent (first_part (dot_part m) us) → FitsExponent d.exponent (unwrap_or (dot_part m v) (first_part (dot_part m) us))
    by (uses.Symbol r k) here rest = rest
    by (uses.Dot n k) here rest = decide (m == n) n k refl here rest
    by (uses.Component n) here rest = rest
    by (uses.Delta n) here rest = rest
    by (uses.Function n) here rest = rest
    by (uses.Stretch start n) here rest = rest

pub symbols_fit : (t : Term) (us : List Use) → IsTerm t → Fits us t → FitsSymbols us t.symbols
symbols_fit t us h f i p within is =
    subst (FitsExponent p.exponent) (sym (symbol_first p.symbol us (apart_is f.apart)))
    (subst (λ (e : ℤ). FitsExponent e (first_part (symbol_part p.symbol) us)) (exponent_there 0 t.symbols i p h.rising within is) (symbol_fits t p.symbol us f.each))

pub dots_fit : (t : Term) (us : List Use) → Fits us t → FitsDots us t.others.dots
dots_fit t us f i d within is = subst (FitsExponent d.exponent) (sym (dot_first i us (apart_is f.apart))) (dot_fits t i d us within is f.each)

-- ---- powers that are left

present_or : (P : List Power → Type 0) (p : Power) (rest : List Power) → P rest → P (p ∷ rest) → P (present_power p ++ rest)
present_or P p rest without with_it = by (nat_lt 0 (nat_abs p.exponent))
  where
    by : (b : Bool) → P (cond b (p ∷ []) [] ++ rest)
    by true = with_it
    by false = without

left_or : (P : List Power → Type 0) (us : List Use) (p : Power) (ps : List Power) → P (powers_left us ps) → P (lowered us p ∷ powers_left us ps) → P (powers_left us (p ∷ ps))
left_or P us p ps without with_it =
    subst P (filter_first (λ (q : Power). nat_lt 0 (nat_abs q.exponent)) (lowered us p) (map (lowered us) ps)) (present_or P (lowered us p) (powers_left us ps) without with_it)

powers_rise : (us : List Use) (position : ℕ) (ps : List Power) → RiseFrom position ps → RiseFrom position (powers_left us ps)
powers_rise us position [] h = tt
powers_rise us position (p ∷ ps) h =
    let rest = powers_rise us (suc p.symbol) ps h.1 in
    left_or (RiseFrom position) us p ps (rise_lower (suc p.symbol) position (powers_left us ps) rest (omega (arith, h.0))) (h.0, rest)

powers_fewer : (us : List Use) (ps : List Power) → length (powers_left us ps) ≤ length ps
powers_fewer us [] = omega arith
powers_fewer us (p ∷ ps) = let rest = powers_fewer us ps in left_or (λ (qs : List Power). length qs ≤ suc (length ps)) us p ps (omega (arith, rest)) (omega (arith, rest))

abbrev IsSmall : Power → Type 0
IsSmall p = nat_abs p.exponent ≤ largest_exponent

powers_small : (us : List Use) (ps : List Power) → FitsSymbols us ps → AllByRecursion IsSmall ps → AllByRecursion IsSmall (powers_left us ps)
powers_small us [] f h = tt
powers_small us (p ∷ ps) f h =
    let rest = powers_small us ps (λ i q within is. f (suc i) q (omega arith) is) h.1 in
    let here = shrinks p.exponent (taken (symbol_taken p.symbol) us) (f 0 p (omega arith) refl) in
    left_or (AllByRecursion IsSmall) us p ps rest (omega (arith, here, h.0), rest)

-- ---- dot products that are left

present_dot_or : (P : List DotPower → Type 0) (d : DotPower) (rest : List DotPower) → P rest → P (d ∷ rest) → P (present_dot d ++ rest)
present_dot_or P d rest without with_it = by (nat_lt 0 (nat_abs d.exponent))
  where
    by : (b : Bool) → P (cond b (d ∷ []) [] ++ rest)
    by true = with_it
    by false = without

abbrev lowered_dot : ℕ → List Use → DotPower → DotPower
lowered_dot n us d = record { left = d.left; right = d.right; exponent = d.exponent -ℤ taken (dot_taken n) us }

dots_or : (P : List DotPower → Type 0) (n : ℕ) (us : List Use) (d : DotPower) (ds : List DotPower) → P (dots_from (n + 1) us ds) → P (lowered_dot n us d ∷ dots_from (n + 1) us ds) → P (dots_from n us (d ∷ ds))
dots_or P n us d ds without with_it = subst P (sym (dots_more n us d ds)) (present_dot_or P (lowered_dot n us d) (dots_from (n + 1) us ds) without with_it)

-- what speaks of the vectors alone
dots_all : (P : DotPower → Type 0) → ((d : DotPower) (e : ℤ) → P d → P (record { left = d.left; right = d.right; exponent = e }))
    → (n : ℕ) (us : List Use) (ds : List DotPower) → AllByRecursion P ds → AllByRecursion P (dots_from n us ds)
dots_all P keeps n us [] h = tt
dots_all P keeps n us (d ∷ ds) h =
    let rest = dots_all P keeps (n + 1) us ds h.1 in
    dots_or (AllByRecursion P) n us d ds rest (keeps d (d.exponent -ℤ taken (dot_taken n) us) h.0, rest)

dots_rise : (n : ℕ) (us : List Use) (ds : List DotPower) → IsStrictlySortedBy pair_order ds → IsStrictlySortedBy pair_order (dots_from n us ds)
unfolding IsStrictlySortedBy
dots_rise n us [] h = tt
dots_rise n us (d ∷ ds) h =
    let rest = dots_rise (n + 1) us ds h.1 in
    dots_or (IsStrictlySortedBy pair_order) n us d ds rest (dots_all (λ (y : DotPower). pair_order d y ≡ Less) (λ e z g. g) (n + 1) us ds h.0, rest)

dots_fewer : (n : ℕ) (us : List Use) (ds : List DotPower) → length (dots_from n us ds) ≤ length ds
dots_fewer n us [] = omega arith
dots_fewer n us (d ∷ ds) =
    let rest = dots_fewer (n + 1) us ds in
    dots_or (λ (es : List DotPower). length es ≤ suc (length ds)) n us d ds (omega (arith, rest)) (omega (arith, rest))

abbrev IsSmallDot : DotPower → Type 0
IsSmallDot d = nat_abs d.exponent ≤ largest_exponent

dots_small : (n : ℕ) (us : List Use) (ds : List DotPower) → ((i : ℕ) (d : DotPower) → i < length ds → d ≡ get_or ds i d → FitsExponent d.exponent (taken (dot_taken (n + i)) us))
    → AllByRecursion IsSmallDot ds → AllByRecursion IsSmallDot (dots_from n us ds)
dots_small n us [] f h = tt
dots_small n us (d ∷ ds) f h =
    let later : (i : ℕ) (e : DotPower) → i < length ds → e ≡ get_or ds i e → FitsExponent e.exponent (taken (dot_taken (n + 1 + i)) us)
    = λ i e within is. let same : n + suc i ≡ n + 1 + i = omega arith in subst (λ (m : ℕ). FitsExponent e.exponent (taken (dot_taken m) us)) same (f (suc i) e (omega arith) is) in
    let rest = dots_small (n + 1) us ds later h.1 in
    let zero_more : n + 0 ≡ n = omega arith in
    let here = shrinks d.exponent (taken (dot_taken n) us) (subst (λ (m : ℕ). FitsExponent d.exponent (taken (dot_taken m) us)) zero_more (f 0 d (omega arith) refl)) in
    dots_or (AllByRecursion IsSmallDot) n us d ds rest (omega (arith, here, h.0), rest)

-- ---- words that are left

drop_sum : {A : Type 0} (f : A → ℕ) (n : ℕ) (xs : List A) → sum_by f (drop n xs) ≤ sum_by f xs
drop_sum f zero xs = omega arith
drop_sum f (suc n) [] = omega arith
drop_sum f (suc n) (x ∷ xs) = let rest = drop_sum f n xs in omega (arith, rest, sum_by-cons f x xs)

cut_sum : {A : Type 0} (f : A → ℕ) (start n : ℕ) (xs : List A) → sum_by f (take start xs ++ drop (start + n) xs) ≤ sum_by f xs
cut_sum f zero n xs = let same : 0 + n ≡ n = omega arith in subst (λ (m : ℕ). sum_by f (drop m xs) ≤ sum_by f xs) (sym same) (drop_sum f n xs)
cut_sum f (suc start) n [] = let same : suc start + n ≡ suc (start + n) = omega arith in subst (λ (m : ℕ). sum_by f (drop m []) ≤ 0) (sym same) (omega arith)
cut_sum f (suc start) n (x ∷ xs) =
    let rest = cut_sum f start n xs in
    let same : suc start + n ≡ suc (start + n) = omega arith in
    subst (λ (m : ℕ). sum_by f (x ∷ take start xs ++ drop m (x ∷ xs)) ≤ sum_by f (x ∷ xs)) (sym same)
    (omega (arith, rest, sum_by-cons f x xs, sum_by-cons f x (take start xs ++ drop (start + n) xs)))

drop_depth : (n : ℕ) (cs : List Call) → depth_of_calls (drop n cs) ≤ depth_of_calls cs
drop_depth zero cs = omega arith
drop_depth (suc n) [] = omega arith
drop_depth (suc n) (c ∷ cs) = let rest = drop_depth n cs in omega (arith, rest)

cut_depth : (start n : ℕ) (cs : List Call) → depth_of_calls (take start cs ++ drop (start + n) cs) ≤ depth_of_calls cs
cut_depth zero n cs = let same : 0 + n ≡ n = omega arith in subst (λ (m : ℕ). depth_of_calls (drop m cs) ≤ depth_of_calls cs) (sym same) (drop_depth n cs)
cut_depth (suc start) n [] = let same : suc start + n ≡ suc (start + n) = omega arith in subst (λ (m : ℕ). depth_of_calls (drop m []) ≤ 0) (sym same) (omega arith)
cut_depth (suc start) n (c ∷ cs) =
    let rest = cut_depth start n cs in
    let same : suc start + n ≡ suc (start + n) = omega arith in
    subst (λ (m : ℕ). max (deepest 0 c.pieces) (depth_of_calls (take start cs ++ drop m (c ∷ cs))) ≤ max (deepest 0 c.pieces) (depth_of_calls cs)) (sym same) (omega (arith, rest))

-- what holds of words without a stretch holds of the word that is left
word_keeps : (P : List Call → Type 0) → ((start n : ℕ) (w : List Call) → P w → P (take start w ++ drop (start + n) w)) → (us : List Use) (w : List Call) → P w → P (word_left us w)
word_keeps P keeps [] w h = h
word_keeps P keeps (u ∷ us) w h = word_keeps P keeps us (without_stretch u w) (by u)
  where
    by : (v : Use) → P (without_stretch v w)
    by (uses.Symbol r k) = h
    by (uses.Dot n k) = h
    by (uses.Component n) = h
    by (uses.Delta n) = h
    by (uses.Function n) = h
    by (uses.Stretch start n) = keeps start n w h

-- ---- what is left is a term

positive : (e : ℤ) → nat_lt 0 (nat_abs e) ≡ true → 0 < nat_abs e
positive e h = ltb-true 0 (nat_abs e) h

from_first : (t : Term) (us : List Use) → Fits us t → (i : ℕ) (d : DotPower) → i < length t.others.dots → d ≡ get_or t.others.dots i d → FitsExponent d.exponent (taken (dot_taken (0 + i)) us)
from_first t us f i d within is =
    let same : 0 + i ≡ i = omega arith in
    subst (λ (m : ℕ). FitsExponent d.exponent (taken (dot_taken m) us)) (sym same) (dots_fit t us f i d within is)

left_factors : (t : Term) (us : List Use) → IsTerm t → Fits us t → AreFactors IsCall (left_of t us).others
unfolding left_of
left_factors t us h f = record {
  dots_rise = dots_rise 0 us t.others.dots h.others.dots_rise;
  dots_present = All-weaker (λ (d : DotPower). nat_lt 0 (nat_abs d.exponent) ≡ true) (λ (d : DotPower). 0 < nat_abs d.exponent) (λ d. positive d.exponent) (dots_left us t.others.dots)
      (filter_passes (λ (d : DotPower). nat_lt 0 (nat_abs d.exponent)) (map (λ e. record { left = e.1.left; right = e.1.right; exponent = e.1.exponent -ℤ taken (dot_taken e.0) us }) (enumerate_from 0 t.others.dots)));
  dots_in_range = All-from_recursion IsSmallDot (dots_left us t.others.dots) (dots_small 0 us t.others.dots (from_first t us f) (recursion_from_All IsSmallDot t.others.dots h.others.dots_in_range));
  dots_turned = All-from_recursion (λ (d : DotPower). d.left ≤ d.right) (dots_left us t.others.dots)
      (dots_all (λ (d : DotPower). d.left ≤ d.right) (λ d e g. g) 0 us t.others.dots (recursion_from_All (λ (d : DotPower). d.left ≤ d.right) t.others.dots h.others.dots_turned));
  components_rise = untaken_rise takes_component us component_order 0 t.others.components h.others.components_rise;
  deltas_rise = untaken_rise takes_delta us delta_order 0 t.others.deltas h.others.deltas_rise;
  deltas_turned = untaken_each takes_delta us (λ (d : Delta). is_gt (index_order d.first d.second) ≡ false) t.others.deltas h.others.deltas_turned;
  functions_rise = untaken_rise takes_function us call_order 0 t.others.functions h.others.functions_rise;
  functions = untaken_each takes_function us IsCall t.others.functions h.others.functions;
  word = word_keeps (All IsCall) (λ start n w g. All-append IsCall (take start w) (drop (start + n) w) (All-take IsCall start w g) (All-drop IsCall (start + n) w g)) us t.others.word h.others.word;
}

no_larger : (t : Term) (us : List Use) → size (left_of t us) ≤ size t
unfolding left_of
no_larger t us =
    let o = t.others in
    let words : sum_by size_of_call (word_left us o.word) ≤ sum_by size_of_call o.word
    = word_keeps (λ (w : List Call). sum_by size_of_call w ≤ sum_by size_of_call o.word) (λ start n w g. omega (arith, g, cut_sum size_of_call start n w)) us o.word (omega arith) in
    omega (
      arith,
      powers_fewer us t.symbols,
      dots_fewer 0 us o.dots,
      untaken_length takes_component us 0 o.components,
      untaken_length takes_delta us 0 o.deltas,
      untaken_sum takes_function us size_of_call 0 o.functions,
      words,
      sum-map size_of_call o.functions,
      sum-map size_of_call o.word,
      sum-map size_of_call (untaken takes_function us o.functions),
      sum-map size_of_call (word_left us o.word),
    )

no_deeper : (t : Term) (us : List Use) → depth (left_of t us) ≤ depth t
unfolding left_of
no_deeper t us =
    let o = t.others in
    let words : depth_of_calls (word_left us o.word) ≤ depth_of_calls o.word
    = word_keeps (λ (w : List Call). depth_of_calls w ≤ depth_of_calls o.word) (λ start n w g. omega (arith, g, cut_depth start n w)) us o.word (omega arith) in
    omega (arith, untaken_depth takes_function us 0 o.functions, words)

pub left_lawful : (t : Term) (us : List Use) → IsTerm t → Fits us t → IsTerm (left_of t us)
unfolding left_of
left_lawful t us h f = record {
  rising = powers_rise us 0 t.symbols h.rising;
  present = All-weaker (λ (p : Power). nat_lt 0 (nat_abs p.exponent) ≡ true) (λ (p : Power). 0 < nat_abs p.exponent) (λ p. positive p.exponent) (powers_left us t.symbols)
      (filter_passes (λ (p : Power). nat_lt 0 (nat_abs p.exponent)) (map (lowered us) t.symbols));
  in_range = All-from_recursion IsSmall (powers_left us t.symbols) (powers_small us t.symbols (symbols_fit t us h f) (recursion_from_All IsSmall t.symbols h.in_range));
  others = left_factors t us h f;
  small = omega (arith, no_larger t us, h.small);
  shallow = omega (arith, no_deeper t us, h.shallow);
}

-- nothing is left of no word
no_word_left : (us : List Use) → word_left us [] ≡ []
no_word_left us =
    nil_from_length (word_left us [])
    (word_keeps (λ (w : List Call). length w ≡ 0) (λ start n w none. omega (arith, none, length-append (take start w) (drop (start + n) w), length-take start w, length-drop (start + n) w)) us [] refl)

-- where there are commuting functions alone, the rest is left as it is
pub rest_stays : (us : List Use) (o : Others) → IsOfFunctions o → o ≡ rest_left us o
rest_stays us o none = λ i. record {
  is_imaginary = o.is_imaginary;
  dots = (none.no_dots ∙ ap (dots_left us) (sym none.no_dots)) i;
  components = (none.no_components ∙ ap (untaken takes_component us) (sym none.no_components)) i;
  deltas = (none.no_deltas ∙ ap (untaken takes_delta us) (sym none.no_deltas)) i;
  functions = o.functions;
  word = (none.no_word ∙ sym (no_word_left us) ∙ ap (word_left us) (sym none.no_word)) i;
}

-- what is left, first of the functions and then of the rest
pub left_of_all : (t : Term) (us : List Use) (ps : List Power) (o within left : Others) (fs : List Call) → t ≡ term ps o → within ≡ o → fs ≡ untaken takes_function us within.functions
    → left ≡ rest_left us (record within { functions = fs }) → term (powers_left us ps) left ≡ left_of t us
unfolding left_of
left_of_all t us ps o within left fs is same functions rest =
    ap (term (powers_left us ps)) (rest ∙ ap (λ (gs : List Call). rest_left us (record within { functions = gs })) functions
    ∙ ap (λ (p : Others). rest_left us (record p { functions = untaken takes_function us p.functions })) same)
    ∙ ap (λ (u : Term). left_of u us) (sym is)
