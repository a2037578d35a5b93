-- What holds of the other factors of a product of two terms.
use Rattle.std.proofs.Common.{◌≡◌, ℕ, suc, ◌+◌, ◌<◌, ◌≤◌, ◌^◌, Bool, true, false, cond, not, ◌&&◌, List, [], ◌∷◌, ◌++◌, map, length, refl, ap, sym, ◌∙◌, arith, append-nil}
use Rattle.std.specs.Prelude.{All, max, sum, ◌==◌, ◌%◌, ◌||◌, if◌then◌else◌}
use Rattle.std.specs.List.{AllByRecursion, filter, flat_map, list_any}
use Rattle.std.specs.Ordering.{is_gt}
use Rattle.std.proofs.lemmas.Bool.{and_parts}
use Rattle.std.proofs.lemmas.List.Elements.{recursion_from_All, All-from_recursion}
use Rattle.form_frac.specs.Fraction.{Fraction}
use Rattle.form_term.specs.declared.power.DotPower.{DotPower}
use Rattle.form_term.specs.declared.index.Delta.{Delta}
use Rattle.form_term.specs.Pieces.{deepest}
use Rattle.form_term.specs.Term.{Term, Others, Call, IsTerm, IsCall, index_order, component_order, delta_order, call_order, nothing, is_nothing, is_nil, size_of_call, depth_of_calls, largest_depth}
use Rattle.form_term.specs.TermLaws.{component_order_total, delta_order_total, call_order_total}
use Rattle.form_normal.specs.Lists.{in_order, dots_product}
use Rattle.form_normal.specs.Factors.{AreJoined, IsPlain}
use Rattle.form_normal.specs.Product.{is_one, is_zero, turned, others_product}
use Rattle.form_normal.proofs.Order.{all_append, all_filter, all_in_order, in_order_rises, rises_filter, sum_in_order, length_in_order, sum_first}
use Rattle.form_normal.proofs.Dots.{IsThere, all_dots, dots_rise, dots_there, dots_length}

-- no deeper than n
abbrev pub IsShallow : ℕ → Call → Type 0
IsShallow n c = deepest 0 c.pieces ≤ n

shallow_each : (n : ℕ) (cs : List Call) → depth_of_calls cs ≤ n → AllByRecursion (IsShallow n) cs
shallow_each n [] h = tt
shallow_each n (c ∷ cs) h = (omega (arith, h), shallow_each n cs (omega (arith, h)))

shallow_all : (n : ℕ) (cs : List Call) → AllByRecursion (IsShallow n) cs → depth_of_calls cs ≤ n
shallow_all n [] h = omega arith
shallow_all n (c ∷ cs) h = let rest = shallow_all n cs h.1 in omega (arith, h.0, rest)

pub sizes_append : (cs ds : List Call) → sum (map size_of_call (cs ++ ds)) ≡ sum (map size_of_call cs) + sum (map size_of_call ds)
sizes_append [] ds = omega arith
sizes_append (c ∷ cs) ds =
    let e = sum_first (size_of_call c) (map size_of_call (cs ++ ds)) in
    let f = sum_first (size_of_call c) (map size_of_call cs) in
    let rest = sizes_append cs ds in
    omega (arith, e, f, rest)

length_append : {A : Type 0} (xs ys : List A) → length (xs ++ ys) ≡ length xs + length ys
length_append [] ys = omega arith
length_append (x ∷ xs) ys = let rest = length_append xs ys in omega (arith, rest)

filter_length : {A : Type 0} (p : A → Bool) (xs : List A) → length (filter p xs) ≤ length xs
filter_length p [] = omega arith
filter_length {A} p (x ∷ xs) = step (p x) (filter_length p xs)
  where
    step : (b : Bool) → length (filter p xs) ≤ length xs → length (cond b (x ∷ filter p xs) (filter p xs)) ≤ suc (length xs)
    step true h = omega (arith, h)
    step false h = omega (arith, h)

-- the factors of two terms, one after the other
two : {A : Type 0} (f : Term → List A) (l r : Term) → flat_map f (l ∷ r ∷ []) ≡ f l ++ f r
two f l r = ap (λ xs. f l ++ xs) (append-nil (f r))

-- what holds of each in both factors
each : {A : Type 0} (P : A → Type 0) (xs ys : List A) → All P xs → All P ys → AllByRecursion P (xs ++ ys)
each P xs ys h k = all_append P xs ys (recursion_from_All P xs h) (recursion_from_All P ys k)

-- What the lists of two factors give.
module _ (l r : Term) (left : IsTerm l) (right : IsTerm r) where
  dots : List DotPower
  dots = flat_map (λ t. t.others.dots) (l ∷ r ∷ [])

  functions : List Call
  functions = flat_map (λ t. t.others.functions) (l ∷ r ∷ [])

  word : List Call
  word = flat_map (λ t. t.others.word) (l ∷ r ∷ [])

  -- what holds of each in both factors holds of each in the list of both
  of_both : {A : Type 0} (P : A → Type 0) (f : Term → List A) → All P (f l) → All P (f r) → AllByRecursion P (flat_map f (l ∷ r ∷ []))
  of_both P f h k = rw (two f l r) (each P (f l) (f r) h k)

  shallow_both : (f : Term → List Call) → depth_of_calls (f l) ≤ 63 → depth_of_calls (f r) ≤ 63 → AllByRecursion (IsShallow 63) (flat_map f (l ∷ r ∷ []))
  shallow_both f h k = rw (two f l r) (all_append (IsShallow 63) (f l) (f r) (shallow_each 63 (f l) h) (shallow_each 63 (f r) k))

  sizes_both : (f : Term → List Call) → sum (map size_of_call (flat_map f (l ∷ r ∷ []))) ≡ sum (map size_of_call (f l)) + sum (map size_of_call (f r))
  sizes_both f = rw (two f l r) (sizes_append (f l) (f r))

  length_both : {A : Type 0} (f : Term → List A) → length (flat_map f (l ∷ r ∷ [])) ≡ length (f l) + length (f r)
  length_both f = rw (two f l r) (length_append (f l) (f r))

  pub joined_lawful : AreJoined (others_product (l ∷ r ∷ []))
  unfolding others_product dots functions word
  joined_lawful = record {
    dots_rise = dots_rise dots;
    dots_present = All-from_recursion IsThere (dots_product dots) (dots_there dots (of_both IsThere (λ t. t.others.dots) left.others.dots_present right.others.dots_present));
    dots_turned = All-from_recursion (λ (d : DotPower). d.left ≤ d.right) (dots_product dots) (all_dots (λ p q. p ≤ q) dots (of_both (λ (d : DotPower). d.left ≤ d.right) (λ t. t.others.dots) left.others.dots_turned right.others.dots_turned));
    components_rise = in_order_rises component_order component_order_total (flat_map (λ t. t.others.components) (l ∷ r ∷ []));
    deltas_rise = rises_filter delta_order (λ d. not (is_one d)) (in_order delta_order deltas) (in_order_rises delta_order delta_order_total deltas);
    deltas_turned = All-from_recursion IsTurned (filter (λ d. not (is_one d)) (in_order delta_order deltas))
        (all_filter IsTurned (λ d. not (is_one d)) (in_order delta_order deltas) (all_in_order delta_order IsTurned deltas (of_both IsTurned (λ t. t.others.deltas) left.others.deltas_turned right.others.deltas_turned)));
    functions_rise = in_order_rises call_order call_order_total functions;
    functions = All-from_recursion IsCall (in_order call_order functions) (all_in_order call_order IsCall functions (of_both IsCall (λ t. t.others.functions) left.others.functions right.others.functions));
    word = All-from_recursion IsCall word (of_both IsCall (λ t. t.others.word) left.others.word right.others.word);
    shallow = shallow;
    small = small;
  }
    where
      deltas : List Delta
      deltas = flat_map (λ t. t.others.deltas) (l ∷ r ∷ [])

      IsTurned : Delta → Type 0
      IsTurned d = is_gt (index_order d.first d.second) ≡ false

      shallow : max (depth_of_calls (in_order call_order functions)) (depth_of_calls word) < largest_depth
      shallow =
          let first = shallow_all 63 (in_order call_order functions) (all_in_order call_order (IsShallow 63) functions (shallow_both (λ t. t.others.functions) (omega (arith, left.shallow)) (omega (arith, right.shallow)))) in
          let second = shallow_all 63 word (shallow_both (λ t. t.others.word) (omega (arith, left.shallow)) (omega (arith, right.shallow))) in
          omega (arith, first, second)

      small : length (dots_product dots) + length (in_order component_order (flat_map (λ t. t.others.components) (l ∷ r ∷ []))) + length (filter (λ d. not (is_one d)) (in_order delta_order deltas)) + sum (map size_of_call (in_order call_order functions)) + sum (map size_of_call word) < 2 ^ 32
      small =
          let a = dots_length dots in
          let b = length_both (λ t. t.others.dots) in
          let e = length_in_order component_order (flat_map (λ t. t.others.components) (l ∷ r ∷ [])) in
          let f = length_both (λ t. t.others.components) in
          let g = filter_length (λ d. not (is_one d)) (in_order delta_order deltas) in
          let h = length_in_order delta_order deltas in
          let i = length_both (λ t. t.others.deltas) in
          let j = sum_in_order call_order size_of_call functions in
          let k = sizes_both (λ t. t.others.functions) in
          let m = sizes_both (λ t. t.others.word) in
          omega (arith, a, b, e, f, g, h, i, j, k, m, left.small, right.small)

nil_from : {A : Type 0} (xs : List A) → is_nil xs ≡ true → xs ≡ []
nil_from [] e = refl
nil_from (x ∷ xs) e = cc

none_from : (b : Bool) → not b ≡ true → b ≡ false
none_from true e = cc
none_from false e = refl

-- where there are no other factors
pub nothing_from : (o : Others) → is_nothing o ≡ true → o ≡ nothing
nothing_from o e =
    let a = and_parts (not o.is_imaginary && is_nil o.dots && is_nil o.components && is_nil o.deltas && is_nil o.functions) (is_nil o.word) e in
    let b = and_parts (not o.is_imaginary && is_nil o.dots && is_nil o.components && is_nil o.deltas) (is_nil o.functions) a.0 in
    let f = and_parts (not o.is_imaginary && is_nil o.dots && is_nil o.components) (is_nil o.deltas) b.0 in
    let g = and_parts (not o.is_imaginary && is_nil o.dots) (is_nil o.components) f.0 in
    let h = and_parts (not o.is_imaginary) (is_nil o.dots) g.0 in
    let imaginary = none_from o.is_imaginary h.0 in
    let dots = nil_from o.dots h.1 in
    let components = nil_from o.components g.1 in
    let deltas = nil_from o.deltas f.1 in
    let functions = nil_from o.functions b.1 in
    let word = nil_from o.word a.1 in
    λ i. record { is_imaginary = imaginary i; dots = dots i; components = components i; deltas = deltas i; functions = functions i; word = word i }

-- two factors without others have none together
pub nothing_together : (l r : Term) → is_nothing l.others ≡ true → is_nothing r.others ≡ true → nothing ≡ others_product (l ∷ r ∷ [])
unfolding others_product in_order dots_product
nothing_together l r e f = rw (nothing_from l.others e, nothing_from r.others f) refl

-- two factors of powers of symbols and functions have functions together
empty_both : {A : Type 0} (xs ys : List A) → xs ≡ [] → ys ≡ [] → [] ≡ xs ++ (ys ++ [])
empty_both xs ys e f = rw (e, f) refl

pub functions_together : (l r : Term) (fs : List Call) → IsPlain l → IsPlain r → fs ≡ in_order call_order (l.others.functions ++ r.others.functions) → record nothing { functions = fs } ≡ others_product (l ∷ r ∷ [])
unfolding others_product dots_product in_order
functions_together l r fs p q e =
    let dots = ap dots_product (empty_both l.others.dots r.others.dots (ap (λ (o : Others). o.dots) p) (ap (λ (o : Others). o.dots) q)) in
    let components = ap (in_order component_order) (empty_both l.others.components r.others.components (ap (λ (o : Others). o.components) p) (ap (λ (o : Others). o.components) q)) in
    let deltas = ap (λ ds. filter (λ (d : Delta). not (is_one d)) (in_order delta_order ds)) (empty_both l.others.deltas r.others.deltas (ap (λ (o : Others). o.deltas) p) (ap (λ (o : Others). o.deltas) q)) in
    let functions = e ∙ ap (λ (cs : List Call). in_order call_order (l.others.functions ++ cs)) (sym (append-nil r.others.functions)) in
    let word = empty_both l.others.word r.others.word (ap (λ (o : Others). o.word) p) (ap (λ (o : Others). o.word) q) in
    λ i. record { is_imaginary = imaginary i; dots = dots i; components = components i; deltas = deltas i; functions = functions i; word = word i }
  where
    imaginary : false ≡ (sum ((if l.others.is_imaginary then 1 else 0) ∷ (if r.others.is_imaginary then 1 else 0) ∷ []) % 2 == 1)
    imaginary = rw (ap (λ (o : Others). o.is_imaginary) p, ap (λ (o : Others). o.is_imaginary) q) refl

-- their product isn't 0, and has no sign
pub plain_zeros : (l r : Term) → IsPlain l → IsPlain r → (list_any is_zero l.others.deltas || list_any is_zero r.others.deltas) ≡ false
plain_zeros l r p q = rw (ap (λ (o : Others). o.deltas) p, ap (λ (o : Others). o.deltas) q) refl

pub plain_turn : (l r : Term) (c : Fraction) → IsPlain l → c ≡ turned (l.others.is_imaginary && r.others.is_imaginary) c
plain_turn l r c p = rw (ap (λ (o : Others). o.is_imaginary) p) refl

-- the functions of the one are put among those of the other
pub functions_put : (l r : Term) (v : Others) (fs : List Call) → IsPlain l → IsPlain r → v ≡ l.others → fs ≡ in_order call_order (v.functions ++ r.others.functions) → record v { functions = fs } ≡ others_product (l ∷ r ∷ [])
functions_put l r v fs p q e f =
    ap (λ (o : Others). record o { functions = fs }) (e ∙ p) ∙ functions_together l r fs p q (f ∙ ap (λ (o : Others). in_order call_order (o.functions ++ r.others.functions)) e)
