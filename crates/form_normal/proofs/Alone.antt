-- The product of one factor, and a product that is its own product.
use Rattle.std.proofs.Common.{◌≡◌, ◌/◌, ◌≤◌, Bool, true, false, not, cond, ◌&&◌, List, [], ◌∷◌, map, append-nil, refl, ap, sym, subst, ◌∙◌, arith}
use Rattle.std.specs.Prelude.{Option, Some, None, option_map, Result, Ok, Err, All, ℤ, pos, ◌+ℤ◌, ◌%◌, ◌==◌, sum, nat_le, if◌then◌else◌}
use Rattle.std.specs.List.{AllByRecursion, filter, flat_map, list_any}
use Rattle.std.specs.List.Sorted.{IsStrictlySortedBy}
use Rattle.std.specs.Ordering.{is_gt}
use Rattle.std.proofs.lemmas.Bool.{leb-true, and_parts}
use Rattle.std.proofs.lemmas.Int.{ints}
use Rattle.std.proofs.lemmas.List.Elements.{recursion_from_All, All-from_recursion}
use Rattle.std.proofs.lemmas.List.Sorted.{list_any-IsPermutation}
use Rattle.form_base.specs.declared.cause.Cause.{Cause}
use Rattle.form_base.specs.declared.cause.Cause.TheVariants.{PowerRange, TermSize}
use Rattle.form_frac.specs.Fraction.{Fraction}
use Rattle.form_term.specs.declared.power.Power.{Power}
use Rattle.form_term.specs.declared.power.DotPower.{DotPower}
use Rattle.form_term.specs.declared.index.Component.{Component}
use Rattle.form_term.specs.declared.index.Delta.{Delta}
use Rattle.form_term.specs.declared.monomial.Monomial.{Monomial}
use Rattle.form_term.specs.Term.{Term, Others, Call, IsTerm, IsCall, AreFactors, exponent_in, exponent_of, of_others, index_order, pair_order, component_order, delta_order, call_order, size, depth, largest_size, largest_depth}
use Rattle.form_term.specs.Terms.{term}
use Rattle.form_term.specs.TermLaws.{component_order_total, delta_order_total, call_order_total}
use Rattle.form_term.proofs.Each.{each_flat}
use Rattle.form_normal.specs.Lists.{in_order, dots_product}
use Rattle.form_normal.specs.Factors.{AreEachLawful, IsProductive}
use Rattle.form_normal.specs.Product.{are_in_range, are_dots_in_range, is_one, is_zero, is_fixed, is_turned, coefficient_of, symbols_product, others_product, term_product, turned, vanishes, joined, limited, product}
use Rattle.form_normal.proofs.Dots.{IsThere, all_dots, dots_same, dots_rise, dots_there}
use Rattle.form_normal.proofs.Lasting.{within, all_kept, either_false, no_zeros}
use Rattle.form_normal.proofs.Limits.{IsDotInRange, each_in_range, each_dot_in_range, are_dots_in_range_from}
use Rattle.form_normal.proofs.Order.{all_filter, all_in_order, in_order_same, in_order_rises, in_order_permuted, rises_filter}
use Rattle.form_normal.proofs.Parts.{powers_lawful}
use Rattle.form_normal.proofs.Powers.{product_from}

-- ---- the product of one factor

pub sign_kept : (b : Bool) (c : Fraction) → turned ((sum ((if b then 1 else 0) ∷ []) / 2) % 2 == 1) c ≡ c
sign_kept true c = refl
sign_kept false c = refl

pub vanish_alone : (t : Term) → vanishes (t ∷ []) ≡ list_any is_zero t.others.deltas
vanish_alone t = ap (list_any is_zero) (append-nil t.others.deltas)

module _ (m : Monomial) where
  pub alone_zero : list_any is_zero m.term.others.deltas ≡ true → product (m ∷ []) ≡ Ok None
  unfolding product
  alone_zero z = rw (vanish_alone m.term ∙ z) refl

  pub alone_refused : (cause : Cause) → list_any is_zero m.term.others.deltas ≡ false → limited (term_product (m.term ∷ [])) ≡ Err cause → product (m ∷ []) ≡ Err cause
  unfolding product
  alone_refused cause z f = rw (vanish_alone m.term ∙ z, f) refl

  pub alone_made : (t : Term) → list_any is_zero m.term.others.deltas ≡ false → limited (term_product (m.term ∷ [])) ≡ Ok t → product (m ∷ []) ≡ Ok (Some (record { coefficient = m.coefficient; term = t }))
  unfolding product
  alone_made t z f = rw (vanish_alone m.term ∙ z, f) (ap (λ (x : Fraction). Ok (Some (record { coefficient = x; term = t }))) (sign_kept m.term.others.is_imaginary m.coefficient))

-- ---- a term whose deltas are neither 1 nor 0 is its own product

pub imaginary_kept : (b : Bool) → (sum ((if b then 1 else 0) ∷ []) % 2 == 1) ≡ b
imaginary_kept true = refl
imaginary_kept false = refl

others_same : (t : Term) → IsTerm t → list_any is_fixed t.others.deltas ≡ false → others_product (t ∷ []) ≡ t.others
unfolding others_product
others_same t lawful e =
    let o = t.others in
    let h = lawful.others in
    let imaginary = imaginary_kept o.is_imaginary in
    let dots = ap dots_product (append-nil o.dots) ∙ dots_same o.dots h.dots_rise in
    let components = ap (in_order component_order) (append-nil o.components) ∙ in_order_same component_order o.components h.components_rise in
    let deltas = ap (λ ds. filter (λ (d : Delta). not (is_one d)) (in_order delta_order ds)) (append-nil o.deltas) ∙ ap (λ ds. filter (λ (d : Delta). not (is_one d)) ds) (in_order_same delta_order o.deltas h.deltas_rise) ∙ all_kept o.deltas e in
    let functions = ap (in_order call_order) (append-nil o.functions) ∙ in_order_same call_order o.functions h.functions_rise in
    let word = append-nil o.word in
    λ i. record { is_imaginary = imaginary i; dots = dots i; components = components i; deltas = deltas i; functions = functions i; word = word i }

term_same : (t : Term) → IsTerm t → list_any is_fixed t.others.deltas ≡ false → term_product (t ∷ []) ≡ t
term_same t lawful e =
    let symbols = product_from t.symbols (t ∷ []) lawful.rising lawful.present (λ symbol. add (exponent_of t symbol)) in
    let others = others_same t lawful e in
    λ i. record { symbols = sym symbols i; others = others i }
  where
    add : (x : ℤ) → x ≡ x +ℤ pos 0
    add x = omega (arith, ints)

own_product : (m : Monomial) → IsTerm m.term → list_any is_fixed m.term.others.deltas ≡ false → product (m ∷ []) ≡ Ok (Some m)
own_product m lawful e = alone_made m m.term (no_zeros m.term.others.deltas e) (ap limited (term_same m.term lawful e) ∙ within m.term lawful)

-- ---- a product is a term, and its deltas are neither 1 nor 0

-- a term is within the limits
pub record IsWithin (u t : Term) : Type 0 where
  pub same : u ≡ t
  pub powers : are_in_range u.symbols ≡ true
  pub dots : are_dots_in_range u.others.dots ≡ true
  pub small : size u ≤ largest_size
  pub shallow : depth u ≤ largest_depth

same_term : (r : Result Term Cause) (u t : Term) → r ≡ Ok u → r ≡ Ok t → u ≡ t
same_term r u t e f = cc

pub within_from : (u t : Term) → limited u ≡ Ok t → IsWithin u t
within_from u t e = step (are_in_range u.symbols && are_dots_in_range u.others.dots) (nat_le (size u) largest_size && nat_le (depth u) largest_depth) refl refl e
  where
    step : (a b : Bool) → (are_in_range u.symbols && are_dots_in_range u.others.dots) ≡ a → (nat_le (size u) largest_size && nat_le (depth u) largest_depth) ≡ b
        → (if a then (if b then Ok u else Err TermSize) else Err PowerRange) ≡ Ok t → IsWithin u t
    step true true f g h =
        let ranges = and_parts (are_in_range u.symbols) (are_dots_in_range u.others.dots) f in
        let sizes = and_parts (nat_le (size u) largest_size) (nat_le (depth u) largest_depth) g in
        record {
          same = same_term (Ok u) u t refl h;
          powers = ranges.0;
          dots = ranges.1;
          small = leb-true (size u) largest_size sizes.0;
          shallow = leb-true (depth u) largest_depth sizes.1;
        }
    step true false f g h = absurd (cc)
    step false b f g h = absurd (cc)

-- what holds in the lists of each term holds in the joined ones
pub in_lists : {A : Type 0} (P : A → Type 0) (f : Term → List A) → ((t : Term) → AreEachLawful t.others → All P (f t)) → (ts : List Term) → AllByRecursion (λ (t : Term). AreEachLawful t.others) ts → AllByRecursion P (flat_map f ts)
in_lists P f g ts h = each_flat (λ (t : Term). AreEachLawful t.others) P f (λ t k. recursion_from_All P (f t) (g t k)) ts h

abbrev pub IsTurned : Delta → Type 0
IsTurned d = is_gt (index_order d.first d.second) ≡ false

open_left : (ds : List Delta) → list_any is_zero ds ≡ false → list_any is_fixed (filter (λ d. not (is_one d)) ds) ≡ false
open_left [] e = refl
open_left (d ∷ ds) e =
    let both = either_false (is_zero d) (list_any is_zero ds) e in
    step (is_one d) refl both.0 (open_left ds both.1)
  where
    step : (b : Bool) → is_one d ≡ b → is_zero d ≡ false → list_any is_fixed (filter (λ d. not (is_one d)) ds) ≡ false
        → list_any is_fixed (cond (not b) (d ∷ filter (λ d. not (is_one d)) ds) (filter (λ d. not (is_one d)) ds)) ≡ false
    step true f z rest = rest
    step false f z rest = rw (f, z) rest

module _ (ts : List Term) where
  deltas_open : vanishes ts ≡ false → list_any is_fixed (others_product ts).deltas ≡ false
  unfolding others_product
  deltas_open e =
      let ds = flat_map (λ (t : Term). t.others.deltas) ts in
      open_left (in_order delta_order ds) (sym (list_any-IsPermutation is_zero ds (in_order delta_order ds) (in_order_permuted delta_order ds)) ∙ e)

  module _ (each : AllByRecursion (λ (t : Term). AreEachLawful t.others) ts) where
    factors_lawful : are_dots_in_range (others_product ts).dots ≡ true → AreFactors IsCall (others_product ts)
    unfolding others_product
    factors_lawful range =
        let dots = flat_map (λ (t : Term). t.others.dots) ts in
        let deltas = flat_map (λ (t : Term). t.others.deltas) ts in
        let functions = flat_map (λ (t : Term). t.others.functions) ts in
        let word = flat_map (λ (t : Term). t.others.word) ts in
        record {
          dots_rise = dots_rise dots;
          dots_present = All-from_recursion IsThere (dots_product dots) (dots_there dots (in_lists IsThere (λ t. t.others.dots) (λ t h. h.dots_present) ts each));
          dots_in_range = each_dot_in_range (dots_product dots) range;
          dots_turned = All-from_recursion (λ (d : DotPower). d.left ≤ d.right) (dots_product dots) (all_dots (λ p q. p ≤ q) dots (in_lists (λ (d : DotPower). d.left ≤ d.right) (λ t. t.others.dots) (λ t h. h.dots_turned) ts each));
          components_rise = in_order_rises component_order component_order_total (flat_map (λ (t : Term). t.others.components) ts);
          deltas_rise = rises_filter delta_order (λ d. not (is_one d)) (in_order delta_order deltas) (in_order_rises delta_order delta_order_total deltas);
          deltas_turned = All-from_recursion IsTurned (filter (λ d. not (is_one d)) (in_order delta_order deltas))
              (all_filter IsTurned (λ d. not (is_one d)) (in_order delta_order deltas) (all_in_order delta_order IsTurned deltas (in_lists IsTurned (λ t. t.others.deltas) (λ t h. h.deltas_turned) ts each)));
          functions_rise = in_order_rises call_order call_order_total functions;
          functions = All-from_recursion IsCall (in_order call_order functions) (all_in_order call_order IsCall functions (in_lists IsCall (λ t. t.others.functions) (λ t h. h.functions) ts each));
          word = All-from_recursion IsCall word (in_lists IsCall (λ t. t.others.word) (λ t h. h.word) ts each);
        }

    product_lawful : (t : Term) → limited (term_product ts) ≡ Ok t → IsTerm t
    product_lawful t e =
        let l = within_from (term_product ts) t e in
        subst IsTerm l.same (record {
          rising = (powers_lawful ts).0;
          present = (powers_lawful ts).1;
          in_range = each_in_range (symbols_product ts) l.powers;
          others = factors_lawful l.dots;
          small = l.small;
          shallow = l.shallow;
        })

-- what a product is made of
pub record IsMadeOf (ms : List Monomial) (m : Monomial) : Type 0 where
  pub there : vanishes (map (λ (x : Monomial). x.term) ms) ≡ false
  pub limits : limited (term_product (map (λ (x : Monomial). x.term) ms)) ≡ Ok m.term

abbrev term_in : Term → Result (Option Monomial) Cause → Term
term_in t (Ok (Some m)) = m.term
term_in t (Ok None) = t
term_in t (Err cause) = t

pub made_of : (ms : List Monomial) (m : Monomial) → product ms ≡ Ok (Some m) → IsMadeOf ms m
unfolding product
made_of ms m e =
    step (vanishes (map (λ (x : Monomial). x.term) ms)) (option_map (turned (is_turned (map (λ (x : Monomial). x.term) ms))) (coefficient_of ms)) (limited (term_product (map (λ (x : Monomial). x.term) ms))) refl refl e
  where
    step : (b : Bool) (c : Option Fraction) (r : Result Term Cause) → vanishes (map (λ (x : Monomial). x.term) ms) ≡ b → limited (term_product (map (λ (x : Monomial). x.term) ms)) ≡ r
        → (if b then Ok None else joined c r) ≡ Ok (Some m) → IsMadeOf ms m
    step true c r f g h = absurd (cc)
    step false None r f g h = absurd (cc)
    step false (Some c) (Err cause) f g h = absurd (cc)
    step false (Some c) (Ok t) f g h = record { there = f; limits = g ∙ ap Ok (ap (term_in t) h) }

terms_each : (ms : List Monomial) → AllByRecursion (λ (x : Monomial). AreEachLawful x.term.others) ms → AllByRecursion (λ (t : Term). AreEachLawful t.others) (map (λ (x : Monomial). x.term) ms)
terms_each [] h = tt
terms_each (m ∷ ms) h = (h.0, terms_each ms h.1)

abbrev IsOfLawful : Monomial → Type 0
IsOfLawful x = AreEachLawful x.term.others

module _ (ms : List Monomial) (m : Monomial) (each : All IsOfLawful ms) (is : product ms ≡ Ok (Some m)) where
  pub product_is_term : IsTerm m.term
  product_is_term = product_lawful (map (λ (x : Monomial). x.term) ms) (terms_each ms (recursion_from_All IsOfLawful ms each)) m.term (made_of ms m is).limits

  pub product_is_own : product (m ∷ []) ≡ Ok (Some m)
  product_is_own =
      let made = made_of ms m is in
      let same = (within_from (term_product (map (λ (x : Monomial). x.term) ms)) m.term made.limits).same in
      own_product m product_is_term (ap (λ (t : Term). list_any is_fixed t.others.deltas) (sym same) ∙ deltas_open (map (λ (x : Monomial). x.term) ms) made.there)

-- the factors of a term are lawful each
pub each_lawful : (t : Term) → IsTerm t → AreEachLawful t.others
each_lawful t h = record {
  dots_present = h.others.dots_present;
  dots_turned = h.others.dots_turned;
  deltas_turned = h.others.deltas_turned;
  functions = h.others.functions;
  word = h.others.word;
}

-- ---- a term that is made anew

-- factors within the limits are a term
pub is_term : (t : Term) → IsProductive t.symbols → AreFactors IsCall t.others → size t ≤ largest_size → depth t ≤ largest_depth → IsTerm t
is_term t powers others small shallow = record {
  rising = powers.rising;
  present = powers.present;
  in_range = powers.in_range;
  others = others;
  small = small;
  shallow = shallow;
}

-- the factors of the product of a term alone, from its own
pub ordered_made : (o v : Others) (cs : List Component) (ds : List Delta) (fs : List Call) → v ≡ o → IsStrictlySortedBy pair_order o.dots
    → cs ≡ in_order component_order v.components → ds ≡ filter (λ d. not (is_one d)) (in_order delta_order v.deltas) → fs ≡ in_order call_order v.functions
    → record v { components = cs; deltas = ds; functions = fs } ≡ others_product (of_others o ∷ [])
unfolding others_product
ordered_made o v cs ds fs same rise e f g =
    let imaginary = ap (λ (x : Others). x.is_imaginary) same ∙ sym (imaginary_kept o.is_imaginary) in
    let dots = ap (λ (x : Others). x.dots) same ∙ sym (ap dots_product (append-nil o.dots) ∙ dots_same o.dots rise) in
    let components = e ∙ ap (λ (x : Others). in_order component_order x.components) same ∙ ap (in_order component_order) (sym (append-nil o.components)) in
    let deltas = f ∙ ap (λ (x : Others). filter (λ (d : Delta). not (is_one d)) (in_order delta_order x.deltas)) same ∙ ap (λ xs. filter (λ (d : Delta). not (is_one d)) (in_order delta_order xs)) (sym (append-nil o.deltas)) in
    let functions = g ∙ ap (λ (x : Others). in_order call_order x.functions) same ∙ ap (in_order call_order) (sym (append-nil o.functions)) in
    let word = ap (λ (x : Others). x.word) same ∙ sym (append-nil o.word) in
    λ i. record { is_imaginary = imaginary i; dots = dots i; components = components i; deltas = deltas i; functions = functions i; word = word i }

module _ (o : Others) (each : AreEachLawful o) (rise : IsStrictlySortedBy pair_order o.dots) (range : All IsDotInRange o.dots) where
  dots_kept : (others_product (of_others o ∷ [])).dots ≡ o.dots
  unfolding others_product
  dots_kept = ap dots_product (append-nil o.dots) ∙ dots_same o.dots rise

  pub ordered_lawful : AreFactors IsCall (others_product (of_others o ∷ []))
  ordered_lawful = factors_lawful (of_others o ∷ []) (each, tt) (ap are_dots_in_range dots_kept ∙ are_dots_in_range_from o.dots range)

others_by : (ps : List Power) (o : Others) → others_product (of_others o ∷ []) ≡ others_product (term ps o ∷ [])
unfolding others_product
others_by ps o = refl

-- the product of a term alone, from its powers and the factors of its product
pub anew_term : (ps : List Power) (o v : Others) → IsProductive ps → v ≡ others_product (of_others o ∷ []) → term ps v ≡ term_product (term ps o ∷ [])
anew_term ps o v powers e =
    let symbols = product_from ps (term ps o ∷ []) powers.rising powers.present (λ symbol. add (exponent_in ps symbol)) in
    let others = e ∙ others_by ps o in
    λ i. record { symbols = symbols i; others = others i }
  where
    add : (x : ℤ) → x ≡ x +ℤ pos 0
    add x = omega (arith, ints)
