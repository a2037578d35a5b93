-- Factors that change exponents, the sign and `i_` alone: so many of them at once.
use Rattle.std.proofs.Common.{◌≡◌, ℕ, zero, suc, ◌-◌, ◌*◌, ◌/◌, ◌%◌, ◌≤◌, ◌==◌, Bool, true, false, not, ◌&&◌, List, [], ◌∷◌, ◌++◌, append-nil, map, ℤ, pos, negsuc, ◌*ℤ◌, neg_ℤ, nat_abs, Some, Ok, refl, sym, ap, subst, ◌∙◌, arith}
use Rattle.std.specs.Bool.{beq}
use Rattle.std.specs.List.{filter, list_all, list_any}
use Rattle.std.proofs.lemmas.Bool.{and_parts, eqb-true}
use Rattle.std.proofs.lemmas.Int.{ints}
use Rattle.std.proofs.lemmas.List.{length-map}
use Rattle.std.proofs.lemmas.List.Elements.{recursion_from_All}
use Rattle.std.proofs.Math.IntN.{neg_ℤ-neg_ℤ, *ℤ-negsuc}
use Rattle.form_frac.specs.Fraction.{Fraction, IsLowest, whole, largest, gcd, reduced, in_range, multiply, negate, has_size_one}
use Rattle.form_term.specs.declared.monomial.Monomial.{Monomial}
use Rattle.form_term.specs.declared.power.Power.{Power}
use Rattle.form_term.specs.declared.power.DotPower.{DotPower}
use Rattle.form_term.specs.declared.index.Component.{Component}
use Rattle.form_term.specs.declared.index.Delta.{Delta}
use Rattle.form_term.specs.Term.{Term, Call, IsTerm, component_order, delta_order, call_order}
use Rattle.form_term.specs.Terms.{term}
use Rattle.form_normal.specs.Lists.{in_order, dots_product}
use Rattle.form_normal.specs.Product.{is_one, is_fixed, others_product, term_product, turned, limited, product_of}
use Rattle.form_normal.proofs.Dots.{IsThere}
use Rattle.form_normal.proofs.Lasting.{multiply_one, no_zeros_in, all_kept, within}
use Rattle.form_normal.proofs.Order.{in_order_same}
use Rattle.form_normal.proofs.Parts.{parity, product_made}
use Rattle.form_expand.specs.Bound.{of_dots}
use Rattle.form_expand.specs.Often.{often, raised_power, keeps_power, stands_in, raised_dot, keeps_dot, dot_stands_in, raised_term, is_bare, is_unit_power, is_among, changes_exponents, then_by}
use Rattle.form_expand.proofs.Raising.{raised_rises, raised_kept, raised_first, raised_next, raised_dots_rise, raised_dots_kept, raised_dots_turned, raised_dots_first, raised_dots_next}

-- ---- 1 and -1 as coefficients

times_one : (z : ℤ) → z *ℤ pos 1 ≡ z
times_one z = omega (arith, ints)

minus_one : (z : ℤ) → z *ℤ negsuc 0 ≡ neg_ℤ z *ℤ pos 1
minus_one z = *ℤ-negsuc z 0 ∙ ap neg_ℤ (times_one z) ∙ sym (times_one (neg_ℤ z))

size_negated : (z : ℤ) → nat_abs (neg_ℤ z) ≡ nat_abs z
size_negated (pos zero) = refl
size_negated (pos (suc n)) = refl
size_negated (negsuc n) = refl

negated_lowest : (f : Fraction) → IsLowest f → IsLowest (negate f)
negated_lowest f l =
    let same = size_negated f.numerator in
    record {
      is_over_some = l.is_over_some;
      is_coprime = ap (λ (n : ℕ). gcd n f.denominator) same ∙ l.is_coprime;
      is_small_above = subst (λ (n : ℕ). n ≤ largest) (sym same) l.is_small_above;
      is_small_below = l.is_small_below;
    }

turned_lowest : (b : Bool) (f : Fraction) → IsLowest f → IsLowest (turned b f)
turned_lowest true f l = negated_lowest f l
turned_lowest false f l = l

negated_twice : (f : Fraction) → negate (negate f) ≡ f
negated_twice f = λ i. record { numerator = neg_ℤ-neg_ℤ f.numerator i; denominator = f.denominator }

times_minus : (f : Fraction) → multiply f (whole (negsuc 0)) ≡ multiply (negate f) (whole (pos 1))
unfolding multiply
times_minus f = ap (λ (z : ℤ). in_range (reduced z (f.denominator * 1))) (minus_one f.numerator)

-- a product with 1 or -1 only may turn the sign
times_unit : (b : Bool) (f : Fraction) → IsLowest f → multiply f (turned b (whole (pos 1))) ≡ Some (turned b f)
times_unit true f l = times_minus f ∙ multiply_one (negate f) (negated_lowest f l)
times_unit false f l = multiply_one f l

unit_sign : (f : Fraction) → has_size_one f ≡ true → (b : Bool) × (f ≡ turned b (whole (pos 1)))
unit_sign f h = by f.numerator refl (eqb-true (nat_abs f.numerator) 1 parts.0)
  where
    parts : ((nat_abs f.numerator == 1) ≡ true) × ((f.denominator == 1) ≡ true)
    parts = and_parts (nat_abs f.numerator == 1) (f.denominator == 1) h

    below : f.denominator ≡ 1
    below = eqb-true f.denominator 1 parts.1

    by : (z : ℤ) → f.numerator ≡ z → nat_abs f.numerator ≡ 1 → (b : Bool) × (f ≡ turned b (whole (pos 1)))
    by (pos n) e one =
        let above : f.numerator ≡ pos 1 = e ∙ ap pos (sym (ap nat_abs e) ∙ one) in
        (false, λ i. record { numerator = above i; denominator = below i })
    by (negsuc n) e one =
        let last : n ≡ 0 = omega (arith, sym (ap nat_abs e) ∙ one) in
        let above : f.numerator ≡ negsuc 0 = e ∙ ap negsuc last in
        (true, λ i. record { numerator = above i; denominator = below i })

-- ---- the sign and `i_`, factor by factor

-- a coefficient and whether `i_` stands beside it, times 1 or -1 and `i_` or not
abbrev next_sign : Bool → Bool → Fraction × Bool → Fraction × Bool
next_sign n a s = (turned (s.1 && a) (turned n s.0), not (beq s.1 a))

abbrev sign_after : Bool → Bool → Fraction × Bool → ℕ → Fraction × Bool
sign_after n a s zero = s
sign_after n a s (suc k) = next_sign n a (sign_after n a s k)

abbrev four_signs : Bool → Bool → Fraction × Bool → Fraction × Bool
four_signs n a s = next_sign n a (next_sign n a (next_sign n a (next_sign n a s)))

abbrev beside : Fraction → Bool → Fraction × Bool
beside x i = (x, i)

two_turns : (x : Fraction) (i : Bool) → beside (negate (negate x)) i ≡ beside x i
two_turns x i = ap (λ (y : Fraction). beside y i) (negated_twice x)

four_turns : (x : Fraction) (i : Bool) → beside (negate (negate (negate (negate x)))) i ≡ beside x i
four_turns x i = ap (λ (y : Fraction). beside y i) (negated_twice (negate (negate x)) ∙ negated_twice x)

six_turns : (x : Fraction) (i : Bool) → beside (negate (negate (negate (negate (negate (negate x)))))) i ≡ beside x i
six_turns x i = ap (λ (y : Fraction). beside y i) (negated_twice (negate (negate (negate (negate x)))) ∙ negated_twice (negate (negate x)) ∙ negated_twice x)

-- four times they are as they were
four_alike : (n a : Bool) (x : Fraction) (i : Bool) → four_signs n a (x, i) ≡ (x, i)
four_alike false false x true = refl
four_alike false false x false = refl
four_alike false true x true = two_turns x true
four_alike false true x false = two_turns x false
four_alike true false x true = four_turns x true
four_alike true false x false = four_turns x false
four_alike true true x true = six_turns x true
four_alike true true x false = six_turns x false

fours_alike : (n a : Bool) (x : Fraction) (i : Bool) (m k : ℕ) → k ≡ m * 4 → sign_after n a (x, i) k ≡ (x, i)
fours_alike n a x i zero k e = let none : k ≡ 0 = omega (arith, e) in ap (sign_after n a (x, i)) none
fours_alike n a x i (suc m) k e =
    let j = k - 4 in
    let next : k ≡ suc (suc (suc (suc j))) = omega (arith, e) in
    let before : j ≡ m * 4 = omega (arith, e) in
    ap (sign_after n a (x, i)) next ∙ ap (four_signs n a) (fours_alike n a x i m j before) ∙ four_alike n a x i

-- ---- a factor of symbols, dot products and `i_`

abbrev factor_term : List Power → List DotPower → Bool → Term
factor_term qs es a = term qs (record (of_dots es) { is_imaginary = a })

bare_by : (i : Bool) (ds : List DotPower) (cs : List Component) (es : List Delta) (fs w : List Call)
    → is_bare (record { symbols = []; others = record { is_imaginary = i; dots = ds; components = cs; deltas = es; functions = fs; word = w } }) ≡ true
    → record { is_imaginary = i; dots = ds; components = cs; deltas = es; functions = fs; word = w } ≡ record (of_dots ds) { is_imaginary = i }
bare_by i ds (c ∷ cs) es fs w e = cc
bare_by i ds [] (d ∷ es) fs w e = cc
bare_by i ds [] [] (f ∷ fs) w e = cc
bare_by i ds [] [] [] (f ∷ w) e = cc
bare_by i ds [] [] [] [] e = refl

bare_is : (t : Term) → is_bare t ≡ true → t ≡ factor_term t.symbols t.others.dots t.others.is_imaginary
bare_is t e =
    let o = t.others in
    let same : o ≡ record (of_dots o.dots) { is_imaginary = o.is_imaginary } = bare_by o.is_imaginary o.dots o.components o.deltas o.functions o.word e in
    ap (term t.symbols) same

-- the other factors of a product with it
others_next : (l : Term) (qs : List Power) (es ds : List DotPower) (a : Bool) → IsTerm l → list_any is_fixed l.others.deltas ≡ false → ds ≡ dots_product (l.others.dots ++ es)
    → others_product (l ∷ factor_term qs es a ∷ []) ≡ record l.others { is_imaginary = not (beq l.others.is_imaginary a); dots = ds }
unfolding others_product
others_next l qs es ds a lawful unfixed e =
    let o = l.others in
    let h = lawful.others in
    let imaginary = sym (parity o.is_imaginary a) in
    let dots = ap (λ (xs : List DotPower). dots_product (o.dots ++ xs)) (append-nil es) ∙ sym e in
    let components = ap (in_order component_order) (append-nil o.components) ∙ in_order_same component_order o.components h.components_rise in
    let deltas = ap (λ ds. filter (λ (d : Delta). not (is_one d)) (in_order delta_order ds)) (append-nil o.deltas) ∙ ap (λ ds. filter (λ (d : Delta). not (is_one d)) ds) (in_order_same delta_order o.deltas h.deltas_rise) ∙ all_kept o.deltas unfixed in
    let functions = ap (in_order call_order) (append-nil o.functions) ∙ in_order_same call_order o.functions h.functions_rise in
    let word = append-nil o.word in
    λ i. record { is_imaginary = imaginary i; dots = dots i; components = components i; deltas = deltas i; functions = functions i; word = word i }

-- A front and such a factor, whose symbols and dot products stand in the front, too. So many factors keep its exponents.
module _ (f : Monomial) (number : Fraction) (qs : List Power) (es : List DotPower) (a : Bool) (all : ℕ)
    (lawful : IsTerm f.term) (lowest : IsLowest f.coefficient) (own : IsTerm (factor_term qs es a)) (unfixed : list_any is_fixed f.term.others.deltas ≡ false)
    (symbols_there : list_all (stands_in f.term.symbols) qs ≡ true) (dots_there : list_all (dot_stands_in f.term.others.dots) es ≡ true)
    (symbols_kept : list_all (keeps_power qs all) f.term.symbols ≡ true) (dots_kept : list_all (keeps_dot es all) f.term.others.dots ≡ true) where
  abbrev state : ℕ → Bool → Term
  state k i = term (map (raised_power qs k) f.term.symbols) (record f.term.others { is_imaginary = i; dots = map (raised_dot es k) f.term.others.dots })

  abbrev after : ℕ → Fraction × Bool → Monomial
  after k s = record { coefficient = s.0; term = state k s.1 }

  abbrev factor : Monomial
  factor = record { coefficient = number; term = factor_term qs es a }

  pub state_lawful : (k : ℕ) → k ≤ all → (i : Bool) → IsTerm (state k i)
  state_lawful k h i =
      let o = lawful.others in
      let powers = raised_kept qs k all h f.term.symbols lawful.present lawful.in_range symbols_kept in
      let dots = raised_dots_kept es k all h f.term.others.dots o.dots_present o.dots_in_range dots_kept in
      record {
        rising = raised_rises qs k 0 f.term.symbols lawful.rising;
        present = powers.0;
        in_range = powers.1;
        others = record {
          dots_rise = raised_dots_rise es k f.term.others.dots o.dots_rise;
          dots_present = dots.0;
          dots_in_range = dots.1;
          dots_turned = raised_dots_turned es k f.term.others.dots o.dots_turned;
          components_rise = o.components_rise;
          deltas_rise = o.deltas_rise;
          deltas_turned = o.deltas_turned;
          functions_rise = o.functions_rise;
          functions = o.functions;
          word = o.word;
        };
        small = omega (arith, lawful.small, length-map f.term.symbols (raised_power qs k), length-map f.term.others.dots (raised_dot es k));
        shallow = lawful.shallow;
      }

  -- with a further factor
  state_next : (k : ℕ) → suc k ≤ all → (i : Bool) → state (suc k) (not (beq i a)) ≡ term_product (state k i ∷ factor_term qs es a ∷ [])
  state_next k h i =
      let before = state_lawful k (omega (arith, h)) i in
      let behind = state_lawful (suc k) h i in
      let ds = map (raised_dot es (suc k)) f.term.others.dots in
      let symbols = raised_next qs k f.term.symbols (state k i).others (factor_term qs es a).others lawful.rising behind.present symbols_there in
      let dots = raised_dots_next es k f.term.others.dots lawful.others.dots_rise own.others.dots_rise
      (recursion_from_All IsThere (map (raised_dot es k) f.term.others.dots) before.others.dots_present)
      (recursion_from_All IsThere ds behind.others.dots_present)
      (recursion_from_All IsThere es own.others.dots_present) dots_there in
      let others = sym (others_next (state k i) qs es ds a before unfixed dots) in
      λ j. record { symbols = symbols j; others = others j }

  product_next : (k : ℕ) → suc k ≤ all → (n : Bool) → number ≡ turned n (whole (pos 1)) → (s : Fraction × Bool) → IsLowest s.0
      → product_of (after k s) factor ≡ Ok (Some (after (suc k) (next_sign n a s)))
  product_next k h n unit s l =
      product_made (after k s) factor (turned n s.0) (turned (s.1 && a) (turned n s.0)) (state (suc k) (not (beq s.1 a)))
      (no_zeros_in f.term.others.deltas unfixed)
      (ap (multiply s.0) unit ∙ times_unit n s.0 l)
      refl
      (ap limited (sym (state_next k h s.1)) ∙ within (state (suc k) (not (beq s.1 a))) (state_lawful (suc k) h (not (beq s.1 a))))

  sign_lowest : (n : Bool) (k : ℕ) → IsLowest (sign_after n a (f.coefficient, f.term.others.is_imaginary) k).0
  sign_lowest n zero = lowest
  sign_lowest n (suc k) =
      let s = sign_after n a (f.coefficient, f.term.others.is_imaginary) k in
      turned_lowest (s.1 && a) (turned n s.0) (turned_lowest n s.0 (sign_lowest n k))

  state_first : state 0 f.term.others.is_imaginary ≡ f.term
  state_first =
      let o = f.term.others in
      λ i. record { symbols = raised_first qs f.term.symbols i; others = record o { dots = raised_dots_first es o.dots i } }

  often_after : (n : Bool) → number ≡ turned n (whole (pos 1)) → (k : ℕ) → k ≤ all → often f factor k ≡ Ok (Some (after k (sign_after n a (f.coefficient, f.term.others.is_imaginary) k)))
  unfolding often
  often_after n unit zero h = ap (λ (t : Term). Ok (Some (record { coefficient = f.coefficient; term = t }))) (sym state_first)
  often_after n unit (suc k) h =
      let s = sign_after n a (f.coefficient, f.term.others.is_imaginary) k in
      ap (λ r. then_by r (λ (x : Monomial). product_of x factor)) (often_after n unit k (omega (arith, h))) ∙ product_next k h n unit s (sign_lowest n k)

  -- four at a time
  pub often_fours : has_size_one number ≡ true → all % 4 ≡ 0 → often f factor all ≡ Ok (Some (after all (f.coefficient, f.term.others.is_imaginary)))
  often_fours unit fours =
      let sign = unit_sign number unit in
      let m = all / 4 in
      let times : all ≡ m * 4 = omega (arith, fours) in
      often_after sign.0 sign.1 all (omega arith)
      ∙ ap (λ (s : Fraction × Bool). Ok (Some (after all s))) (fours_alike sign.0 a f.coefficient f.term.others.is_imaginary m all times)

-- ---- what the code has looked at

abbrev not_false : Bool → Type 0
not_false b = not b ≡ true → b ≡ false

from_not : (b : Bool) → not_false b
from_not true e = cc
from_not false e = refl

three_parts : (b c d : Bool) → (b && c && d) ≡ true → (b ≡ true) × (c ≡ true) × (d ≡ true)
three_parts true true true e = (refl, refl, refl)
three_parts true true false e = cc
three_parts true false d e = cc
three_parts false c d e = cc

-- A front and a term that changes its exponents alone, so many times.
module _ (f t : Monomial) (k : ℕ) (lawful : IsTerm f.term) (lowest : IsLowest f.coefficient) (own : IsTerm t.term) (changes : changes_exponents f t ≡ true)
    (symbols_kept : list_all (keeps_power t.term.symbols k) f.term.symbols ≡ true) (dots_kept : list_all (keeps_dot t.term.others.dots k) f.term.others.dots ≡ true) where
  unit_and_bare : (has_size_one t.coefficient ≡ true) × (is_bare t.term ≡ true)
  unit_and_bare = and_parts (has_size_one t.coefficient) (is_bare t.term) (and_parts (is_unit_power t) (is_among f.term t.term) changes).0

  among : (not (list_any is_fixed f.term.others.deltas) ≡ true) × (list_all (stands_in f.term.symbols) t.term.symbols ≡ true) × (list_all (dot_stands_in f.term.others.dots) t.term.others.dots ≡ true)
  among =
      three_parts (not (list_any is_fixed f.term.others.deltas)) (list_all (stands_in f.term.symbols) t.term.symbols) (list_all (dot_stands_in f.term.others.dots) t.term.others.dots)
      (and_parts (is_unit_power t) (is_among f.term t.term) changes).1

  unfixed : list_any is_fixed f.term.others.deltas ≡ false
  unfixed = from_not (list_any is_fixed f.term.others.deltas) among.0

  bare : t.term ≡ factor_term t.term.symbols t.term.others.dots t.term.others.is_imaginary
  bare = bare_is t.term unit_and_bare.1

  own_factor : IsTerm (factor_term t.term.symbols t.term.others.dots t.term.others.is_imaginary)
  own_factor = subst IsTerm bare own

  pub raised_lawful : IsTerm (raised_term t.term k f.term)
  raised_lawful =
      state_lawful f t.coefficient t.term.symbols t.term.others.dots t.term.others.is_imaginary k lawful lowest own_factor unfixed among.1 among.2 symbols_kept dots_kept
      k (omega arith) f.term.others.is_imaginary

  pub often_raised : k % 4 ≡ 0 → often f t k ≡ Ok (Some (record { coefficient = f.coefficient; term = raised_term t.term k f.term }))
  often_raised fours =
      ap (λ (u : Term). often f (record { coefficient = t.coefficient; term = u }) k) bare
      ∙ often_fours f t.coefficient t.term.symbols t.term.others.dots t.term.others.is_imaginary k lawful lowest own_factor unfixed among.1 among.2 symbols_kept dots_kept
      unit_and_bare.0 fours

-- what the code has raised
module _ (f t : Monomial) (k : ℕ) (ps qs made : List Power) (ds es more : List DotPower) (lawful : IsTerm f.term) (lowest : IsLowest f.coefficient) (own : IsTerm t.term) (changes : changes_exponents f t ≡ true)
    (is_front : ps ≡ f.term.symbols) (is_factor : qs ≡ t.term.symbols) (are_dots : ds ≡ f.term.others.dots) (are_own : es ≡ t.term.others.dots)
    (raised : made ≡ map (raised_power qs k) ps) (kept : list_all (keeps_power qs k) ps ≡ true) (dots_raised : more ≡ map (raised_dot es k) ds) (are_kept : list_all (keeps_dot es k) ds ≡ true) where
  symbols_are_kept : list_all (keeps_power t.term.symbols k) f.term.symbols ≡ true
  symbols_are_kept = sym (ap (λ (xs : List Power). list_all (keeps_power xs k) ps) is_factor ∙ ap (list_all (keeps_power t.term.symbols k)) is_front) ∙ kept

  dots_are_kept : list_all (keeps_dot t.term.others.dots k) f.term.others.dots ≡ true
  dots_are_kept = sym (ap (λ (xs : List DotPower). list_all (keeps_dot xs k) ds) are_own ∙ ap (list_all (keeps_dot t.term.others.dots k)) are_dots) ∙ are_kept

  is_raised : record { symbols = made; others = record f.term.others { dots = more } } ≡ raised_term t.term k f.term
  is_raised =
      let symbols = raised ∙ ap (λ (xs : List Power). map (raised_power xs k) ps) is_factor ∙ ap (map (raised_power t.term.symbols k)) is_front in
      let dots = dots_raised ∙ ap (λ (xs : List DotPower). map (raised_dot xs k) ds) are_own ∙ ap (map (raised_dot t.term.others.dots k)) are_dots in
      λ i. record { symbols = symbols i; others = record f.term.others { dots = dots i } }

  pub made_lawful : IsTerm (record { symbols = made; others = record f.term.others { dots = more } })
  made_lawful = subst IsTerm (sym is_raised) (raised_lawful f t k lawful lowest own changes symbols_are_kept dots_are_kept)

  pub often_made : k % 4 ≡ 0 → often f t k ≡ Ok (Some (record { coefficient = f.coefficient; term = record { symbols = made; others = record f.term.others { dots = more } } }))
  often_made fours =
      often_raised f t k lawful lowest own changes symbols_are_kept dots_are_kept fours
      ∙ ap (λ (u : Term). Ok (Some (record { coefficient = f.coefficient; term = u }))) (sym is_raised)
