-- What is within some reach, and its products.
use Rattle.std.proofs.Common.{◌≡◌, ℕ, suc, ◌+◌, ◌*◌, ◌<◌, ◌≤◌, Bool, true, false, cond, not, List, [], ◌∷◌, ◌++◌, map, length, append-nil, refl, ap, sym, subst, ◌∙◌, arith, le_trans, mul-le-mul, mul-pos}
use Rattle.std.specs.Prelude.{All, Option, Some, None, Result, Ok, Err, ℤ, pos, ◌+ℤ◌, ◌*ℤ◌, ◌||◌, ◌&&◌, nat_abs, nat_lt, max, sum, if◌then◌else◌}
use Rattle.std.specs.List.{AllByRecursion, filter, flat_map, list_any, range_with_len}
use Rattle.std.specs.Ordering.{match_ordering}
use Rattle.std.specs.declared.cmp.Ordering.{Ordering}
use Rattle.std.specs.declared.cmp.Ordering.TheVariants.{Less, Equal, Greater}
use Rattle.std.proofs.lemmas.Int.{ints}
use Rattle.std.proofs.lemmas.List.Elements.{All-from_recursion}
use Rattle.form_base.specs.declared.cause.Cause.{Cause}
use Rattle.form_frac.specs.Fraction.{Fraction, IsLowest, largest, multiply}
use Rattle.form_frac.specs.Weight.{Weight, IsWeight, product as product_fraction}
use Rattle.form_frac.proofs.Integers.{nat_abs-sum, nat_abs-times}
use Rattle.form_frac.proofs.Reduced.{reduced_lowest, numerator_small, denominator_small}
use Rattle.form_frac.proofs.Within.{multiply_within}
use Rattle.form_term.specs.declared.power.Power.{Power}
use Rattle.form_term.specs.declared.power.DotPower.{DotPower}
use Rattle.form_term.specs.declared.index.Delta.{Delta}
use Rattle.form_term.specs.declared.monomial.Monomial.{Monomial}
use Rattle.form_term.specs.PowerLaws.{powers_again, zero_from}
use Rattle.form_term.specs.Term.{Term, Call, IsTerm, IsCall, AreFactors, exponent_in, exponent_of, powers_of, reach_of, component_order, delta_order, call_order, pair_order, size, size_of_call, size_of_others, largest_exponent}
use Rattle.form_normal.specs.Lists.{in_order, dots_product, times_dot, joined_dots, before_others}
use Rattle.form_normal.specs.Product.{exponent_sum, is_one, symbols_product, others_product, term_product, vanishes, product_of}
use Rattle.form_normal.proofs.Alone.{is_term}
use Rattle.form_normal.proofs.Dots.{dots_length}
use Rattle.form_normal.proofs.Lasting.{within}
use Rattle.form_normal.proofs.Order.{sum_in_order, length_in_order}
use Rattle.form_normal.proofs.Others.{joined_lawful, sizes_append}
use Rattle.form_normal.proofs.Parts.{powers_lawful}
use Rattle.form_normal.proofs.Powers.{exponent_of_product}
use Rattle.form_reach.specs.declared.reach.Reach.{Reach}
use Rattle.form_reach.specs.Reach.{IsUnder, IsWithin, IsMadeWithin, IsInLimits, both, degree_of_dots}
use Rattle.form_reach.specs.Rows.{IsPlainTerm}
use Rattle.form_reach.proofs.InARow.{product_by}

-- ---- powers of symbols

module _ (n : ℕ) (f : ℕ → ℤ) (small : (x : ℕ) → nat_abs (f x) ≤ n) where
  powers_small : (xs : List ℕ) → AllByRecursion (λ p. nat_abs p.exponent ≤ n) (powers_of xs f)
  powers_small [] = tt
  powers_small (x ∷ xs) = step (nat_lt 0 (nat_abs (f x))) (powers_small xs)
    where
      step : (b : Bool) → AllByRecursion (λ p. nat_abs p.exponent ≤ n) (powers_of xs f)
          → AllByRecursion (λ p. nat_abs p.exponent ≤ n) (cond b (record { symbol = x; exponent = f x } ∷ powers_of xs f) (powers_of xs f))
      step true rest = (small x, rest)
      step false rest = rest

-- no symbol stands in a sum of exponents that stands in neither
module _ (f g h : ℕ → ℤ) (added : (x : ℕ) → h x ≡ f x +ℤ g x) where
  powers_few : (xs : List ℕ) → length (powers_of xs h) ≤ length (powers_of xs f) + length (powers_of xs g)
  powers_few [] = omega arith
  powers_few (x ∷ xs) = step (nat_lt 0 (nat_abs (h x))) (nat_lt 0 (nat_abs (f x))) (nat_lt 0 (nat_abs (g x))) refl refl refl (powers_few xs)
    where
      both_none : nat_lt 0 (nat_abs (f x)) ≡ false → nat_lt 0 (nat_abs (g x)) ≡ false → h x ≡ pos 0
      both_none d e = rw (added x, zero_from (f x) d, zero_from (g x) e) refl

      step : (a b c : Bool) → nat_lt 0 (nat_abs (h x)) ≡ a → nat_lt 0 (nat_abs (f x)) ≡ b → nat_lt 0 (nat_abs (g x)) ≡ c
          → length (powers_of xs h) ≤ length (powers_of xs f) + length (powers_of xs g)
          → length (cond a (record { symbol = x; exponent = h x } ∷ powers_of xs h) (powers_of xs h))
          ≤ length (cond b (record { symbol = x; exponent = f x } ∷ powers_of xs f) (powers_of xs f)) + length (cond c (record { symbol = x; exponent = g x } ∷ powers_of xs g) (powers_of xs g))
      step false true true p q r rest = omega (arith, rest)
      step false true false p q r rest = omega (arith, rest)
      step false false true p q r rest = omega (arith, rest)
      step false false false p q r rest = rest
      step true true true p q r rest = omega (arith, rest)
      step true true false p q r rest = omega (arith, rest)
      step true false true p q r rest = omega (arith, rest)
      step true false false p q r rest = let none = ap (λ (z : ℤ). nat_lt 0 (nat_abs z)) (both_none q r) in absurd (cc)

-- ---- dot products

degree_append : (ds es : List DotPower) → degree_of_dots (ds ++ es) ≡ degree_of_dots ds + degree_of_dots es
degree_append [] es = omega arith
degree_append (d ∷ ds) es = let rest = degree_append ds es in omega (arith, rest)

degree_product : (ds : List DotPower) → degree_of_dots (dots_product ds) ≤ degree_of_dots ds
unfolding dots_product
degree_product [] = omega arith
degree_product (d ∷ ds) = let rest = degree_product ds in let more = put (dots_product ds) in omega (arith, rest, more)
  where
    put : (es : List DotPower) → degree_of_dots (times_dot d es) ≤ nat_abs d.exponent + degree_of_dots es
    put [] = omega arith
    put (e ∷ es) = step (pair_order d e) (put es)
      where
        kept : (b : Bool) → degree_of_dots (cond b (joined_dots d e ∷ es) es) ≤ nat_abs d.exponent + (nat_abs e.exponent + degree_of_dots es)
        kept true = let added = nat_abs-sum d.exponent e.exponent in omega (arith, added)
        kept false = omega arith

        step : (o : Ordering) → degree_of_dots (times_dot d es) ≤ nat_abs d.exponent + degree_of_dots es
            → degree_of_dots (match_ordering o (d ∷ e ∷ es) (before_others (joined_dots d e) es) (e ∷ times_dot d es)) ≤ nat_abs d.exponent + (nat_abs e.exponent + degree_of_dots es)
        step Less rest = omega arith
        step Equal rest = kept (nat_lt 0 (nat_abs (d.exponent +ℤ e.exponent)))
        step Greater rest = omega (arith, rest)

dots_small : (n : ℕ) (ds : List DotPower) → degree_of_dots ds ≤ n → AllByRecursion (λ d. nat_abs d.exponent ≤ n) ds
dots_small n [] h = tt
dots_small n (d ∷ ds) h = (omega (arith, h), dots_small n ds (omega (arith, h)))

-- ---- sizes

length_append : {A : Type 0} (xs ys : List A) → length (xs ++ ys) ≡ length xs + length ys
length_append [] ys = omega arith
length_append (x ∷ xs) ys = let rest = length_append xs ys in omega (arith, rest)

filter_length : {A : Type 0} (p : A → Bool) (xs : List A) → length (filter p xs) ≤ length xs
filter_length p [] = omega arith
filter_length {A} p (x ∷ xs) = step (p x) (filter_length p xs)
  where
    step : (b : Bool) → length (filter p xs) ≤ length xs → length (cond b (x ∷ filter p xs) (filter p xs)) ≤ suc (length xs)
    step true h = omega (arith, h)
    step false h = omega (arith, h)

length_both : {A : Type 0} (xs ys : List A) → length (xs ++ (ys ++ [])) ≡ length xs + length ys
length_both xs ys = length_append xs (ys ++ []) ∙ ap (λ (zs : List _). length xs + length zs) (append-nil ys)

sizes_both : (cs ds : List Call) → sum (map size_of_call (cs ++ (ds ++ []))) ≡ sum (map size_of_call cs) + sum (map size_of_call ds)
sizes_both cs ds = sizes_append cs (ds ++ []) ∙ ap (λ es. sum (map size_of_call cs) + sum (map size_of_call es)) (append-nil ds)

module _ (l r : Term) (left : IsTerm l) (right : IsTerm r) where
  symbols_few : length (symbols_product (l ∷ r ∷ [])) ≤ length l.symbols + length r.symbols
  unfolding symbols_product
  symbols_few =
      let n = max (reach_of l.symbols) (max (reach_of r.symbols) 0) in
      let a = ap (λ (ps : List Power). length ps) (powers_again 0 n l.symbols left.rising left.present (omega arith)) in
      let b = ap (λ (ps : List Power). length ps) (powers_again 0 n r.symbols right.rising right.present (omega arith)) in
      let few = powers_few (exponent_of l) (exponent_of r) (exponent_sum (l ∷ r ∷ [])) (λ x. plain (exponent_of l x) (exponent_of r x)) (range_with_len 0 n) in
      omega (arith, a, b, few)
    where
      plain : (x y : ℤ) → x +ℤ (y +ℤ pos 0) ≡ x +ℤ y
      plain x y = omega (arith, ints)

  others_few : size_of_others (others_product (l ∷ r ∷ [])) ≤ size_of_others l.others + size_of_others r.others
  unfolding others_product
  others_few =
      let o = l.others in
      let p = r.others in
      let deltas = o.deltas ++ (p.deltas ++ []) in
      let a = dots_length (o.dots ++ (p.dots ++ [])) in
      let b = length_both o.dots p.dots in
      let c = length_in_order component_order (o.components ++ (p.components ++ [])) in
      let d = length_both o.components p.components in
      let e = filter_length (λ d. not (is_one d)) (in_order delta_order deltas) in
      let f = length_in_order delta_order deltas in
      let g = length_both o.deltas p.deltas in
      let h = sum_in_order call_order size_of_call (o.functions ++ (p.functions ++ [])) in
      let i = sizes_both o.functions p.functions in
      let j = sizes_both o.word p.word in
      omega (arith, a, b, c, d, e, f, g, h, i, j)

-- ---- coefficients

coefficient_under : (a b : Weight) (f g : Fraction) → IsWeight (record { denominator = a.denominator * b.denominator; size = a.size * b.size }) → IsUnder a f → IsUnder b g
    → (multiply f g ≡ Some (product_fraction f g)) × IsUnder (record { denominator = a.denominator * b.denominator; size = a.size * b.size }) (product_fraction f g)
coefficient_under a b f g w p q =
    let below : f.denominator * g.denominator ≤ a.denominator * b.denominator = mul-le-mul p.below q.below in
    let above : nat_abs f.numerator * nat_abs g.numerator ≤ a.size * b.size = mul-le-mul p.above q.above in
    let sizes = nat_abs-times f.numerator g.numerator in
    let all : nat_abs (f.numerator *ℤ g.numerator) ≤ a.size * b.size = subst (λ (x : ℕ). x ≤ a.size * b.size) (sym sizes) above in (
      multiply_within f g (le_trans above w.is_small_above) (le_trans below w.is_small_below),
      record {
        lowest = reduced_lowest (f.numerator *ℤ g.numerator) (f.denominator * g.denominator) (mul-pos p.lowest.is_over_some q.lowest.is_over_some) (le_trans all w.is_small_above) (le_trans below w.is_small_below);
        below = le_trans (denominator_small (f.numerator *ℤ g.numerator) (f.denominator * g.denominator)) below;
        above = le_trans (numerator_small (f.numerator *ℤ g.numerator) (f.denominator * g.denominator)) all;
      },
    )

-- ---- products

module _ (r s : Reach) (l m : Monomial) (left : IsWithin r l) (right : IsWithin s m) (plain : IsPlainTerm m.term) (limits : IsInLimits (both r s)) where
  abbrev ts : List Term
  ts = l.term ∷ m.term ∷ []

  exponents_within : (symbol : ℕ) → nat_abs (exponent_sum ts symbol) ≤ r.exponents + s.exponents
  exponents_within symbol =
      let last = nat_abs-sum (exponent_of m.term symbol) (pos 0) in
      let sum = nat_abs-sum (exponent_of l.term symbol) (exponent_of m.term symbol +ℤ pos 0) in
      omega (arith, last, sum, left.symbols symbol, right.symbols symbol)

  degree_within : degree_of_dots (others_product ts).dots ≤ r.exponents + s.exponents
  unfolding others_product
  degree_within =
      let o = l.term.others in
      let p = m.term.others in
      let product = degree_product (o.dots ++ (p.dots ++ [])) in
      let all = degree_append o.dots (p.dots ++ []) ∙ ap (λ ds. degree_of_dots o.dots + degree_of_dots ds) (append-nil p.dots) in
      omega (arith, product, all, left.dots, right.dots)

  size_within : size (term_product ts) ≤ r.size + s.size
  size_within =
      let a = symbols_few l.term m.term left.lawful right.lawful in
      let b = others_few l.term m.term left.lawful right.lawful in
      omega (arith, a, b, left.small, right.small)

  symbols_within : AllByRecursion (λ p. nat_abs p.exponent ≤ r.exponents + s.exponents) (symbols_product ts)
  unfolding symbols_product
  symbols_within = powers_small (r.exponents + s.exponents) (exponent_sum ts) exponents_within (range_with_len 0 (max (reach_of l.term.symbols) (max (reach_of m.term.symbols) 0)))

  term_lawful : IsTerm (term_product ts)
  term_lawful =
      let o = joined_lawful l.term m.term left.lawful right.lawful in
      let rise = powers_lawful ts in
      let factors : AreFactors IsCall (others_product ts) = record {
        dots_rise = o.dots_rise;
        dots_present = o.dots_present;
        dots_in_range = All-from_recursion (λ (d : DotPower). nat_abs d.exponent ≤ largest_exponent) (others_product ts).dots
            (dots_small largest_exponent (others_product ts).dots (le_trans degree_within limits.exponents));
        dots_turned = o.dots_turned;
        components_rise = o.components_rise;
        deltas_rise = o.deltas_rise;
        deltas_turned = o.deltas_turned;
        functions_rise = o.functions_rise;
        functions = o.functions;
        word = o.word;
      } in
      is_term (term_product ts)
      (record {
        rising = rise.0;
        present = rise.1;
        in_range = All-from_recursion (λ (p : Power). nat_abs p.exponent ≤ largest_exponent) (symbols_product ts)
            (weaker (r.exponents + s.exponents) limits.exponents (symbols_product ts) symbols_within);
      })
      factors (le_trans size_within limits.small) (omega (arith, o.shallow))
    where
      weaker : (n : ℕ) → n ≤ largest_exponent → (ps : List Power) → AllByRecursion (λ p. nat_abs p.exponent ≤ n) ps → AllByRecursion (λ p. nat_abs p.exponent ≤ largest_exponent) ps
      weaker n h [] all = tt
      weaker n h (p ∷ ps) all = (le_trans all.0 h, weaker n h ps all.1)

  pub product_within : IsMadeWithin (both r s) (product_of l m)
  product_within =
      let number = coefficient_under r.weight s.weight l.coefficient m.coefficient limits.weight left.coefficient right.coefficient in
      let is : IsWithin (both r s) (record { coefficient = product_fraction l.coefficient m.coefficient; term = term_product ts }) = record {
        lawful = term_lawful;
        symbols = λ symbol. subst (λ (z : ℤ). nat_abs z ≤ r.exponents + s.exponents) (sym (exponent_of_product ts symbol)) (exponents_within symbol);
        dots = degree_within;
        small = size_within;
        coefficient = number.1;
      } in
      subst (IsMadeWithin (both r s)) (sym (product_by l m plain (product_fraction l.coefficient m.coefficient) (term_product ts) number.0 (within (term_product ts) term_lawful)))
      (by (vanishes ts) is)
    where
      by : (b : Bool) → IsWithin (both r s) (record { coefficient = product_fraction l.coefficient m.coefficient; term = term_product ts })
          → IsMadeWithin (both r s) (if b then Ok None else Ok (Some (record { coefficient = product_fraction l.coefficient m.coefficient; term = term_product ts })))
      by true is = tt
      by false is = is
