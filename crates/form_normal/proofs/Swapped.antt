-- The order of two factors of which one has no word.
use Rattle.std.proofs.Common.{◌≡◌, ℕ, ◌/◌, Bool, true, false, not, List, [], ◌∷◌, ◌++◌, append-nil, refl, ap, sym, ◌∙◌, arith}
use Rattle.std.specs.Prelude.{None, option_map, Ok, ℤ, pos, ◌+ℤ◌, ◌%◌, ◌==◌, sum, if◌then◌else◌}
use Rattle.std.specs.List.{filter, list_any, range_with_len}
use Rattle.std.proofs.Math.IntN.{*ℤ_comm}
use Rattle.std.proofs.Math.Nat.{mul_comm}
use Rattle.std.proofs.lemmas.Int.{ints}
use Rattle.std.proofs.lemmas.List.Elements.{recursion_from_All}
use Rattle.std.proofs.lemmas.List.Sorted.{list_any-IsPermutation, IsPermutation-append_comm}
use Rattle.form_frac.specs.Fraction.{Fraction, in_range, reduced, multiply}
use Rattle.form_term.specs.declared.index.Delta.{Delta}
use Rattle.form_term.specs.declared.index.Component.{Component}
use Rattle.form_term.specs.declared.monomial.Monomial.{Monomial}
use Rattle.form_term.specs.PowerLaws.{powers_agree}
use Rattle.form_term.specs.Term.{Term, Call, IsTerm, exponent_of, powers_of, component_order, delta_order, call_order}
use Rattle.form_term.specs.TermLaws.{component_order_total, delta_order_total, call_order_total, components_equal, deltas_equal, calls_equal}
use Rattle.form_normal.specs.Lists.{in_order, dots_product}
use Rattle.form_normal.specs.Product.{exponent_sum, reach_of_all, is_one, is_zero, symbols_product, others_product, term_product, turned, joined, limited, product, product_of}
use Rattle.form_normal.proofs.Dots.{IsThere, dots_swapped}
use Rattle.form_normal.proofs.Order.{in_order_alike}

multiply_swapped : (c d : Fraction) → multiply c d ≡ multiply d c
unfolding multiply
multiply_swapped c d =
    let above = *ℤ_comm c.numerator d.numerator in
    let below = mul_comm c.denominator d.denominator in
    λ i. in_range (reduced (above i) (below i))

imaginary_swapped : (a b : Bool) → (sum ((if a then 1 else 0) ∷ (if b then 1 else 0) ∷ []) % 2 == 1) ≡ (sum ((if b then 1 else 0) ∷ (if a then 1 else 0) ∷ []) % 2 == 1)
imaginary_swapped true true = refl
imaginary_swapped true false = refl
imaginary_swapped false true = refl
imaginary_swapped false false = refl

sign_swapped : (a b : Bool) → ((sum ((if a then 1 else 0) ∷ (if b then 1 else 0) ∷ []) / 2) % 2 == 1) ≡ ((sum ((if b then 1 else 0) ∷ (if a then 1 else 0) ∷ []) / 2) % 2 == 1)
sign_swapped true true = refl
sign_swapped true false = refl
sign_swapped false true = refl
sign_swapped false false = refl

-- what goes by a list of both, in either order
by_both : {A B : Type 0} (F : List A → B) (xs ys : List A) → F (xs ++ ys) ≡ F (ys ++ xs) → F (xs ++ (ys ++ [])) ≡ F (ys ++ (xs ++ []))
by_both F xs ys e = ap (λ zs. F (xs ++ zs)) (append-nil ys) ∙ e ∙ ap (λ zs. F (ys ++ zs)) (sym (append-nil xs))

components_swapped : (xs ys : List Component) → in_order component_order (xs ++ ys) ≡ in_order component_order (ys ++ xs)
components_swapped xs ys = in_order_alike component_order component_order_total components_equal (xs ++ ys) (ys ++ xs) (IsPermutation-append_comm xs ys)

deltas_swapped : (xs ys : List Delta) → in_order delta_order (xs ++ ys) ≡ in_order delta_order (ys ++ xs)
deltas_swapped xs ys = in_order_alike delta_order delta_order_total deltas_equal (xs ++ ys) (ys ++ xs) (IsPermutation-append_comm xs ys)

functions_swapped : (xs ys : List Call) → in_order call_order (xs ++ ys) ≡ in_order call_order (ys ++ xs)
functions_swapped xs ys = in_order_alike call_order call_order_total calls_equal (xs ++ ys) (ys ++ xs) (IsPermutation-append_comm xs ys)

module _ (l r : Term) (left : IsTerm l) (right : IsTerm r) (no_word : r.others.word ≡ []) where
  symbols_swapped : symbols_product (l ∷ r ∷ []) ≡ symbols_product (r ∷ l ∷ [])
  unfolding symbols_product
  symbols_swapped =
      let reach : reach_of_all (l ∷ r ∷ []) ≡ reach_of_all (r ∷ l ∷ []) = omega arith in
      ap (λ (n : ℕ). powers_of (range_with_len 0 n) (exponent_sum (l ∷ r ∷ []))) reach
      ∙ powers_agree 0 (reach_of_all (r ∷ l ∷ [])) (exponent_sum (l ∷ r ∷ [])) (exponent_sum (r ∷ l ∷ [])) (λ symbol from. turn (exponent_of l symbol) (exponent_of r symbol))
    where
      turn : (x y : ℤ) → x +ℤ (y +ℤ pos 0) ≡ y +ℤ (x +ℤ pos 0)
      turn x y = omega (arith, ints)

  others_swapped : others_product (l ∷ r ∷ []) ≡ others_product (r ∷ l ∷ [])
  unfolding others_product
  others_swapped =
      let o = l.others in
      let p = r.others in
      let imaginary = imaginary_swapped o.is_imaginary p.is_imaginary in
      let dots = by_both dots_product o.dots p.dots (dots_swapped o.dots p.dots (recursion_from_All IsThere o.dots left.others.dots_present) (recursion_from_All IsThere p.dots right.others.dots_present)) in
      let components = by_both (in_order component_order) o.components p.components (components_swapped o.components p.components) in
      let deltas = ap (λ ds. filter (λ (d : Delta). not (is_one d)) ds) (by_both (in_order delta_order) o.deltas p.deltas (deltas_swapped o.deltas p.deltas)) in
      let functions = by_both (in_order call_order) o.functions p.functions (functions_swapped o.functions p.functions) in
      let word : o.word ++ (p.word ++ []) ≡ p.word ++ (o.word ++ []) = rw no_word refl in
      λ i. record { is_imaginary = imaginary i; dots = dots i; components = components i; deltas = deltas i; functions = functions i; word = word i }

-- the product of two factors of which the second has no word
pub product_swapped : (l r : Monomial) → IsTerm l.term → IsTerm r.term → r.term.others.word ≡ [] → product_of l r ≡ product_of r l
unfolding product
product_swapped l r left right no_word =
    let symbols = symbols_swapped l.term r.term left right no_word in
    let others = others_swapped l.term r.term left right no_word in
    let term : term_product (l.term ∷ r.term ∷ []) ≡ term_product (r.term ∷ l.term ∷ []) = λ i. record { symbols = symbols i; others = others i } in
    let zero = by_both (list_any is_zero) l.term.others.deltas r.term.others.deltas (list_any-IsPermutation is_zero (l.term.others.deltas ++ r.term.others.deltas) (r.term.others.deltas ++ l.term.others.deltas) (IsPermutation-append_comm l.term.others.deltas r.term.others.deltas)) in
    let sign = sign_swapped l.term.others.is_imaginary r.term.others.is_imaginary in
    let size = multiply_swapped l.coefficient r.coefficient in
    λ i. if zero i then Ok None else joined (option_map (turned (sign i)) (size i)) (limited (term i))
