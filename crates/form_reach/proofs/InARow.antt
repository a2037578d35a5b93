-- Three factors in a row: their product from the left and from the right.
use Rattle.std.proofs.Common.{◌≡◌, ℕ, ◌/◌, Bool, true, false, cond, not, List, [], ◌∷◌, ◌++◌, map, append-nil, append_assoc, refl, ap, sym, subst, ◌∙◌, arith}
use Rattle.std.specs.Prelude.{All, Option, Some, None, option_map, Result, Ok, Err, ℤ, pos, ◌+ℤ◌, ◌%◌, ◌==◌, ◌&&◌, ◌||◌, nat_le, sum, if◌then◌else◌}
use Rattle.std.specs.List.{AllByRecursion, filter, flat_map, list_any}
use Rattle.std.specs.List.Sorted.{IsPermutation}
use Rattle.std.specs.Cmp.{IsTotalOrder}
use Rattle.std.specs.declared.cmp.Ordering.{Ordering}
use Rattle.std.specs.declared.cmp.Ordering.TheVariants.{Equal}
use Rattle.std.proofs.lemmas.Int.{ints}
use Rattle.std.proofs.lemmas.List.Elements.{recursion_from_All}
use Rattle.std.proofs.lemmas.List.Sorted.{IsPermutation-sym, IsPermutation-append_left, IsPermutation-append_right, list_any-IsPermutation}
use Rattle.form_base.specs.declared.cause.Cause.{Cause}
use Rattle.form_base.specs.declared.cause.Cause.TheVariants.{PowerRange, TermSize}
use Rattle.form_frac.specs.Fraction.{Fraction, in_range, multiply}
use Rattle.form_frac.specs.Weight.{product as product_fraction}
use Rattle.form_frac.proofs.Reduced.{product_product}
use Rattle.form_frac.proofs.Within.{multiply_made}
use Rattle.form_term.specs.declared.index.Delta.{Delta}
use Rattle.form_term.specs.declared.power.DotPower.{DotPower}
use Rattle.form_term.specs.declared.monomial.Monomial.{Monomial}
use Rattle.form_term.specs.Term.{Term, Others, IsTerm, largest_size, largest_depth, size, depth, exponent_of, component_order, delta_order, call_order}
use Rattle.form_term.specs.TermLaws.{component_order_total, call_order_total, components_equal, calls_equal}
use Rattle.form_normal.specs.Lists.{in_order, dots_product, exponent_at}
use Rattle.form_normal.specs.Product.{are_in_range, are_dots_in_range, is_one, is_zero, is_turned, symbols_product, others_product, term_product, coefficient_of, turned, vanishes, joined, limited, product, product_of}
use Rattle.form_normal.proofs.Dots.{IsThere, dots_from, dots_rise, dots_there, exponents_append, exponents_kept}
use Rattle.form_normal.proofs.Order.{all_append, in_order_alike, in_order_permuted, in_order_same, rises_filter}
use Rattle.form_normal.proofs.Parts.{powers_lawful}
use Rattle.form_normal.proofs.Powers.{exponent_of_product, product_from}
use Rattle.form_reach.specs.Rows.{IsLawful, IsRight, IsPlainTerm}

-- ---- lists

regrouped : {A : Type 0} (xs ys zs : List A) → (xs ++ (ys ++ [])) ++ (zs ++ []) ≡ xs ++ ((ys ++ (zs ++ [])) ++ [])
regrouped xs ys zs =
    append_assoc xs (ys ++ []) (zs ++ [])
    ∙ ap (λ l. xs ++ l) (ap (λ l. l ++ (zs ++ [])) (append-nil ys) ∙ sym (append-nil (ys ++ (zs ++ []))))

module _ {A : Type 0} (cmp : A → A → Ordering) (o : IsTotalOrder cmp) (exact : (x y : A) → cmp x y ≡ Equal → x ≡ y) where
  in_order_in_a_row : (xs ys zs : List A) → in_order cmp (in_order cmp (xs ++ (ys ++ [])) ++ (zs ++ [])) ≡ in_order cmp (xs ++ (in_order cmp (ys ++ (zs ++ [])) ++ []))
  in_order_in_a_row xs ys zs =
      in_order_alike cmp o exact _ _ (IsPermutation-append_left (zs ++ []) _ _ (IsPermutation-sym _ _ (in_order_permuted cmp (xs ++ (ys ++ [])))))
      ∙ ap (in_order cmp) (regrouped xs ys zs)
      ∙ in_order_alike cmp o exact _ _ (IsPermutation-append_right xs _ _ (IsPermutation-append_left [] _ _ (in_order_permuted cmp (ys ++ (zs ++ [])))))

-- ---- dot products

dots_in_a_row : (xs ys zs : List DotPower) → AllByRecursion IsThere xs → AllByRecursion IsThere ys → AllByRecursion IsThere zs
    → dots_product (dots_product (xs ++ (ys ++ [])) ++ (zs ++ [])) ≡ dots_product (xs ++ (dots_product (ys ++ (zs ++ [])) ++ []))
dots_in_a_row xs ys zs f g h =
    let left = dots_product (xs ++ (ys ++ [])) ++ (zs ++ []) in
    let nothing : AllByRecursion IsThere [] = tt in
    let first = dots_there (xs ++ (ys ++ [])) (all_append IsThere xs (ys ++ []) f (all_append IsThere ys [] g nothing)) in
    let last = dots_there (ys ++ (zs ++ [])) (all_append IsThere ys (zs ++ []) g (all_append IsThere zs [] h nothing)) in
    dots_from (dots_product left) (xs ++ (dots_product (ys ++ (zs ++ [])) ++ [])) (dots_rise left)
    (dots_there left (all_append IsThere (dots_product (xs ++ (ys ++ []))) (zs ++ []) first (all_append IsThere zs [] h nothing)))
    (all_append IsThere xs (dots_product (ys ++ (zs ++ [])) ++ []) f (all_append IsThere (dots_product (ys ++ (zs ++ []))) [] last nothing))
    (λ p q.
    exponents_kept left p q ∙ exponents_append (dots_product (xs ++ (ys ++ []))) (zs ++ []) p q
    ∙ ap (λ (z : ℤ). z +ℤ exponent_at (zs ++ []) p q) (exponents_kept (xs ++ (ys ++ [])) p q)
    ∙ sym (exponents_append (xs ++ (ys ++ [])) (zs ++ []) p q)
    ∙ ap (λ ds. exponent_at ds p q) (regrouped xs ys zs)
    ∙ exponents_append xs ((ys ++ (zs ++ [])) ++ []) p q
    ∙ ap (λ (z : ℤ). exponent_at xs p q +ℤ z)
    (exponents_append (ys ++ (zs ++ [])) [] p q ∙ ap (λ (z : ℤ). z +ℤ pos 0) (sym (exponents_kept (ys ++ (zs ++ [])) p q)) ∙ sym (exponents_append (dots_product (ys ++ (zs ++ []))) [] p q))
    ∙ sym (exponents_append xs (dots_product (ys ++ (zs ++ [])) ++ []) p q))

-- ---- deltas, which the first factor alone has

abbrev kept : List Delta → List Delta
kept ds = filter (λ d. not (is_one d)) ds

kept_again : (ds : List Delta) → kept (kept ds) ≡ kept ds
kept_again [] = refl
kept_again (d ∷ ds) = step (is_one d) refl (kept_again ds)
  where
    step : (b : Bool) → is_one d ≡ b → kept (kept ds) ≡ kept ds → kept (cond (not b) (d ∷ kept ds) (kept ds)) ≡ cond (not b) (d ∷ kept ds) (kept ds)
    step true e rest = rest
    step false e rest = rw e (ap (λ l. d ∷ l) rest)

kept_none : (ds : List Delta) → list_any is_zero ds ≡ false → list_any is_zero (kept ds) ≡ false
kept_none [] e = refl
kept_none (d ∷ ds) e = step (is_zero d) (is_one d) refl (kept_none ds) e
  where
    step : (z b : Bool) → is_zero d ≡ z → (list_any is_zero ds ≡ false → list_any is_zero (kept ds) ≡ false) → (z || list_any is_zero ds) ≡ false
        → list_any is_zero (cond (not b) (d ∷ kept ds) (kept ds)) ≡ false
    step true b f rest g = absurd (cc)
    step false true f rest g = rest g
    step false false f rest g = rw f (rest g)

-- ---- the product of two factors

-- what a product was made of
pub record IsMade (l r x : Monomial) : Type 0 where
  pub there : vanishes (l.term ∷ r.term ∷ []) ≡ false
  pub coefficient : Fraction
  pub multiplied : multiply l.coefficient r.coefficient ≡ Some coefficient
  pub turned : x.coefficient ≡ turned (is_turned (l.term ∷ r.term ∷ [])) coefficient
  pub term : limited (term_product (l.term ∷ r.term ∷ [])) ≡ Ok x.term

same_product : (r : Result (Option Monomial) Cause) (m n : Monomial) → r ≡ Ok (Some m) → r ≡ Ok (Some n) → m ≡ n
same_product r m n e f = cc

module _ (l r : Monomial) where
  abbrev ts : List Term
  ts = l.term ∷ r.term ∷ []

  pub made_of : (x : Monomial) → product_of l r ≡ Ok (Some x) → IsMade l r x
  unfolding product
  made_of x e = step (vanishes ts) (multiply l.coefficient r.coefficient) (limited (term_product ts)) refl refl refl e
    where
      step : (b : Bool) (o : Option Fraction) (t : Result Term Cause) → vanishes ts ≡ b → multiply l.coefficient r.coefficient ≡ o → limited (term_product ts) ≡ t
          → (if b then Ok None else joined (option_map (turned (is_turned ts)) o) t) ≡ Ok (Some x) → IsMade l r x
      step true o t f g h e = absurd (cc)
      step false None t f g h e = absurd (cc)
      step false (Some c) (Err cause) f g h e = absurd (cc)
      step false (Some c) (Ok t) f g h e =
          let is : record { coefficient = turned (is_turned ts) c; term = t } ≡ x = same_product (Ok (Some (record { coefficient = turned (is_turned ts) c; term = t }))) (record { coefficient = turned (is_turned ts) c; term = t }) x refl e in
          record {
            there = f;
            coefficient = c;
            multiplied = g;
            turned = sym (ap (λ (m : Monomial). m.coefficient) is);
            term = h ∙ ap (λ (m : Monomial). Ok m.term) is;
          }

  pub product_gone : vanishes (l.term ∷ r.term ∷ []) ≡ true → product_of l r ≡ Ok None
  unfolding product
  product_gone e = rw e refl

  pub gone_from : product_of l r ≡ Ok None → vanishes (l.term ∷ r.term ∷ []) ≡ true
  unfolding product
  gone_from e = step (vanishes ts) (option_map (turned (is_turned ts)) (multiply l.coefficient r.coefficient)) (limited (term_product ts)) refl e
    where
      step : (b : Bool) (o : Option Fraction) (t : Result Term Cause) → vanishes ts ≡ b → (if b then Ok None else joined o t) ≡ Ok None → vanishes ts ≡ true
      step true o t f h = f
      step false None t f h = absurd (cc)
      step false (Some c) (Err cause) f h = absurd (cc)
      step false (Some c) (Ok u) f h = absurd (cc)

-- ---- three factors

module _ (a b c : Term) (left : IsTerm a) (middle : IsTerm b) (right : IsTerm c) (plain : IsPlainTerm b) (last : IsPlainTerm c) where
  symbols_in_a_row : symbols_product (term_product (a ∷ b ∷ []) ∷ c ∷ []) ≡ symbols_product (a ∷ term_product (b ∷ c ∷ []) ∷ [])
  symbols_in_a_row =
      let ab = term_product (a ∷ b ∷ []) in
      let bc = term_product (b ∷ c ∷ []) in
      let lawful = powers_lawful (ab ∷ c ∷ []) in
      product_from (symbols_product (ab ∷ c ∷ [])) (a ∷ bc ∷ []) lawful.0 lawful.1
      (λ symbol. exponent_of_product (ab ∷ c ∷ []) symbol
      ∙ group (exponent_of a symbol) (exponent_of b symbol) (exponent_of c symbol) (exponent_of ab symbol) (exponent_of bc symbol)
      (exponent_of_product (a ∷ b ∷ []) symbol) (exponent_of_product (b ∷ c ∷ []) symbol))
    where
      group : (x y z p q : ℤ) → p ≡ x +ℤ (y +ℤ pos 0) → q ≡ y +ℤ (z +ℤ pos 0) → p +ℤ (z +ℤ pos 0) ≡ x +ℤ (q +ℤ pos 0)
      group x y z p q e f = omega (arith, ints, e, f)

  deltas_left : (others_product (term_product (a ∷ b ∷ []) ∷ c ∷ [])).deltas ≡ kept a.others.deltas
  unfolding others_product
  deltas_left =
      let own : kept (in_order delta_order (a.others.deltas ++ (b.others.deltas ++ []))) ≡ kept a.others.deltas =
      ap (λ ds. kept (in_order delta_order (a.others.deltas ++ (ds ++ [])))) plain.undelta ∙ ap (λ ds. kept (in_order delta_order ds)) (append-nil a.others.deltas)
      ∙ ap kept (in_order_same delta_order a.others.deltas left.others.deltas_rise) in
      ap (λ ds. kept (in_order delta_order (kept (in_order delta_order (a.others.deltas ++ (b.others.deltas ++ []))) ++ (ds ++ [])))) last.undelta
      ∙ ap (λ ds. kept (in_order delta_order (ds ++ []))) own
      ∙ ap (λ ds. kept (in_order delta_order ds)) (append-nil (kept a.others.deltas))
      ∙ ap kept (in_order_same delta_order (kept a.others.deltas) (rises_filter delta_order (λ d. not (is_one d)) a.others.deltas left.others.deltas_rise))
      ∙ kept_again a.others.deltas

  deltas_right : (others_product (a ∷ term_product (b ∷ c ∷ []) ∷ [])).deltas ≡ kept a.others.deltas
  unfolding others_product in_order
  deltas_right =
      ap (λ ds. kept (in_order delta_order (a.others.deltas ++ (ds ++ [])))) (none_of_both b.others.deltas c.others.deltas plain.undelta last.undelta)
      ∙ ap (λ ds. kept (in_order delta_order ds)) (append-nil a.others.deltas)
      ∙ ap kept (in_order_same delta_order a.others.deltas left.others.deltas_rise)
    where
      none_of_both : (ds es : List Delta) → ds ≡ [] → es ≡ [] → kept (in_order delta_order (ds ++ (es ++ []))) ≡ []
      none_of_both ds es e f = rw (e, f) refl

  imaginary_in_a_row : (others_product (term_product (a ∷ b ∷ []) ∷ c ∷ [])).is_imaginary ≡ (others_product (a ∷ term_product (b ∷ c ∷ []) ∷ [])).is_imaginary
  unfolding others_product
  imaginary_in_a_row = by a.others.is_imaginary b.others.is_imaginary c.others.is_imaginary plain.real last.real
    where
      by : (x y z : Bool) → y ≡ false → z ≡ false
          → (sum ((if (sum ((if x then 1 else 0) ∷ (if y then 1 else 0) ∷ []) % 2 == 1) then 1 else 0) ∷ (if z then 1 else 0) ∷ []) % 2 == 1)
          ≡ (sum ((if x then 1 else 0) ∷ (if (sum ((if y then 1 else 0) ∷ (if z then 1 else 0) ∷ []) % 2 == 1) then 1 else 0) ∷ []) % 2 == 1)
      by true y z e f = rw (e, f) refl
      by false y z e f = rw (e, f) refl

  term_in_a_row : term_product (term_product (a ∷ b ∷ []) ∷ c ∷ []) ≡ term_product (a ∷ term_product (b ∷ c ∷ []) ∷ [])
  unfolding others_product
  term_in_a_row =
      let o = a.others in
      let p = b.others in
      let q = c.others in
      let symbols = symbols_in_a_row in
      let imaginary = imaginary_in_a_row in
      let dots = dots_in_a_row o.dots p.dots q.dots (recursion_from_All IsThere o.dots left.others.dots_present) (recursion_from_All IsThere p.dots middle.others.dots_present) (recursion_from_All IsThere q.dots right.others.dots_present) in
      let components = in_order_in_a_row component_order component_order_total components_equal o.components p.components q.components in
      let deltas = deltas_left ∙ sym deltas_right in
      let functions = in_order_in_a_row call_order call_order_total calls_equal o.functions p.functions q.functions in
      let word = regrouped o.word p.word q.word in
      λ i. record { symbols = symbols i; others = record { is_imaginary = imaginary i; dots = dots i; components = components i; deltas = deltas i; functions = functions i; word = word i } }

-- ---- with their coefficients

no_turn : (x y : Bool) → (x ≡ false) → ((sum ((if y then 1 else 0) ∷ (if x then 1 else 0) ∷ []) / 2) % 2 == 1) ≡ false
no_turn x true e = rw e refl
no_turn x false e = rw e refl

turn_right : (l r : Term) → IsPlainTerm r → is_turned (l ∷ r ∷ []) ≡ false
turn_right l r plain = no_turn r.others.is_imaginary l.others.is_imaginary plain.real

by_product : (f g : Fraction) → multiply f g ≡ in_range (product_fraction f g)
unfolding multiply
by_product f g = refl

-- a term that fits its limits is what they answer
same_term : (t x : Term) → limited t ≡ Ok x → x ≡ t
same_term t x e = step (are_in_range t.symbols && are_dots_in_range t.others.dots) (nat_le (size t) largest_size && nat_le (depth t) largest_depth) e
  where
    step : (a b : Bool) → (if a then (if b then Ok t else Err TermSize) else Err PowerRange) ≡ Ok x → x ≡ t
    step true true h = cc
    step true false h = absurd (cc)
    step false b h = absurd (cc)

-- the product of two factors whose coefficients and terms have one
pub product_by : (l r : Monomial) → IsPlainTerm r.term → (f : Fraction) (t : Term) → multiply l.coefficient r.coefficient ≡ Some f → limited (term_product (l.term ∷ r.term ∷ [])) ≡ Ok t
    → product_of l r ≡ (if vanishes (l.term ∷ r.term ∷ []) then Ok None else Ok (Some (record { coefficient = f; term = t })))
unfolding product
product_by l r plain f t e g = rw (e, g, turn_right l.term r.term plain) refl

made_coefficient : (l r x : Monomial) → IsPlainTerm r.term → IsMade l r x → x.coefficient ≡ product_fraction l.coefficient r.coefficient
made_coefficient l r x plain m =
    m.turned ∙ ap (λ b. turned b m.coefficient) (turn_right l.term r.term plain) ∙ multiply_made l.coefficient r.coefficient m.coefficient m.multiplied

module _ (a b c : Monomial) (left : IsLawful a) (middle : IsRight b) (right : IsRight c) where
  zeros_of : (ds es : List Delta) → es ≡ [] → list_any is_zero (ds ++ (es ++ [])) ≡ list_any is_zero ds
  zeros_of ds es e = rw e (ap (list_any is_zero) (append-nil ds))

  a_open : vanishes (a.term ∷ b.term ∷ []) ≡ false → list_any is_zero a.term.others.deltas ≡ false
  a_open e = sym (zeros_of a.term.others.deltas b.term.others.deltas middle.plain.undelta) ∙ e

  -- the product of the last two has neither `i_` nor deltas
  plain_product : IsPlainTerm (term_product (b.term ∷ c.term ∷ []))
  unfolding others_product in_order
  plain_product = record {
    real = by b.term.others.is_imaginary c.term.others.is_imaginary middle.plain.real right.plain.real;
    undelta = none_of_both b.term.others.deltas c.term.others.deltas middle.plain.undelta right.plain.undelta;
  }
    where
      by : (y z : Bool) → y ≡ false → z ≡ false → (sum ((if y then 1 else 0) ∷ (if z then 1 else 0) ∷ []) % 2 == 1) ≡ false
      by y z e f = rw (e, f) refl

      none_of_both : (ds es : List Delta) → ds ≡ [] → es ≡ [] → kept (in_order delta_order (ds ++ (es ++ []))) ≡ []
      none_of_both ds es e f = rw (e, f) refl

  -- a product of such factors isn't 0
  pub never_zero_last : product_of b c ≡ Ok None → ⊥
  never_zero_last e = let none : true ≡ false = sym (gone_from b c e) ∙ zeros_of b.term.others.deltas c.term.others.deltas right.plain.undelta ∙ ap (list_any is_zero) middle.plain.undelta in absurd (cc)

  module _ (y : Monomial) (last : product_of b c ≡ Ok (Some y)) where
    y_is : y.term ≡ term_product (b.term ∷ c.term ∷ [])
    y_is = same_term (term_product (b.term ∷ c.term ∷ [])) y.term (made_of b c y last).term

    pub y_plain : IsPlainTerm y.term
    y_plain = subst IsPlainTerm (sym y_is) plain_product

    zeros_right : vanishes (a.term ∷ y.term ∷ []) ≡ list_any is_zero a.term.others.deltas
    zeros_right = zeros_of a.term.others.deltas y.term.others.deltas y_plain.undelta

    pub zero_first : product_of a b ≡ Ok None → product_of a y ≡ Ok None
    zero_first e = product_gone a y (zeros_right ∙ sym (zeros_of a.term.others.deltas b.term.others.deltas middle.plain.undelta) ∙ gone_from a b e)

    module _ (x : Monomial) (first : product_of a b ≡ Ok (Some x)) where
      x_is : x.term ≡ term_product (a.term ∷ b.term ∷ [])
      x_is = same_term (term_product (a.term ∷ b.term ∷ [])) x.term (made_of a b x first).term

      zeros_left : vanishes (x.term ∷ c.term ∷ []) ≡ false
      unfolding others_product
      zeros_left =
          zeros_of x.term.others.deltas c.term.others.deltas right.plain.undelta
          ∙ ap (λ (t : Term). list_any is_zero t.others.deltas) x_is
          ∙ kept_zeros
        where
          kept_zeros : list_any is_zero (others_product (a.term ∷ b.term ∷ [])).deltas ≡ false
          kept_zeros =
              kept_none (in_order delta_order (a.term.others.deltas ++ (b.term.others.deltas ++ [])))
              (sym (list_any-IsPermutation is_zero _ _ (in_order_permuted delta_order (a.term.others.deltas ++ (b.term.others.deltas ++ [])))) ∙ (made_of a b x first).there)

      pub associative : product_of x c ≡ product_of a y
      unfolding product
      associative =
          let zero : vanishes (x.term ∷ c.term ∷ []) ≡ vanishes (a.term ∷ y.term ∷ []) = zeros_left ∙ sym (zeros_right ∙ a_open (made_of a b x first).there) in
          let sign : is_turned (x.term ∷ c.term ∷ []) ≡ is_turned (a.term ∷ y.term ∷ []) = turn_right x.term c.term right.plain ∙ sym (turn_right a.term y.term y_plain) in
          let number : multiply x.coefficient c.coefficient ≡ multiply a.coefficient y.coefficient =
          by_product x.coefficient c.coefficient
          ∙ ap (λ (f : Fraction). in_range (product_fraction f c.coefficient)) (made_coefficient a b x middle.plain (made_of a b x first))
          ∙ ap in_range (sym (product_product a.coefficient b.coefficient c.coefficient))
          ∙ ap (λ (f : Fraction). in_range (product_fraction a.coefficient f)) (sym (made_coefficient b c y right.plain (made_of b c y last)))
          ∙ sym (by_product a.coefficient y.coefficient) in
          let term : term_product (x.term ∷ c.term ∷ []) ≡ term_product (a.term ∷ y.term ∷ []) =
          ap (λ (t : Term). term_product (t ∷ c.term ∷ [])) x_is
          ∙ term_in_a_row a.term b.term c.term left middle.lawful right.lawful middle.plain right.plain
          ∙ ap (λ (t : Term). term_product (a.term ∷ t ∷ [])) (sym y_is) in
          λ i. if zero i then Ok None else joined (option_map (turned (sign i)) (number i)) (limited (term i))

pub never_zero : (b c : Monomial) → IsRight b → IsRight c → product_of b c ≡ Ok None → ⊥
never_zero b c middle right e = never_zero_last b b c middle.lawful middle right e
