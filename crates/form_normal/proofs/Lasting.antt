-- Multiplying by a single factor in place.
use Rattle.std.proofs.Common.{◌≡◌, ℕ, zero, suc, ◌*◌, ◌/◌, ◌-◌, ◌<◌, ◌≤◌, Bool, true, false, not, ◌&&◌, ◌||◌, List, [], ◌∷◌, ◌++◌, append-nil, length, get_or, refl, ap, sym, ◌∙◌, arith, ltb, is_lt, nat_cmp}
use Rattle.std.specs.Prelude.{Ok, Some, None, ℤ, pos, negsuc, ◌+ℤ◌, ◌*ℤ◌, ◌==◌, ◌%◌, sum, nat_abs, if◌then◌else◌}
use Rattle.std.specs.Bool.{OnTrue}
use Rattle.std.specs.List.{filter, list_any}
use Rattle.std.proofs.lemmas.Bool.{le-leb, lt-ltb}
use Rattle.std.proofs.lemmas.List.{length-append}
use Rattle.std.proofs.lemmas.Int.{ints}
use Rattle.std.specs.Int.{cast_unsigned, w32}
use Rattle.std.specs.declared.cmp.Ordering.{Ordering}
use Rattle.std.specs.declared.cmp.Ordering.TheVariants.{Less, Equal, Greater}
use Rattle.std.proofs.lemmas.Cmp.{ranked}
use Rattle.std.proofs.lemmas.List.Elements.{All-nil, All-cons, All-append}
use Rattle.form_frac.specs.Fraction.{Fraction, IsLowest, whole, over, reduced, in_range, multiply, gcd, divisor_from}
use Rattle.form_term.specs.declared.power.Power.{Power}
use Rattle.form_term.specs.declared.index.Delta.{Delta}
use Rattle.form_term.specs.declared.monomial.Monomial.{Monomial}
use Rattle.form_term.specs.Monomial.{unit}
use Rattle.form_term.specs.Term.{Term, IsTerm, RiseFrom, of_symbols, one, symbol_power, exponent_in, exponent_of, reach_of, size, depth, component_order, delta_order, call_order, largest_exponent, largest_size}
use Rattle.form_term.specs.Terms.{term}
use Rattle.form_term.specs.TermLaws.{symbols_lawful, power_lawful}
use Rattle.form_normal.specs.Lists.{in_order, dots_product}
use Rattle.form_normal.specs.Product.{is_one, is_zero, is_fixed, symbols_product, others_product, term_product, turned, vanishes, joined, limited, product, product_of, number_alone, power_alone}
use Rattle.form_normal.specs.Factors.{IsPresent, IsInRange}
use Rattle.form_normal.proofs.Limits.{are_in_range_from, are_dots_in_range_from}
use Rattle.form_normal.proofs.Order.{in_order_same}
use Rattle.form_normal.proofs.Dots.{dots_same}
use Rattle.form_normal.proofs.Parts.{product_made}
use Rattle.form_normal.proofs.Powers.{exponent_append, rise_behind, product_from}

-- ---- 1 as a coefficient

times_one : (z : ℤ) → z *ℤ pos 1 ≡ z
times_one z = omega (arith, ints)

one_times : (z : ℤ) → pos 1 *ℤ z ≡ z
one_times z = omega (arith, ints)

over_one : (z : ℤ) → over z 1 ≡ z
over_one (pos n) = ap pos (omega arith)
over_one (negsuc n) = let e : suc n / 1 ≡ suc n = omega arith in rw e refl

-- a fraction in lowest terms
reduced_again : (f : Fraction) → IsLowest f → in_range (reduced f.numerator f.denominator) ≡ Some f
unfolding reduced
reduced_again f l =
    let below : f.denominator / 1 ≡ f.denominator = omega arith in
    rw (l.is_coprime, over_one f.numerator, below, le-leb _ _ l.is_small_above, le-leb _ _ l.is_small_below) refl

pub multiply_one : (f : Fraction) → IsLowest f → multiply f (whole (pos 1)) ≡ Some f
unfolding multiply
multiply_one f l =
    let d : f.denominator * 1 ≡ f.denominator = omega arith in
    rw (times_one f.numerator, d) (reduced_again f l)

one_multiply : (f : Fraction) → IsLowest f → multiply (whole (pos 1)) f ≡ Some f
unfolding multiply
one_multiply f l =
    let d : 1 * f.denominator ≡ f.denominator = omega arith in
    rw (one_times f.numerator, d) (reduced_again f l)

-- ---- terms with no deltas of two fixed indices

pub either_false : (a b : Bool) → (a || b) ≡ false → (a ≡ false) × (b ≡ false)
either_false true b e = cc
either_false false b e = (refl, e)

pub no_zeros : (ds : List Delta) → list_any is_fixed ds ≡ false → list_any is_zero ds ≡ false
no_zeros [] e = refl
no_zeros (d ∷ ds) e =
    let both = either_false (is_fixed d) (list_any is_fixed ds) e in
    let here = either_false (is_one d) (is_zero d) both.0 in
    rw here.1 (no_zeros ds both.1)

-- and so a product with another that has no deltas isn't 0
pub no_zeros_in : (ds : List Delta) → list_any is_fixed ds ≡ false → (list_any is_zero ds || false) ≡ false
no_zeros_in ds e = rw (no_zeros ds e) refl

pub all_kept : (ds : List Delta) → list_any is_fixed ds ≡ false → filter (λ d. not (is_one d)) ds ≡ ds
all_kept [] e = refl
all_kept (d ∷ ds) e =
    let both = either_false (is_fixed d) (list_any is_fixed ds) e in
    let here = either_false (is_one d) (is_zero d) both.0 in
    rw here.0 (ap (λ xs. d ∷ xs) (all_kept ds both.1))

pub odd : (b : Bool) → (sum ((if b then 1 else 0) ∷ 0 ∷ []) % 2 == 1) ≡ b
odd true = refl
odd false = refl

-- beside powers of symbols, the others of a term stay
others_kept : (t : Term) (ps : List Power) → IsTerm t → list_any is_fixed t.others.deltas ≡ false → others_product (t ∷ of_symbols ps ∷ []) ≡ t.others
unfolding others_product
others_kept t ps lawful e =
    let o = t.others in
    let h = lawful.others in
    let imaginary = odd o.is_imaginary in
    let dots = ap dots_product (append-nil o.dots) ∙ dots_same o.dots h.dots_rise in
    let components = ap (in_order component_order) (append-nil o.components) ∙ in_order_same component_order o.components h.components_rise in
    let deltas = ap (λ ds. filter (λ (d : Delta). not (is_one d)) (in_order delta_order ds)) (append-nil o.deltas) ∙ ap (λ ds. filter (λ (d : Delta). not (is_one d)) ds) (in_order_same delta_order o.deltas h.deltas_rise) ∙ all_kept o.deltas e in
    let functions = ap (in_order call_order) (append-nil o.functions) ∙ in_order_same call_order o.functions h.functions_rise in
    let word = append-nil o.word in
    λ i. record { is_imaginary = imaginary i; dots = dots i; components = components i; deltas = deltas i; functions = functions i; word = word i }

-- a term within the limits
pub within : (t : Term) → IsTerm t → limited t ≡ Ok t
within t lawful =
    rw (are_in_range_from t.symbols lawful.in_range, are_dots_in_range_from t.others.dots lawful.others.dots_in_range, le-leb (size t) 4096 lawful.small, le-leb (depth t) 64 lawful.shallow) refl

-- the product of such a term and powers of symbols
kept_made : (m : Monomial) (c : Fraction) (f : Fraction) (ps made : List Power) → IsTerm m.term → IsTerm (term made m.term.others) → list_any is_fixed m.term.others.deltas ≡ false
    → multiply m.coefficient f ≡ Some c → made ≡ symbols_product (m.term ∷ of_symbols ps ∷ [])
    → product_of m (record { coefficient = f; term = of_symbols ps }) ≡ Ok (Some (record { coefficient = c; term = term made m.term.others }))
kept_made m c f ps made lawful after e times is =
    let o : m.term.others ≡ others_product (m.term ∷ of_symbols ps ∷ []) = sym (others_kept m.term ps lawful e) in
    let whole_term : term made m.term.others ≡ term_product (m.term ∷ of_symbols ps ∷ []) = λ i. record { symbols = is i; others = o i } in
    product_made m (record { coefficient = f; term = of_symbols ps }) c c (term made m.term.others) (no_zeros_in m.term.others.deltas e) times (same m.term.others.is_imaginary) (ap limited (sym whole_term) ∙ within (term made m.term.others) after)
  where
    same : (b : Bool) → c ≡ turned (b && false) c
    same true = refl
    same false = refl

-- a number multiplies the coefficient
pub number_made : (m : Monomial) (number c : Fraction) → IsTerm m.term → list_any is_fixed m.term.others.deltas ≡ false → multiply m.coefficient number ≡ Some c → product_of m (number_alone number) ≡ Ok (Some (record { coefficient = c; term = m.term }))
number_made m number c lawful e times =
    kept_made m c number [] m.term.symbols lawful lawful e times (product_from m.term.symbols (m.term ∷ one ∷ []) lawful.rising lawful.present (λ symbol. add (exponent_of m.term symbol)))
  where
    add : (x : ℤ) → x ≡ x +ℤ (pos 0 +ℤ pos 0)
    add x = omega (arith, ints)

-- ---- a power that goes last

-- what an answer says that tells whether a number is below another
pub on_less : (r : Bool) (a b : ℕ) (P : Type 0) → r ≡ is_lt (nat_cmp a b) → (a < b → P) → OnTrue r P
on_less r a b P e h = at (nat_cmp a b) refl e
  where
    at : (o : Ordering) → nat_cmp a b ≡ o → r ≡ is_lt o → OnTrue r P
    at Less f e = rw e (h (ranked a b Less (sym f)))
    at Equal f e = rw e tt
    at Greater f e = rw e tt

pub present : (z : ℤ) → (cast_unsigned w32 z ≡ 0 → ⊥) → 0 < nat_abs z
present (pos n) h = omega arith
present (negsuc n) h = omega arith

-- powers that rise reach as far as the last of them
pub reach_of_last : (from symbol : ℕ) (ps : List Power) (last : Power) → RiseFrom from ps → 0 < length ps → last ≡ get_or ps (length ps - 1) last → last.symbol < symbol → reach_of ps ≤ symbol
reach_of_last from symbol [] last rise some e below = absurd (omega arith)
reach_of_last from symbol (q ∷ []) last rise some e below = let same : last.symbol ≡ q.symbol = ap (λ (p : Power). p.symbol) e in omega arith
reach_of_last from symbol (q ∷ r ∷ rs) last rise some e below =
    let count : length (q ∷ r ∷ rs) - 1 ≡ suc (length (r ∷ rs) - 1) = omega arith in
    let here : last ≡ get_or (r ∷ rs) (length (r ∷ rs) - 1) last = e ∙ ap (λ (n : ℕ). get_or (q ∷ r ∷ rs) n last) count in
    let rest = reach_of_last (suc q.symbol) symbol (r ∷ rs) last rise.1 (omega arith) here below in
    omega (arith, rise.1.0)

-- a power behind those of a term
module _ (t : Term) (p : Power) (lawful : IsTerm t) (behind : reach_of t.symbols ≤ p.symbol) (there : 0 < nat_abs p.exponent) where
  pub pushed_is_term : size t < largest_size → nat_abs p.exponent ≤ largest_exponent → IsTerm (term (t.symbols ++ p ∷ []) t.others)
  pushed_is_term room fits = record {
    rising = rise_behind t.symbols (p ∷ []) lawful.rising (behind, tt);
    present = All-append IsPresent t.symbols (p ∷ []) lawful.present (All-cons IsPresent p [] there (All-nil IsPresent));
    in_range = All-append IsInRange t.symbols (p ∷ []) lawful.in_range (All-cons IsInRange p [] fits (All-nil IsInRange));
    others = lawful.others;
    small = omega (arith, length-append t.symbols (p ∷ []));
    shallow = lawful.shallow;
  }

alone_is : (p : Power) → 0 < nat_abs p.exponent → symbol_power p.symbol p.exponent ≡ of_symbols (p ∷ [])
unfolding symbol_power
alone_is p there = let e : ltb 0 (nat_abs p.exponent) ≡ true = lt-ltb 0 (nat_abs p.exponent) there in rw e refl

rise_past : (from : ℕ) (ps : List Power) (p : Power) → RiseFrom from (ps ++ p ∷ []) → from ≤ p.symbol
rise_past from [] p rise = rise.0
rise_past from (q ∷ ps) p rise = let rest = rise_past (suc q.symbol) ps p rise.1 in omega (arith, rise.0)

-- the last of powers that rise is behind the others
last_rises : (from : ℕ) (ps : List Power) (p : Power) → RiseFrom from (ps ++ p ∷ []) → RiseFrom (reach_of ps) (p ∷ [])
last_rises from [] p rise = (omega arith, tt)
last_rises from (q ∷ ps) p rise =
    let rest = last_rises (suc q.symbol) ps p rise.1 in
    let past = rise_past (suc q.symbol) ps p rise.1 in
    (omega (arith, rest.0, past), tt)

-- a power that goes last
pub power_made : (m : Monomial) (p : Power) → IsLowest m.coefficient → IsTerm m.term → IsTerm (term (m.term.symbols ++ p ∷ []) m.term.others) → 0 < nat_abs p.exponent → list_any is_fixed m.term.others.deltas ≡ false
    → product_of m (power_alone p) ≡ Ok (Some (record { coefficient = m.coefficient; term = term (m.term.symbols ++ p ∷ []) m.term.others }))
power_made m p lowest lawful after there e =
    let ps = m.term.symbols in
    let made = product_from (ps ++ p ∷ []) (m.term ∷ of_symbols (p ∷ []) ∷ []) after.rising after.present
    (λ symbol. exponent_append ps (p ∷ []) symbol (last_rises 0 ps p after.rising) ∙ add (exponent_in ps symbol) (exponent_in (p ∷ []) symbol)) in
    let factor : power_alone p ≡ record { coefficient = whole (pos 1); term = of_symbols (p ∷ []) } = ap (λ t. record { coefficient = whole (pos 1); term = t }) (alone_is p there) in
    ap (product_of m) factor ∙ kept_made m m.coefficient (whole (pos 1)) (p ∷ []) (ps ++ p ∷ []) lawful after e (multiply_one m.coefficient lowest) made
  where
    add : (x y : ℤ) → x +ℤ y ≡ x +ℤ (y +ℤ pos 0)
    add x y = omega (arith, ints)

-- ---- 1 times a factor

pub one_is_lowest : IsLowest (whole (pos 1))
unfolding gcd divisor_from
one_is_lowest = record { is_over_some = omega arith; is_coprime = refl; is_small_above = omega arith; is_small_below = omega arith }

pub none_lawful : IsTerm one
none_lawful = symbols_lawful [] (tt, All-nil IsPresent) (All-nil IsInRange) (omega arith)

-- powers of symbols
by_one : (f : Fraction) (ps : List Power) → IsLowest f → IsTerm (of_symbols ps) → product_of unit (record { coefficient = f; term = of_symbols ps }) ≡ Ok (Some (record { coefficient = f; term = of_symbols ps }))
by_one f ps lowest lawful =
    kept_made unit f f ps ps none_lawful lawful refl (one_multiply f lowest) (product_from ps (one ∷ of_symbols ps ∷ []) lawful.rising lawful.present (λ symbol. add (exponent_in ps symbol)))
  where
    add : (x : ℤ) → x ≡ pos 0 +ℤ (x +ℤ pos 0)
    add x = omega (arith, ints)

pub number_by_one : (f : Fraction) → IsLowest f → product_of unit (number_alone f) ≡ Ok (Some (number_alone f))
number_by_one f lowest = by_one f [] lowest none_lawful

none_alone : (symbol : ℕ) → symbol_power symbol (pos 0) ≡ one
unfolding symbol_power
none_alone symbol = refl

power_alone_by_one : (p : Power) → 0 < nat_abs p.exponent → nat_abs p.exponent ≤ largest_exponent → product_of unit (power_alone p) ≡ Ok (Some (power_alone p))
power_alone_by_one p there h =
    let factor : power_alone p ≡ record { coefficient = whole (pos 1); term = of_symbols (p ∷ []) } = ap (λ t. record { coefficient = whole (pos 1); term = t }) (alone_is p there) in
    rw factor (by_one (whole (pos 1)) (p ∷ []) one_is_lowest (power_lawful p there h))

pub power_by_one : (p : Power) → nat_abs p.exponent ≤ largest_exponent → product_of unit (power_alone p) ≡ Ok (Some (power_alone p))
power_by_one p h = at p.exponent refl
  where
    at : (k : ℤ) → p.exponent ≡ k → product_of unit (power_alone p) ≡ Ok (Some (power_alone p))
    at (pos zero) e =
        let factor : power_alone p ≡ number_alone (whole (pos 1)) = ap (λ t. record { coefficient = whole (pos 1); term = t }) (ap (symbol_power p.symbol) e ∙ none_alone p.symbol) in
        rw factor (number_by_one (whole (pos 1)) one_is_lowest)
    at (pos (suc k)) e = power_alone_by_one p (rw e (omega arith)) h
    at (negsuc k) e = power_alone_by_one p (rw e (omega arith)) h

-- the product of one factor

one_others : (t : Term) → others_product (one ∷ t ∷ []) ≡ others_product (t ∷ [])
unfolding others_product
one_others t = λ i. record {
  is_imaginary = imaginary t.others.is_imaginary i;
  dots = dots_product (t.others.dots ++ []);
  components = in_order component_order (t.others.components ++ []);
  deltas = filter (λ (d : Delta). not (is_one d)) (in_order delta_order (t.others.deltas ++ []));
  functions = in_order call_order (t.others.functions ++ []);
  word = t.others.word ++ [];
}
  where
    imaginary : (b : Bool) → (sum (0 ∷ (if b then 1 else 0) ∷ []) % 2 == 1) ≡ (sum ((if b then 1 else 0) ∷ []) % 2 == 1)
    imaginary true = refl
    imaginary false = refl

one_symbols : (t : Term) → IsTerm t → symbols_product (one ∷ t ∷ []) ≡ symbols_product (t ∷ [])
one_symbols t lawful =
    sym (product_from t.symbols (one ∷ t ∷ []) lawful.rising lawful.present (λ symbol. before (exponent_of t symbol))) ∙ product_from t.symbols (t ∷ []) lawful.rising lawful.present (λ symbol. alone (exponent_of t symbol))
  where
    before : (x : ℤ) → x ≡ pos 0 +ℤ (x +ℤ pos 0)
    before x = omega (arith, ints)

    alone : (x : ℤ) → x ≡ x +ℤ pos 0
    alone x = omega (arith, ints)

no_turn : (b : Bool) → ((sum (0 ∷ (if b then 1 else 0) ∷ []) / 2) % 2 == 1) ≡ ((sum ((if b then 1 else 0) ∷ []) / 2) % 2 == 1)
no_turn true = refl
no_turn false = refl

pub one_alone : (m : Monomial) → IsLowest m.coefficient → IsTerm m.term → product_of unit m ≡ product (m ∷ [])
unfolding product
one_alone m lowest lawful =
    let term : term_product (one ∷ m.term ∷ []) ≡ term_product (m.term ∷ []) = λ i. record { symbols = one_symbols m.term lawful i; others = one_others m.term i } in
    rw (one_multiply m.coefficient lowest) (λ i. if vanishes (m.term ∷ []) then Ok None else joined (Some (turned (no_turn m.term.others.is_imaginary i) m.coefficient)) (limited (term i)))
