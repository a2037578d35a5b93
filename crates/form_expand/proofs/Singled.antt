-- Lists of factors that are one term can be recorded.
use Rattle.std.proofs.Common.{◌≡◌, ℕ, zero, suc, ◌<◌, ◌≤◌, Bool, true, false, cond, List, [], ◌∷◌, if◌then◌else◌, Option, Some, None, Result, Ok, Err, IfOk, option_and_then, ℤ, pos, negsuc, neg_ℤ, nat_abs, nat_le, refl, sym, ap, subst, arith, leb-true, leb-false}
use Rattle.std.specs.List.{AllByRecursion}
use Rattle.std.specs.Ordering.{is_gt, ordering_reverse}
use Rattle.std.specs.declared.cmp.Ordering.{Ordering}
use Rattle.std.specs.declared.cmp.Ordering.TheVariants.{Less, Equal, Greater}
use Rattle.std.proofs.lemmas.Option.{same_Some, none-some}
use Rattle.std.proofs.lemmas.List.Elements.{recursion_from_All, All-from_recursion}
use Rattle.form_base.specs.declared.cause.Cause.{Cause}
use Rattle.form_base.specs.declared.cause.Cause.TheVariants.{Overflow, PowerRange}
use Rattle.form_frac.specs.Fraction.{Fraction, IsLowest, whole, largest, make, multiply, is_zero, reciprocal}
use Rattle.form_frac.specs.declared.frac_error.FracError.{FracError}
use Rattle.form_frac.specs.declared.frac_error.FracError.TheVariants as errors
use Rattle.form_term.specs.contracts.index.IndexOrd.TheImpl.Laws as index_laws
use Rattle.form_term.specs.declared.index.Component.{Component}
use Rattle.form_term.specs.declared.index.Delta.{Delta}
use Rattle.form_term.specs.declared.index.Index.{Index}
use Rattle.form_term.specs.declared.monomial.Monomial.{Monomial}
use Rattle.form_term.specs.declared.power.DotPower.{DotPower}
use Rattle.form_term.specs.Factor.{dot_of, delta_of, imaginary_factor, dot_factor, component_factor, delta_factor, function_factor, non_commuting_factor}
use Rattle.form_term.specs.Monomial.{unit}
use Rattle.form_term.specs.Named.{Place, Places, symbol_place, function_place, word_place, IsAt, IsIndexNamed, IsPowerNamed, IsDotNamed, IsPairNamed, IsComponentNamed, IsDeltaNamed, IsCallNamed, IsArgumentNamed, IsSoundArgument, IsSummand}
use Rattle.form_term.specs.Term.{Term, Argument, IsTerm, IsCall, IsArgumentOf, call_of, index_order, symbol_power, largest_exponent}
use Rattle.form_term.proofs.Coefficients.{IsCoefficient, one_is_coefficient, made_lowest, product_is_coefficient, reciprocal_is_coefficient}
use Rattle.form_term.proofs.Each.{each_append, each_map, each_weaker}
use Rattle.form_term.proofs.Named.{arguments_pieces}
use Rattle.form_term.proofs.Nesting.{call_lawful}
use Rattle.form_tree.specs.Placed.{function_place_of}
use Rattle.form_collect.specs.Collecting.{collected}
use Rattle.form_collect.proofs.Summands.{collected_argument}
use Rattle.form_normal.specs.Product.{product}
use Rattle.form_normal.specs.Recordable.{IsRecordable, IsFactor}
use Rattle.form_normal.proofs.Recordable.{each_from, product_is_recordable, number_recordable, unit_recordable, power_recordable}
use Rattle.form_expand.specs.Bound.{is_invertible, turned_power, turned_dot, turned_exponents, inverted_by, inverse}
use Rattle.form_expand.specs.Listing.{Listing, nothing, single, refusal}
use Rattle.form_expand.specs.Numbers.{raised, of_coefficient, of_fraction, number_list, symbol_list}
use Rattle.form_expand.specs.Singles.{once, alone, imaginary_list, dot_list, component_list, delta_list, of_collected, argument_by, argument_of, one_argument, with_arguments, list_of_call, function_list}
use Rattle.form_expand.specs.Sound.{AreSummands, AreRecordable}
use Rattle.form_expand.proofs.Listed.{in_product}

-- ---- numbers

raised_number : (f : Fraction) → IsCoefficient f → (k : ℕ) (g : Fraction) → raised f k ≡ Some g → IsCoefficient g
unfolding raised
raised_number f h zero g e = subst IsCoefficient (same_Some (whole (pos 1)) g e) one_is_coefficient
raised_number f h (suc zero) g e = subst IsCoefficient (same_Some f g e) h
raised_number f h (suc (suc k)) g e = by (raised f (suc k)) refl (λ p i. raised_number f h (suc k) p i) e
  where
    by : (o : Option Fraction) → raised f (suc k) ≡ o → ((p : Fraction) → raised f (suc k) ≡ Some p → IsCoefficient p) → option_and_then (λ (p : Fraction). multiply p f) o ≡ Some g → IsCoefficient g
    by None i rest j = absurd (none-some g j)
    by (Some p) i rest j = product_is_coefficient p f g (rest p i) h j

-- ---- what factors are made of

turned_back : (o p : Ordering) → p ≡ ordering_reverse o → is_gt o ≡ true → is_gt p ≡ false
turned_back Less p e h = cc
turned_back Equal p e h = cc
turned_back Greater p e h = ap is_gt e

abbrev IsTurned : Delta → Type 0
IsTurned d = is_gt (index_order d.first d.second) ≡ false

delta_turned : (i j : Index) → IsTurned (delta_of i j)
delta_turned i j = at (is_gt (index_order i j)) refl
  where
    at : (b : Bool) → is_gt (index_order i j) ≡ b → IsTurned (cond b (record { first = j; second = i }) (record { first = i; second = j }))
    at true e = turned_back (index_order i j) (index_order j i) (index_laws.total-law.antisymm j i) e
    at false e = e

abbrev dot_by : ℕ → ℕ → ℤ → Bool → DotPower
dot_by p q k b = if b then record { left = p; right = q; exponent = k } else record { left = q; right = p; exponent = k }

dot_turned : (p q : ℕ) (k : ℤ) → (dot_of p q k).left ≤ (dot_of p q k).right
dot_turned p q k = at (nat_le p q) refl
  where
    at : (b : Bool) → nat_le p q ≡ b → (dot_by p q k b).left ≤ (dot_by p q k b).right
    at true e = leb-true p q e
    at false e = let above = leb-false p q e in omega (arith, above)

dot_exponent : (p q : ℕ) (k : ℤ) → (dot_of p q k).exponent ≡ k
dot_exponent p q k = at (nat_le p q)
  where
    at : (b : Bool) → (dot_by p q k b).exponent ≡ k
    at true = refl
    at false = refl

module _ (names : Places) where
  in_coefficient : (o : Option Fraction) → ((f : Fraction) → o ≡ Some f → IsCoefficient f) → AreRecordable names (of_coefficient o)
  in_coefficient None h = tt
  in_coefficient (Some f) h = (number_recordable names f (h f refl), tt)

  in_fraction : (r : Result Fraction FracError) (k : ℕ) → ((f : Fraction) → r ≡ Ok f → IsLowest f) → AreRecordable names (of_fraction r k)
  in_fraction (Err errors.Overflow) k h = tt
  in_fraction (Err errors.DivideByZero) k h = tt
  in_fraction (Ok f) k h = by (is_zero f) refl
    where
      by : (b : Bool) → is_zero f ≡ b → AreRecordable names (if b then nothing else of_coefficient (raised f k))
      by true e = tt
      by false e = in_coefficient (raised f k) (λ g i. raised_number f (h f refl, e) k g i)

  pub number_listed : (n : ℕ) (k : ℤ) → AreRecordable names (number_list n k)
  unfolding number_list
  number_listed n (pos zero) = (unit_recordable names, tt)
  number_listed n (pos (suc k)) = by (nat_le n largest)
    where
      by : (b : Bool) → AreRecordable names (if b then of_fraction (make (pos n) (pos 1)) (suc k) else refusal Overflow)
      by true = in_fraction (make (pos n) (pos 1)) (suc k) (made_lowest (pos n) (pos 1))
      by false = tt
  number_listed n (negsuc k) = by (nat_le n largest)
    where
      by : (b : Bool) → AreRecordable names (if b then of_fraction (make (pos 1) (pos n)) (suc k) else refusal Overflow)
      by true = in_fraction (make (pos 1) (pos n)) (suc k) (made_lowest (pos 1) (pos n))
      by false = tt

  pub symbol_listed : (s : ℕ) (k : ℤ) → IsAt symbol_place names s → AreRecordable names (symbol_list s k)
  unfolding symbol_list
  symbol_listed s k h = by (nat_le (nat_abs k) largest_exponent) refl
    where
      by : (b : Bool) → nat_le (nat_abs k) largest_exponent ≡ b → AreRecordable names (if b then single (record { coefficient = whole (pos 1); term = symbol_power s k }) else refusal PowerRange)
      by true e = (power_recordable names (record { symbol = s; exponent = k }) (leb-true (nat_abs k) largest_exponent e) h, tt)
      by false e = tt

  -- ---- one factor as a product

  alone_listed : (t : Term) → IsFactor names (once t) → AreRecordable names (alone t)
  unfolding alone
  alone_listed t h = in_product (IsRecordable names) (product (once t ∷ [])) (λ m e. product_is_recordable names (once t ∷ []) m (h, tt) e)

  pub imaginary_listed : AreRecordable names imaginary_list
  imaginary_listed = alone_listed imaginary_factor (record {
    named = record { symbols = tt; dots = tt; components = tt; deltas = tt; functions = tt; word = tt };
    each = each_from imaginary_factor.others tt tt tt tt tt;
    lowest = one_is_coefficient.0;
    present = one_is_coefficient.1;
  })

  pub component_listed : (c : Component) → IsComponentNamed names c → AreRecordable names (component_list c)
  component_listed c h = alone_listed (component_factor c) (record {
    named = record { symbols = tt; dots = tt; components = (h, tt); deltas = tt; functions = tt; word = tt };
    each = each_from (component_factor c).others tt tt tt tt tt;
    lowest = one_is_coefficient.0;
    present = one_is_coefficient.1;
  })

  pub delta_named : (i j : Index) → IsIndexNamed names i → IsIndexNamed names j → IsDeltaNamed names (delta_of i j)
  delta_named i j h k = by (is_gt (index_order i j))
    where
      by : (b : Bool) → IsDeltaNamed names (if b then record { first = j; second = i } else record { first = i; second = j })
      by true = (k, h)
      by false = (h, k)

  pub delta_listed : (i j : Index) → IsIndexNamed names i → IsIndexNamed names j → AreRecordable names (delta_list i j)
  delta_listed i j h k = alone_listed (delta_factor (delta_of i j)) (record {
    named = record { symbols = tt; dots = tt; components = tt; deltas = (delta_named i j h k, tt); functions = tt; word = tt };
    each = each_from (delta_factor (delta_of i j)).others tt tt (delta_turned i j, tt) tt tt;
    lowest = one_is_coefficient.0;
    present = one_is_coefficient.1;
  })

  dot_named : (p q : ℕ) (k : ℤ) → IsPairNamed names p q → IsDotNamed names (dot_of p q k)
  dot_named p q k h = by (nat_le p q)
    where
      by : (b : Bool) → IsDotNamed names (if b then record { left = p; right = q; exponent = k } else record { left = q; right = p; exponent = k })
      by true = h
      by false = (h.1, h.0)

  pub dot_listed : (p q : ℕ) (k : ℤ) → IsPairNamed names p q → AreRecordable names (dot_list p q k)
  unfolding dot_list
  dot_listed p q k h = by (nat_le (nat_abs k) largest_exponent)
    where
      factor : 0 < nat_abs k → IsFactor names (once (dot_factor (dot_of p q k)))
      factor some = record {
        named = record { symbols = tt; dots = (dot_named p q k h, tt); components = tt; deltas = tt; functions = tt; word = tt };
        each = each_from (dot_factor (dot_of p q k)).others (subst (λ (z : ℤ). 0 < nat_abs z) (sym (dot_exponent p q k)) some, tt) (dot_turned p q k, tt) tt tt tt;
        lowest = one_is_coefficient.0;
        present = one_is_coefficient.1;
      }

      within : (b : Bool) → nat_le (nat_abs k) 0 ≡ b → AreRecordable names (if b then single unit else alone (dot_factor (dot_of p q k)))
      within true e = (unit_recordable names, tt)
      within false e = alone_listed (dot_factor (dot_of p q k)) (factor (leb-false (nat_abs k) 0 e))

      by : (b : Bool) → AreRecordable names (if b then (if nat_le (nat_abs k) 0 then single unit else alone (dot_factor (dot_of p q k))) else refusal PowerRange)
      by true = within (nat_le (nat_abs k) 0) refl
      by false = tt

  -- ---- functions

  abbrev pub AreSound : List Argument → Type 0
  AreSound args = AllByRecursion (IsSoundArgument names) args

  pub sound_call : (f : ℕ) (args : List Argument) → AreSound args → IsCall (call_of f args)
  sound_call f args h = call_lawful (call_of f args) (record {
    arguments = args;
    written = refl;
    lawful = All-from_recursion (IsArgumentOf IsTerm) args (each_weaker (IsSoundArgument names) (IsArgumentOf IsTerm) (λ a k. k.0) args h);
  })

  pub named_call : (f : ℕ) (args : List Argument) → AreSound args → (place : Place) → IsAt place names f → IsCallNamed place names (call_of f args)
  named_call f args h place at = (at, arguments_pieces names args (each_weaker (IsSoundArgument names) (IsArgumentNamed names) (λ a k. k.1) args h))

  call_listed : (f : ℕ) (is_commuting : Bool) (args : List Argument) → AreSound args → IsAt (function_place_of is_commuting) names f → AreRecordable names (list_of_call is_commuting (call_of f args))
  call_listed f true args h at = alone_listed (function_factor (call_of f args)) (record {
    named = record { symbols = tt; dots = tt; components = tt; deltas = tt; functions = (named_call f args h function_place at, tt); word = tt };
    each = each_from (function_factor (call_of f args)).others tt tt tt (sound_call f args h, tt) tt;
    lowest = one_is_coefficient.0;
    present = one_is_coefficient.1;
  })
  call_listed f false args h at = alone_listed (non_commuting_factor (call_of f args)) (record {
    named = record { symbols = tt; dots = tt; components = tt; deltas = tt; functions = tt; word = (named_call f args h word_place at, tt) };
    each = each_from (non_commuting_factor (call_of f args)).others tt tt tt tt (sound_call f args h, tt);
    lowest = one_is_coefficient.0;
    present = one_is_coefficient.1;
  })

  pub function_listed : (f : ℕ) (is_commuting : Bool) (r : Result (List Argument) Cause) → IfOk r AreSound → IsAt (function_place_of is_commuting) names f → AreRecordable names (function_list f is_commuting r)
  function_listed f is_commuting (Err cause) h at = tt
  function_listed f is_commuting (Ok args) h at = call_listed f is_commuting args h at

  -- ---- arguments

  collected_by : (o : Option (List Monomial)) (l : List Monomial) → collected l ≡ o → AllByRecursion (IsSummand names) l → IfOk (of_collected o) (IsSoundArgument names)
  collected_by None l e h = tt
  collected_by (Some terms) l e h = collected_argument names l terms h e

  pub argument_sound : (l : Listing) → AreSummands names l → IfOk (argument_of l) (IsSoundArgument names)
  unfolding argument_of
  argument_sound l h = by l.end
    where
      by : (end : Option Cause) → IfOk (argument_by l.terms end) (IsSoundArgument names)
      by None = collected_by (collected l.terms) l.terms refl h
      by (Some cause) = tt

  pub one_sound : (r : Result Argument Cause) → IfOk r (IsSoundArgument names) → IfOk (one_argument r) AreSound
  one_sound (Err cause) h = tt
  one_sound (Ok a) h = (h, tt)

  pub with_sound : (r s : Result (List Argument) Cause) → IfOk r AreSound → IfOk s AreSound → IfOk (with_arguments r s) AreSound
  with_sound (Err cause) s h k = tt
  with_sound (Ok args) (Err cause) h k = tt
  with_sound (Ok args) (Ok more) h k = each_append (IsSoundArgument names) args more h k

  -- ---- the inverse of a term

  turned_size : (z : ℤ) → nat_abs (neg_ℤ z) ≡ nat_abs z
  turned_size (pos zero) = refl
  turned_size (pos (suc n)) = refl
  turned_size (negsuc n) = refl

  turned_factor : (m : Monomial) (c : Fraction) → IsSummand names m → IsCoefficient c → IsFactor names (record { coefficient = c; term = turned_exponents m.term })
  turned_factor m c h k =
      let o = m.term.others in
      let all = h.lawful.others in
      record {
        named = record {
          symbols = each_map (IsPowerNamed names) (IsPowerNamed names) turned_power (λ p n. n) m.term.symbols h.named.symbols;
          dots = each_map (IsDotNamed names) (IsDotNamed names) turned_dot (λ d n. n) o.dots h.named.dots;
          components = h.named.components;
          deltas = h.named.deltas;
          functions = h.named.functions;
          word = h.named.word;
        };
        each = each_from (turned_exponents m.term).others
            (each_map (λ (d : DotPower). 0 < nat_abs d.exponent) (λ (d : DotPower). 0 < nat_abs d.exponent) turned_dot (λ d n. subst (λ (e : ℕ). 0 < e) (sym (turned_size d.exponent)) n) o.dots (recursion_from_All (λ (d : DotPower). 0 < nat_abs d.exponent) o.dots all.dots_present))
            (each_map (λ (d : DotPower). d.left ≤ d.right) (λ (d : DotPower). d.left ≤ d.right) turned_dot (λ d n. n) o.dots (recursion_from_All (λ (d : DotPower). d.left ≤ d.right) o.dots all.dots_turned))
            (recursion_from_All IsTurned o.deltas all.deltas_turned)
            (recursion_from_All IsCall o.functions all.functions)
            (recursion_from_All IsCall o.word all.word);
        lowest = k.0;
        present = k.1;
      }

  inverted_listed : (m : Monomial) (o : Option Fraction) → ((c : Fraction) → o ≡ Some c → IsCoefficient c) → IsSummand names m → AreRecordable names (inverted_by m.term o)
  inverted_listed m None k h = tt
  inverted_listed m (Some c) k h =
      let n : Monomial = record { coefficient = c; term = turned_exponents m.term } in
      in_product (IsRecordable names) (product (n ∷ [])) (λ r e. product_is_recordable names (n ∷ []) r (turned_factor m c h (k c refl), tt) e)

  pub inverse_listed : (ms : List Monomial) → AllByRecursion (IsSummand names) ms → AreRecordable names (inverse ms)
  unfolding inverse
  inverse_listed [] h = tt
  inverse_listed (m ∷ []) h = by (is_invertible m.term)
    where
      by : (b : Bool) → AreRecordable names (if b then inverted_by m.term (reciprocal m.coefficient) else refusal PowerRange)
      by true = inverted_listed m (reciprocal m.coefficient) (λ c e. reciprocal_is_coefficient m.coefficient.numerator m.coefficient.denominator c h.0.lowest e) h.0
      by false = tt
  inverse_listed (m ∷ n ∷ ms) h = tt
