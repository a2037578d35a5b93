-- The names of a product are those of its factors.
use Rattle.std.proofs.Common.{◌≡◌, ℕ, ℤ, pos, ◌+ℤ◌, ◌⊎◌, inl, inr, Bool, true, false, not, cond, List, [], ◌∷◌, if◌then◌else◌, refl, sym, ap₂, subst, ◌∙◌, arith, eqb-true}
use Rattle.std.specs.Prelude.{◌==◌, nat_abs, nat_lt}
use Rattle.std.specs.List.{AllByRecursion, flat_map, range_with_len}
use Rattle.std.proofs.lemmas.Int.{ints}
use Rattle.form_term.specs.declared.power.Power.{Power}
use Rattle.form_term.specs.declared.index.Delta.{Delta}
use Rattle.form_term.specs.Term.{Term, exponent_in, exponent_of, powers_of, symbol_power, component_order, delta_order, call_order}
use Rattle.form_term.specs.Named.{Places, symbol_place, function_place, word_place, IsAt, IsPowerNamed, IsPairNamed, IsDotNamed, IsComponentNamed, IsDeltaNamed, IsCallNamed, IsNamed}
use Rattle.form_term.proofs.Each.{each_flat}
use Rattle.form_normal.specs.Lists.{in_order}
use Rattle.form_normal.specs.Product.{is_one, exponent_sum, reach_of_all, symbols_product, others_product, term_product}
use Rattle.form_normal.proofs.Dots.{all_dots}
use Rattle.form_normal.proofs.Order.{all_filter, all_in_order}

zeros : pos 0 +ℤ pos 0 ≡ pos 0
zeros = omega (arith, ints)

module _ (names : Places) where
  -- a symbol stands at its place, or its exponent is 0
  abbrev IsKnown : ℤ → ℕ → Type 0
  IsKnown e symbol = IsAt symbol_place names symbol ⊎ (e ≡ pos 0)

  in_powers : (ps : List Power) → AllByRecursion (IsPowerNamed names) ps → (symbol : ℕ) → IsKnown (exponent_in ps symbol) symbol
  in_powers [] h symbol = inr refl
  in_powers (p ∷ ps) h symbol = by (p.symbol == symbol) refl (in_powers ps h.1 symbol)
    where
      by : (b : Bool) → (p.symbol == symbol) ≡ b → IsKnown (exponent_in ps symbol) symbol → IsKnown (if b then p.exponent else exponent_in ps symbol) symbol
      by true e rest = inl (subst (λ (n : ℕ). IsAt symbol_place names n) (eqb-true p.symbol symbol e) h.0)
      by false e rest = rest

  in_factors : (ts : List Term) → AllByRecursion (IsNamed names) ts → (symbol : ℕ) → IsKnown (exponent_sum ts symbol) symbol
  in_factors [] h symbol = inr refl
  in_factors (t ∷ ts) h symbol = by (in_powers t.symbols h.0.symbols symbol) (in_factors ts h.1 symbol)
    where
      by : IsKnown (exponent_of t symbol) symbol → IsKnown (exponent_sum ts symbol) symbol → IsKnown (exponent_of t symbol +ℤ exponent_sum ts symbol) symbol
      by (inl k) rest = inl k
      by (inr e) (inl k) = inl k
      by (inr e) (inr f) = inr (ap₂ (λ (x y : ℤ). x +ℤ y) e f ∙ zeros)

  module _ (exponent : ℕ → ℤ) (known : (symbol : ℕ) → IsKnown (exponent symbol) symbol) where
    all_powers : (symbols : List ℕ) → AllByRecursion (IsPowerNamed names) (powers_of symbols exponent)
    all_powers [] = tt
    all_powers (s ∷ ss) = by (known s) (all_powers ss)
      where
        kept : (b : Bool) → IsAt symbol_place names s → AllByRecursion (IsPowerNamed names) (powers_of ss exponent)
            → AllByRecursion (IsPowerNamed names) (cond b (record { symbol = s; exponent = exponent s } ∷ powers_of ss exponent) (powers_of ss exponent))
        kept true k rest = (k, rest)
        kept false k rest = rest

        by : IsKnown (exponent s) s → AllByRecursion (IsPowerNamed names) (powers_of ss exponent) → AllByRecursion (IsPowerNamed names) (powers_of (s ∷ ss) exponent)
        by (inl k) rest = kept (nat_lt 0 (nat_abs (exponent s))) k rest
        by (inr e) rest = subst (λ (z : ℤ). AllByRecursion (IsPowerNamed names) (cond (nat_lt 0 (nat_abs z)) (record { symbol = s; exponent = z } ∷ powers_of ss exponent) (powers_of ss exponent))) (sym e) rest

  symbols_named : (ts : List Term) → AllByRecursion (IsNamed names) ts → AllByRecursion (IsPowerNamed names) (symbols_product ts)
  unfolding symbols_product
  symbols_named ts h = all_powers (exponent_sum ts) (in_factors ts h) (range_with_len 0 (reach_of_all ts))

  pub product_named : (ts : List Term) → AllByRecursion (IsNamed names) ts → IsNamed names (term_product ts)
  unfolding others_product
  product_named ts h =
      let components = flat_map (λ (t : Term). t.others.components) ts in
      let deltas = flat_map (λ (t : Term). t.others.deltas) ts in
      let functions = flat_map (λ (t : Term). t.others.functions) ts in
      record {
        symbols = symbols_named ts h;
        dots = all_dots (IsPairNamed names) (flat_map (λ (t : Term). t.others.dots) ts) (each_flat (IsNamed names) (IsDotNamed names) (λ (t : Term). t.others.dots) (λ t k. k.dots) ts h);
        components = all_in_order component_order (IsComponentNamed names) components (each_flat (IsNamed names) (IsComponentNamed names) (λ (t : Term). t.others.components) (λ t k. k.components) ts h);
        deltas = all_filter (IsDeltaNamed names) (λ (d : Delta). not (is_one d)) (in_order delta_order deltas)
            (all_in_order delta_order (IsDeltaNamed names) deltas (each_flat (IsNamed names) (IsDeltaNamed names) (λ (t : Term). t.others.deltas) (λ t k. k.deltas) ts h));
        functions = all_in_order call_order (IsCallNamed function_place names) functions (each_flat (IsNamed names) (IsCallNamed function_place names) (λ (t : Term). t.others.functions) (λ t k. k.functions) ts h);
        word = each_flat (IsNamed names) (IsCallNamed word_place names) (λ (t : Term). t.others.word) (λ t k. k.word) ts h;
      }

  pub power_named : (symbol : ℕ) (k : ℤ) → IsAt symbol_place names symbol → IsNamed names (symbol_power symbol k)
  unfolding symbol_power
  power_named symbol k h = record { symbols = by (nat_lt 0 (nat_abs k)); dots = tt; components = tt; deltas = tt; functions = tt; word = tt }
    where
      by : (b : Bool) → AllByRecursion (IsPowerNamed names) (cond b (record { symbol = symbol; exponent = k } ∷ []) [])
      by true = (h, tt)
      by false = tt
