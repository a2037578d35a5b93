-- Products can be recorded.
use Rattle.std.proofs.Common.{◌≡◌, ℕ, ℤ, pos, ◌<◌, ◌≤◌, Bool, true, false, ◌&&◌, List, [], ◌∷◌, map, fold, append-nil, if◌then◌else◌, refl, sym, ap, subst, ◌∙◌}
use Rattle.std.specs.Prelude.{Option, Some, None, option_map, option_and_then, Result, Ok, Err, nat_abs, nat_le}
use Rattle.std.specs.List.{AllByRecursion, list_any}
use Rattle.std.specs.Ordering.{is_gt}
use Rattle.std.proofs.lemmas.Option.{same_Some, none-some}
use Rattle.std.proofs.lemmas.List.Elements.{All-from_recursion}
use Rattle.form_base.specs.declared.cause.Cause.{Cause}
use Rattle.form_base.specs.declared.cause.Cause.TheVariants.{PowerRange, TermSize}
use Rattle.form_frac.specs.Fraction.{Fraction, whole, multiply, negate}
use Rattle.form_term.specs.declared.power.Power.{Power}
use Rattle.form_term.specs.declared.power.DotPower.{DotPower}
use Rattle.form_term.specs.declared.index.Delta.{Delta}
use Rattle.form_term.specs.declared.monomial.Monomial.{Monomial}
use Rattle.form_term.specs.Monomial.{unit, negated}
use Rattle.form_term.specs.Term.{Term, Others, IsCall, one, symbol_power, index_order, size, depth, largest_exponent, largest_size, largest_depth}
use Rattle.form_term.specs.Named.{Places, symbol_place, IsAt, IsNamed, IsSummand}
use Rattle.form_term.proofs.Coefficients.{IsCoefficient, one_is_coefficient, product_is_coefficient, negated_is_coefficient}
use Rattle.form_term.proofs.Each.{each_map, each_weaker}
use Rattle.form_normal.specs.Factors.{AreEachLawful}
use Rattle.form_normal.specs.Product.{are_in_range, are_dots_in_range, is_zero, is_turned, coefficient_of, term_product, turned, vanishes, joined, limited, product, product_of, number_alone, power_alone}
use Rattle.form_normal.specs.Recordable.{IsOwn, IsRecordable, IsFactor}
use Rattle.form_normal.proofs.Alone.{alone_made, each_lawful, product_is_term, product_is_own}
use Rattle.form_normal.proofs.Lasting.{number_by_one, power_by_one}
use Rattle.form_normal.proofs.Named.{product_named, power_named}

-- ---- what a product is made of

abbrev terms_in : List Monomial → List Term
terms_in ms = map (λ (x : Monomial). x.term) ms

same_term : (r : Result Term Cause) (t u : Term) → r ≡ Ok t → r ≡ Ok u → t ≡ u
same_term r t u e f = cc

limited_same : (t u : Term) → limited t ≡ Ok u → t ≡ u
limited_same t u e = step (are_in_range t.symbols && are_dots_in_range t.others.dots) (nat_le (size t) largest_size && nat_le (depth t) largest_depth) e
  where
    step : (a b : Bool) → (if a then (if b then Ok t else Err TermSize) else Err PowerRange) ≡ Ok u → t ≡ u
    step true true h = same_term (Ok t) t u refl h
    step true false h = absurd (cc)
    step false b h = absurd (cc)

record IsMade (ms : List Monomial) (m : Monomial) : Type 0 where
  pub number : Fraction
  pub times : coefficient_of ms ≡ Some number
  pub signed : m.coefficient ≡ turned (is_turned (terms_in ms)) number
  pub there : vanishes (terms_in ms) ≡ false
  pub within : limited (term_product (terms_in ms)) ≡ Ok m.term

abbrev made_in : Monomial → Result (Option Monomial) Cause → Monomial
made_in m (Ok (Some n)) = n
made_in m (Ok None) = m
made_in m (Err cause) = m

made_of : (ms : List Monomial) (m : Monomial) → product ms ≡ Ok (Some m) → IsMade ms m
unfolding product
made_of ms m e = step (vanishes (terms_in ms)) (coefficient_of ms) (limited (term_product (terms_in ms))) refl refl refl e
  where
    step : (b : Bool) (o : Option Fraction) (r : Result Term Cause) → vanishes (terms_in ms) ≡ b → coefficient_of ms ≡ o → limited (term_product (terms_in ms)) ≡ r
        → (if b then Ok None else joined (option_map (turned (is_turned (terms_in ms))) o) r) ≡ Ok (Some m) → IsMade ms m
    step true o r f g h k = absurd (cc)
    step false None r f g h k = absurd (cc)
    step false (Some c) (Err cause) f g h k = absurd (cc)
    step false (Some c) (Ok t) f g h k =
        let same : m ≡ record { coefficient = turned (is_turned (terms_in ms)) c; term = t } = sym (ap (made_in m) k) in
        record {
          number = c;
          times = g;
          signed = ap (λ (x : Monomial). x.coefficient) same;
          there = f;
          within = h ∙ ap (λ (u : Term). Ok u) (sym (ap (λ (x : Monomial). x.term) same));
        }

-- ---- its coefficient

abbrev HasCoefficient : Monomial → Type 0
HasCoefficient m = IsCoefficient m.coefficient

abbrev times : Option Fraction → Monomial → Option Fraction
times c n = option_and_then (λ (a : Fraction). multiply a n.coefficient) c

none_stays : (ms : List Monomial) → fold times None ms ≡ None
none_stays [] = refl
none_stays (m ∷ ms) = none_stays ms

multiplied : (ms : List Monomial) (c f : Fraction) → IsCoefficient c → AllByRecursion HasCoefficient ms → fold times (Some c) ms ≡ Some f → IsCoefficient f
multiplied [] c f h all e = subst IsCoefficient (same_Some c f e) h
multiplied (m ∷ ms) c f h all e = by (multiply c m.coefficient) refl (λ d k g. multiplied ms d f k all.1 g) e
  where
    by : (o : Option Fraction) → multiply c m.coefficient ≡ o → ((d : Fraction) → IsCoefficient d → fold times (Some d) ms ≡ Some f → IsCoefficient f) → fold times o ms ≡ Some f → IsCoefficient f
    by None g rest k = absurd (none-some f (sym (none_stays ms) ∙ k))
    by (Some d) g rest k = rest d (product_is_coefficient c m.coefficient d h all.0 g) k

number_of : (ms : List Monomial) (f : Fraction) → AllByRecursion HasCoefficient ms → coefficient_of ms ≡ Some f → IsCoefficient f
number_of [] f h e = subst IsCoefficient (same_Some (whole (pos 1)) f e) one_is_coefficient
number_of (m ∷ ms) f h e = multiplied ms m.coefficient f h.0 h.1 e

signed_is_coefficient : (b : Bool) (c : Fraction) → IsCoefficient c → IsCoefficient (turned b c)
signed_is_coefficient true c h = negated_is_coefficient c h
signed_is_coefficient false c h = h

-- ---- together

abbrev IsOfLawful : Monomial → Type 0
IsOfLawful x = AreEachLawful x.term.others

-- whether a term is its own product does not hang on its coefficient
pub own_with : (c : Fraction) (m : Monomial) → IsOwn m → IsOwn (record { coefficient = c; term = m.term })
own_with c m own =
    let made = made_of (m ∷ []) m own in
    let n : Monomial = record { coefficient = c; term = m.term } in
    alone_made n m.term (sym (ap (list_any is_zero) (append-nil m.term.others.deltas)) ∙ made.there) made.within

pub each_from : (o : Others) → AllByRecursion (λ (d : DotPower). 0 < nat_abs d.exponent) o.dots → AllByRecursion (λ (d : DotPower). d.left ≤ d.right) o.dots
    → AllByRecursion (λ (d : Delta). is_gt (index_order d.first d.second) ≡ false) o.deltas → AllByRecursion IsCall o.functions → AllByRecursion IsCall o.word → AreEachLawful o
each_from o present turned_dots turned_deltas functions word = record {
  dots_present = All-from_recursion (λ (d : DotPower). 0 < nat_abs d.exponent) o.dots present;
  dots_turned = All-from_recursion (λ (d : DotPower). d.left ≤ d.right) o.dots turned_dots;
  deltas_turned = All-from_recursion (λ (d : Delta). is_gt (index_order d.first d.second) ≡ false) o.deltas turned_deltas;
  functions = All-from_recursion IsCall o.functions functions;
  word = All-from_recursion IsCall o.word word;
}

module _ (names : Places) where
  pub product_is_recordable : (ms : List Monomial) (m : Monomial) → AllByRecursion (IsFactor names) ms → product ms ≡ Ok (Some m) → IsRecordable names m
  product_is_recordable ms m each is =
      let made = made_of ms m is in
      let all = All-from_recursion IsOfLawful ms (each_weaker (IsFactor names) IsOfLawful (λ x h. h.each) ms each) in
      let numbers = each_weaker (IsFactor names) HasCoefficient (λ x h. (h.lowest, h.present)) ms each in
      let c = subst IsCoefficient (sym made.signed) (signed_is_coefficient (is_turned (terms_in ms)) made.number (number_of ms made.number numbers made.times)) in
      let named = product_named names (terms_in ms) (each_map (IsFactor names) (IsNamed names) (λ (x : Monomial). x.term) (λ x h. h.named) ms each) in
      record {
        summand = record {
          named = subst (IsNamed names) (limited_same (term_product (terms_in ms)) m.term made.within) named;
          lawful = product_is_term ms m all is;
          lowest = c.0;
          present = c.1;
        };
        own = product_is_own ms m all is;
      }

  pub factor_from : (m : Monomial) → IsSummand names m → IsFactor names m
  factor_from m h = record { named = h.named; each = each_lawful m.term h.lawful; lowest = h.lowest; present = h.present }

  -- of two terms of expressions
  pub product_of_summands : (a b m : Monomial) → IsSummand names a → IsSummand names b → product_of a b ≡ Ok (Some m) → IsRecordable names m
  product_of_summands a b m h k e = product_is_recordable (a ∷ b ∷ []) m (factor_from a h, (factor_from b k, tt)) e

  -- ---- other signs

  pub negated_summand : (m : Monomial) → IsSummand names m → IsSummand names (negated m)
  negated_summand m h =
      let c = negated_is_coefficient m.coefficient (h.lowest, h.present) in
      record { named = h.named; lawful = h.lawful; lowest = c.0; present = c.1 }

  pub negated_recordable : (m : Monomial) → IsRecordable names m → IsRecordable names (negated m)
  negated_recordable m h = record { summand = negated_summand m h.summand; own = own_with (negate m.coefficient) m h.own }

  -- ---- factors of one kind

  pub one_named : IsNamed names one
  one_named = record { symbols = tt; dots = tt; components = tt; deltas = tt; functions = tt; word = tt }

  number_factor : (f : Fraction) → IsCoefficient f → IsFactor names (number_alone f)
  number_factor f h = record { named = one_named; each = each_from one.others tt tt tt tt tt; lowest = h.0; present = h.1 }

  pub number_recordable : (f : Fraction) → IsCoefficient f → IsRecordable names (number_alone f)
  number_recordable f h =
      product_is_recordable (unit ∷ number_alone f ∷ []) (number_alone f) (number_factor (whole (pos 1)) one_is_coefficient, (number_factor f h, tt)) (number_by_one f h.0)

  pub unit_recordable : IsRecordable names unit
  unit_recordable = number_recordable (whole (pos 1)) one_is_coefficient

  power_each : (s : ℕ) (k : ℤ) → AreEachLawful (symbol_power s k).others
  unfolding symbol_power
  power_each s k = each_from one.others tt tt tt tt tt

  pub power_recordable : (p : Power) → nat_abs p.exponent ≤ largest_exponent → IsAt symbol_place names p.symbol → IsRecordable names (power_alone p)
  power_recordable p small h =
      product_is_recordable (unit ∷ power_alone p ∷ []) (power_alone p) (
        number_factor (whole (pos 1)) one_is_coefficient,
        (record { named = power_named names p.symbol p.exponent h; each = power_each p.symbol p.exponent; lowest = one_is_coefficient.0; present = one_is_coefficient.1 }, tt),
      )
      (power_by_one p small)
