-- Products of any number of factors, by their joined lists and summed powers.
use Rattle.std.proofs.Common.{◌≡◌, ℕ, suc, ◌<◌, ◌≤◌, Bool, true, false, not, ◌&&◌, List, [], ◌∷◌, map, refl, ap, sym, ◌∙◌, arith, eqb, append-nil}
use Rattle.std.specs.Prelude.{Some, None, Ok, Err, ◌+ℤ◌, ◌%◌, ◌==◌, nat_abs, nat_le}
use Rattle.std.specs.List.{AllByRecursion, filter}
use Rattle.std.specs.List.Sorted.{IsStrictlySortedBy}
use Rattle.std.specs.Ordering.{nat_cmp, ordering_then}
use Rattle.std.specs.declared.cmp.Ordering.{Ordering}
use Rattle.std.specs.declared.cmp.Ordering.TheVariants.{Less, Equal, Greater}
use Rattle.std.proofs.lemmas.Bool.{eqb-true}
use Rattle.std.proofs.lemmas.Cmp.{ranked}
use Rattle.std.proofs.lemmas.List.Elements.{recursion_from_All, All-from_recursion}
use Rattle.form_base.specs.declared.cause.Cause.TheVariants.{Overflow, PowerRange}
use Rattle.form_frac.specs.Fraction.{Fraction}
use Rattle.form_term.specs.declared.power.Power.{Power}
use Rattle.form_term.specs.declared.power.DotPower.{DotPower}
use Rattle.form_term.specs.declared.index.Delta.{Delta}
use Rattle.form_term.specs.declared.monomial.Monomial.{Monomial}
use Rattle.form_term.specs.Term.{Term, Others, IsTerm, IsCall, RiseFrom, exponent_in, pair_order, component_order, delta_order, call_order, largest_exponent}
use Rattle.form_term.specs.Terms.{term}
use Rattle.form_term.specs.PowerLaws.{absent_before}
use Rattle.form_term.proofs.Each.{each_flat, each_map}
use Rattle.form_normal.specs.Lists.{in_order, dots_product, exponent_at}
use Rattle.form_normal.specs.Factors.{AreEachLawful, IsPresent, IsProductive}
use Rattle.form_normal.specs.Product.{are_in_range, are_dots_in_range, is_one, is_turned, imaginary_count, coefficient_of, exponent_sum, symbols_product, others_product, term_product, turned, vanishes, joined, limited, product}
use Rattle.form_normal.specs.Several.{paired, unpaired, paired_in, lists_of}
use Rattle.form_normal.proofs.Order.{all_map}
use Rattle.form_normal.proofs.Dots.{IsThere, all_dots, dots_same, dots_rise, dots_there, exponents_append, exponents_kept}
use Rattle.form_normal.proofs.Powers.{product_from, zero_plus, plus_zero}
use Rattle.form_normal.proofs.Parts.{powers_lawful}
use Rattle.form_normal.proofs.Limits.{each_in_range}
use Rattle.form_normal.proofs.Alone.{IsTurned, in_lists, each_lawful, imaginary_kept, sign_kept, vanish_alone}

-- ---- powers of symbols that are written as pairs

paired_exponent : (position : ℕ) (ps : List Power) (symbol : ℕ) → RiseFrom position ps → exponent_at (map paired ps) symbol symbol ≡ exponent_in ps symbol
paired_exponent position [] symbol rise = refl
paired_exponent position (p ∷ ps) symbol rise = step (eqb p.symbol symbol) refl (paired_exponent (suc p.symbol) ps symbol rise.1)
  where
    step : (b : Bool) → eqb p.symbol symbol ≡ b → exponent_at (map paired ps) symbol symbol ≡ exponent_in ps symbol → exponent_at (paired p ∷ map paired ps) symbol symbol ≡ exponent_in (p ∷ ps) symbol
    step true e rest =
        let same = eqb-true p.symbol symbol e in
        let none = absent_before (suc p.symbol) ps symbol rise.1 (omega (arith, same)) in
        rw (e, rest, none) (plus_zero p.exponent)
    step false e rest = rw (e, rest) (zero_plus (exponent_in ps symbol))

abbrev IsAlike : DotPower → Type 0
IsAlike d = d.left ≡ d.right

-- what holds of each power that is written as a pair
each_paired : (P : DotPower → Type 0) → ((p : Power) → IsPresent p → P (paired p)) → (ts : List Term) → AllByRecursion IsTerm ts → AllByRecursion P (paired_in ts)
each_paired P f ts h = each_flat IsTerm P (λ t. map paired t.symbols) (λ t k. each_map IsPresent P paired f t.symbols (recursion_from_All IsPresent t.symbols k.present)) ts h

pub paired_there : (ts : List Term) → AllByRecursion IsTerm ts → AllByRecursion IsThere (paired_in ts)
paired_there ts h = each_paired IsThere (λ p k. k) ts h

paired_sum : (ts : List Term) (symbol : ℕ) → AllByRecursion IsTerm ts → exponent_at (paired_in ts) symbol symbol ≡ exponent_sum ts symbol
paired_sum [] symbol h = refl
paired_sum (t ∷ ts) symbol h =
    exponents_append (map paired t.symbols) (paired_in ts) symbol symbol ∙ (λ i. paired_exponent 0 t.symbols symbol h.0.rising i +ℤ paired_sum ts symbol h.1 i)

-- ---- and read back

paired_again : (ds : List DotPower) → AllByRecursion IsAlike ds → map paired (map unpaired ds) ≡ ds
paired_again [] h = refl
paired_again (d ∷ ds) h =
    let first : paired (unpaired d) ≡ d = λ i. record { left = d.left; right = h.0 i; exponent = d.exponent } in
    let rest = paired_again ds h.1 in
    λ i. first i ∷ rest i

alike_less : (d e : DotPower) → IsAlike d → IsAlike e → pair_order d e ≡ Less → suc d.left ≤ e.left
alike_less d e f g h = step (nat_cmp d.left e.left) refl h
  where
    step : (o : Ordering) → nat_cmp d.left e.left ≡ o → ordering_then o (nat_cmp d.right e.right) ≡ Less → suc d.left ≤ e.left
    step Less k l = let below : d.left < e.left = ranked d.left e.left Less (sym k) in omega (arith, below)
    step Equal k l = let second : nat_cmp d.left e.left ≡ nat_cmp d.right e.right = λ i. nat_cmp (f i) (g i) in absurd (cc)
    step Greater k l = absurd (cc)

unpaired_rises : (position : ℕ) (ds : List DotPower) → IsStrictlySortedBy pair_order ds → AllByRecursion IsAlike ds → AllByRecursion (λ d. position ≤ d.left) ds → RiseFrom position (map unpaired ds)
unfolding IsStrictlySortedBy
unpaired_rises position [] rise alike from = tt
unpaired_rises position (d ∷ ds) rise alike from = (from.0, unpaired_rises (suc d.left) ds rise.1 alike.1 (above ds rise.0 alike.1))
  where
    above : (es : List DotPower) → AllByRecursion (λ e. pair_order d e ≡ Less) es → AllByRecursion IsAlike es → AllByRecursion (λ e. suc d.left ≤ e.left) es
    above [] h k = tt
    above (e ∷ es) h k = (alike_less d e alike.0 k.0 h.0, above es h.1 k.1)

-- the powers of a product are read from the sums of the pairs
pub unpaired_product : (ts : List Term) → AllByRecursion IsTerm ts → map unpaired (dots_product (paired_in ts)) ≡ symbols_product ts
unpaired_product ts h =
    let pairs = paired_in ts in
    let ds = dots_product pairs in
    let alike = all_dots (λ p q. p ≡ q) pairs (each_paired IsAlike (λ p k. refl) ts h) in
    let rise = unpaired_rises 0 ds (dots_rise pairs) alike (all_map IsAlike (λ d. 0 ≤ d.left) (λ d k. omega arith) ds alike) in
    product_from (map unpaired ds) ts rise (All-from_recursion IsPresent (map unpaired ds) (each_map IsThere IsPresent unpaired (λ d k. k) ds (dots_there pairs (paired_there ts h))))
    (λ symbol. sym (paired_exponent 0 (map unpaired ds) symbol rise) ∙ ap (λ (xs : List DotPower). exponent_at xs symbol symbol) (paired_again ds alike) ∙ exponents_kept pairs symbol symbol ∙ paired_sum ts symbol h)

pub unpaired_range : (ds : List DotPower) → are_in_range (map unpaired ds) ≡ are_dots_in_range ds
unpaired_range [] = refl
unpaired_range (d ∷ ds) = ap (λ (b : Bool). nat_le (nat_abs d.exponent) largest_exponent && b) (unpaired_range ds)

-- ---- the product as that of one factor

-- the other factors of several terms, whose dot products are summed
abbrev pub summed_of : List Term → Others
summed_of ts = record (lists_of ts) { is_imaginary = imaginary_count ts % 2 == 1; dots = dots_product (lists_of ts).dots }

each_others : (ts : List Term) → AllByRecursion IsTerm ts → AllByRecursion (λ (t : Term). AreEachLawful t.others) ts
each_others ts h = all_map IsTerm (λ (t : Term). AreEachLawful t.others) each_lawful ts h

pub lists_there : (ts : List Term) → AllByRecursion IsTerm ts → AllByRecursion IsThere (lists_of ts).dots
lists_there ts h = in_lists IsThere (λ t. t.others.dots) (λ t k. k.dots_present) ts (each_others ts h)

pub summed_lawful : (ts : List Term) → AllByRecursion IsTerm ts → AreEachLawful (summed_of ts)
summed_lawful ts h =
    let o = lists_of ts in
    let each = each_others ts h in
    record {
      dots_present = All-from_recursion IsThere (dots_product o.dots) (dots_there o.dots (lists_there ts h));
      dots_turned = All-from_recursion (λ (d : DotPower). d.left ≤ d.right) (dots_product o.dots) (all_dots (λ p q. p ≤ q) o.dots (in_lists (λ (d : DotPower). d.left ≤ d.right) (λ t. t.others.dots) (λ t k. k.dots_turned) ts each));
      deltas_turned = All-from_recursion IsTurned o.deltas (in_lists IsTurned (λ t. t.others.deltas) (λ t k. k.deltas_turned) ts each);
      functions = All-from_recursion IsCall o.functions (in_lists IsCall (λ t. t.others.functions) (λ t k. k.functions) ts each);
      word = All-from_recursion IsCall o.word (in_lists IsCall (λ t. t.others.word) (λ t k. k.word) ts each);
    }

pub symbols_productive : (ts : List Term) (ps : List Power) → ps ≡ symbols_product ts → are_in_range ps ≡ true → IsProductive ps
symbols_productive ts ps is e = rw is (record { rising = (powers_lawful ts).0; present = (powers_lawful ts).1; in_range = each_in_range (symbols_product ts) (ap are_in_range (sym is) ∙ e) })

module _ (ts : List Term) where
  abbrev one_term : Term
  one_term = term (symbols_product ts) (summed_of ts)

  same_symbols : symbols_product (one_term ∷ []) ≡ symbols_product ts
  same_symbols = sym (product_from (symbols_product ts) (one_term ∷ []) (powers_lawful ts).0 (powers_lawful ts).1 (λ symbol. sym (plus_zero (exponent_in (symbols_product ts) symbol))))

  same_others : others_product (one_term ∷ []) ≡ others_product ts
  unfolding others_product
  same_others =
      let o = lists_of ts in
      let imaginary = imaginary_kept (imaginary_count ts % 2 == 1) in
      let dots = ap dots_product (append-nil (dots_product o.dots)) ∙ dots_same (dots_product o.dots) (dots_rise o.dots) in
      let components = ap (in_order component_order) (append-nil o.components) in
      let deltas = ap (λ ds. filter (λ (d : Delta). not (is_one d)) (in_order delta_order ds)) (append-nil o.deltas) in
      let functions = ap (in_order call_order) (append-nil o.functions) in
      let word = append-nil o.word in
      λ i. record { is_imaginary = imaginary i; dots = dots i; components = components i; deltas = deltas i; functions = functions i; word = word i }

  same_term : term_product (one_term ∷ []) ≡ term_product ts
  same_term = λ i. record { symbols = same_symbols i; others = same_others i }

abbrev pub terms_of : List Monomial → List Term
terms_of ms = map (λ m. m.term) ms

-- lists whose dot products were summed, beside the count of factors with `i_`
pub summed_is : (ts : List Term) (count : ℕ) (lists o : Others) → count ≡ imaginary_count ts → lists ≡ lists_of ts
    → o ≡ record lists { is_imaginary = count % 2 == 1; dots = dots_product lists.dots } → o ≡ summed_of ts
summed_is ts count lists o e f g = g ∙ (λ i. record (f i) { is_imaginary = e i % 2 == 1; dots = dots_product (f i).dots })

module _ (ms : List Monomial) where
  pub all_zero : vanishes (terms_of ms) ≡ true → product ms ≡ Ok None
  unfolding product
  all_zero z = rw z refl

  pub all_overflow : vanishes (terms_of ms) ≡ false → coefficient_of ms ≡ None → product ms ≡ Err Overflow
  unfolding product
  all_overflow z e = rw (z, e) refl

  module _ (size : Fraction) (z : vanishes (terms_of ms) ≡ false) (e : coefficient_of ms ≡ Some size) where
    pub powers_past : are_in_range (symbols_product (terms_of ms)) ≡ false → product ms ≡ Err PowerRange
    unfolding product
    powers_past f = rw (z, e, f) refl

    pub dots_past : are_dots_in_range (dots_product (lists_of (terms_of ms)).dots) ≡ false → product ms ≡ Err PowerRange
    unfolding product others_product
    dots_past f = rw (z, e, f, neither (are_in_range (symbols_product (terms_of ms)))) refl
      where
        neither : (b : Bool) → (b && false) ≡ false
        neither true = refl
        neither false = refl

    -- the product is that of one factor, of the joined lists
    pub as_one : (c : Fraction) (ps : List Power) (o : Others) → c ≡ turned (is_turned (terms_of ms)) size → ps ≡ symbols_product (terms_of ms) → o ≡ summed_of (terms_of ms)
        → product (record { coefficient = c; term = term ps o } ∷ []) ≡ product ms
    unfolding product
    as_one c ps o f g h = (λ i. product (record { coefficient = f i; term = term (g i) (h i) } ∷ [])) ∙ same
      where
        same : product (record { coefficient = turned (is_turned (terms_of ms)) size; term = one_term (terms_of ms) } ∷ []) ≡ product ms
        same =
            let ts = terms_of ms in
            let number = sign_kept (imaginary_count ts % 2 == 1) (turned (is_turned ts) size) in
            rw (vanish_alone (one_term ts) ∙ z, z, e) (λ i. joined (Some (number i)) (limited (same_term ts i)))
