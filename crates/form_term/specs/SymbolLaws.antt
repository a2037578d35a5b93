-- The order of powers of symbols: total, decided by the first exponents that differ, and `Equal` only for equal lists.
use Rattle.std.proofs.Common.{◌≡◌, ◌≢◌, ℕ, zero, suc, ◌+◌, ◌-◌, ◌<◌, ◌≤◌, Bool, true, false, List, [], ◌∷◌, map, refl, ap, sym, ◌∙◌, ◌↔◌, arith, rules, eqb}
use Rattle.std.specs.Prelude.{All, max, IsTrue, ℤ, pos, nat_abs}
use Rattle.std.specs.List.{range_with_len}
use Rattle.std.specs.Ordering.{int_cmp, ordering_then, ordering_reverse}
use Rattle.std.specs.Cmp.{IsTotalOrder}
use Rattle.std.specs.Cmp.Lexicographic.{slice_cmp}
use Rattle.std.specs.declared.cmp.Ordering.{Ordering}
use Rattle.std.specs.declared.cmp.Ordering.TheVariants.{Less, Equal, Greater}
use Rattle.std.proofs.lemmas.Cmp.{lists_total, int_cmp_total, tied_itself, tied_back}
use Rattle.std.proofs.lemmas.Bool.{eqb-true, eqb-false, eq-eqb}
use Rattle.std.proofs.lemmas.Map.Lookups.{exact_signed}
use Rattle.form_term.specs.declared.power.Power.{Power}
use Rattle.form_term.specs.Term.{RiseFrom, exponent_in, reach_of, order_at, symbols_order, normal_powers}
use Rattle.form_term.specs.PowerLaws.{powers_from, absent_before, absent_past, powers_agree, powers_wider, powers_again}

-- what holds of a term's powers of symbols, without their limits
abbrev pub ArePowers : List Power → Type 0
ArePowers ps = RiseFrom 0 ps × All (λ p. 0 < nat_abs p.exponent) ps

-- the order by the exponents of n symbols from a position on
abbrev pub order_from : ℕ → ℕ → (ℕ → ℤ) → (ℕ → ℤ) → Ordering
order_from position n f g = order_at (range_with_len position n) f g

itself : (z : ℤ) → int_cmp z z ≡ Equal
itself z = tied_itself int_cmp_total z

pub then_next : (r s : Ordering) → r ≡ Equal → ordering_then r s ≡ s
then_next r s e = rw e refl

pub then_first : (r s : Ordering) → r ≢ Equal → ordering_then r s ≡ r
then_first Less s n = refl
then_first Equal s n = absurd (n refl)
then_first Greater s n = refl

-- exponents that agree from the position on
pub order_agree : (position n : ℕ) (f g : ℕ → ℤ) → ((symbol : ℕ) → position ≤ symbol → f symbol ≡ g symbol) → order_from position n f g ≡ Equal
order_agree position zero f g agree = refl
order_agree position (suc n) f g agree = rw (agree position (omega arith), itself (g position)) (order_agree (position + 1) n f g (λ symbol from. agree symbol (omega arith)))

-- exponents that compare alike at each symbol
order_alike : (position n : ℕ) (f g h k : ℕ → ℤ) → ((symbol : ℕ) → int_cmp (f symbol) (g symbol) ≡ int_cmp (h symbol) (k symbol)) → order_from position n f g ≡ order_from position n h k
order_alike position zero f g h k alike = refl
order_alike position (suc n) f g h k alike = rw (alike position, order_alike (position + 1) n f g h k alike) refl

-- exponents that agree past a position
order_wider : (position n more : ℕ) (f g : ℕ → ℤ) → ((symbol : ℕ) → position + n ≤ symbol → f symbol ≡ g symbol) → order_from position (n + more) f g ≡ order_from position n f g
order_wider position zero more f g agree = let e : zero + more ≡ more = omega arith in rw e (order_agree position more f g (λ symbol from. agree symbol (omega arith)))
order_wider position (suc n) more f g agree =
    let e : suc n + more ≡ suc (n + more) = omega arith in
    rw e (ap (ordering_then (int_cmp (f position) (g position))) (order_wider (position + 1) n more f g (λ symbol from. agree symbol (omega arith))))

-- the first exponents that differ decide
pub order_decided : (position n first : ℕ) (f g : ℕ → ℤ) → position ≤ first → first < position + n → ((symbol : ℕ) → position ≤ symbol → symbol < first → f symbol ≡ g symbol) → int_cmp (f first) (g first) ≢ Equal
    → order_from position n f g ≡ int_cmp (f first) (g first)
order_decided position zero first f g from below agree differ = absurd (omega arith)
order_decided position (suc n) first f g from below agree differ = step (eqb position first) refl (λ h. order_decided (position + 1) n first f g h (omega arith) (λ symbol from below. agree symbol (omega arith) below) differ)
  where
    step : (b : Bool) → eqb position first ≡ b → (position + 1 ≤ first → order_from (position + 1) n f g ≡ int_cmp (f first) (g first)) → order_from position (suc n) f g ≡ int_cmp (f first) (g first)
    step true e rest = let same = eqb-true position first e in rw same (then_first (int_cmp (f first) (g first)) (order_from (first + 1) n f g) differ)
    step false e rest =
        let ne = eqb-false position first e in
        rw (agree position (omega arith) (omega arith), itself (g position)) (rest (omega arith))

-- exponents that the order doesn't tell apart agree
pub order_equal : (position n : ℕ) (f g : ℕ → ℤ) → order_from position n f g ≡ Equal → (symbol : ℕ) → position ≤ symbol → symbol < position + n → f symbol ≡ g symbol
order_equal position zero f g e symbol from below = absurd (omega arith)
order_equal position (suc n) f g e symbol from below = step (int_cmp (f position) (g position)) refl e (λ h. order_equal (position + 1) n f g h symbol)
  where
    step : (r : Ordering) → int_cmp (f position) (g position) ≡ r → ordering_then r (order_from (position + 1) n f g) ≡ Equal → (order_from (position + 1) n f g ≡ Equal → position + 1 ≤ symbol → symbol < position + 1 + n → f symbol ≡ g symbol) → f symbol ≡ g symbol
    step Less r h rest = cc
    step Greater r h rest = cc
    step Equal r h rest = here (eqb position symbol) refl
      where
        here : (b : Bool) → eqb position symbol ≡ b → f symbol ≡ g symbol
        here true b = let same = eqb-true position symbol b in rw (sym same) (exact_signed (f position) (g position) r)
        here false b = let ne = eqb-false position symbol b in rest h (omega arith) (omega arith)

-- the order, by the exponents of symbols past all those of both terms
pub order_reached : (t u : List Power) (n : ℕ) → reach_of t ≤ n → reach_of u ≤ n → symbols_order t u ≡ order_from 0 n (exponent_in t) (exponent_in u)
unfolding symbols_order
order_reached t u n left right =
    let reach = max (reach_of t) (reach_of u) in
    let more : n ≡ reach + (n - reach) = omega arith in
    rw more (sym (order_wider 0 reach (n - reach) (exponent_in t) (exponent_in u) (λ symbol from. absent_past t symbol (omega arith) ∙ sym (absent_past u symbol (omega arith)))))

pub symbols_order_total : IsTotalOrder symbols_order
symbols_order_total = record {
  antisymm = λ x y.
      let n = reach_of x + reach_of y in
      order_reached x y n (omega arith) (omega arith) ∙ lists.antisymm (at n x) (at n y) ∙ ap ordering_reverse (sym (order_reached y x n (omega arith) (omega arith)));
  trans = λ x y z below above.
      let n = reach_of x + reach_of y + reach_of z in
      order_reached x z n (omega arith) (omega arith) ∙ lists.trans (at n x) (at n y) (at n z) (sym (order_reached x y n (omega arith) (omega arith)) ∙ below) (sym (order_reached y z n (omega arith) (omega arith)) ∙ above);
  congr = λ x y z same.
      let n = reach_of x + reach_of y + reach_of z in
      order_reached x z n (omega arith) (omega arith) ∙ lists.congr (at n x) (at n y) (at n z) (sym (order_reached x y n (omega arith) (omega arith)) ∙ same) ∙ sym (order_reached y z n (omega arith) (omega arith));
}
  where
    lists : IsTotalOrder (slice_cmp int_cmp)
    lists = lists_total int_cmp_total

    at : ℕ → List Power → List ℤ
    at n t = map (exponent_in t) (range_with_len 0 n)

-- powers that the order doesn't tell apart have the same exponents
pub exponents_equal : (t u : List Power) → symbols_order t u ≡ Equal → (symbol : ℕ) → exponent_in t symbol ≡ exponent_in u symbol
exponents_equal t u e symbol =
    let n = reach_of t + reach_of u + suc symbol in
    order_equal 0 n (exponent_in t) (exponent_in u) (sym (order_reached t u n (omega arith) (omega arith)) ∙ e) symbol (omega arith) (omega arith)

-- the powers of n symbols, n being past all those of a term, are those of its symbols
powers_reached : (t : List Power) (n : ℕ) → reach_of t ≤ n → powers_from 0 n (exponent_in t) ≡ normal_powers t
unfolding normal_powers
powers_reached t n past =
    let more : n ≡ reach_of t + (n - reach_of t) = omega arith in
    rw more (powers_wider 0 (reach_of t) (n - reach_of t) (exponent_in t) (λ symbol from. absent_past t symbol (omega arith)))

pub normal_same : (t u : List Power) → ((symbol : ℕ) → exponent_in t symbol ≡ exponent_in u symbol) → normal_powers t ≡ normal_powers u
normal_same t u same =
    let n = reach_of t + reach_of u in
    sym (powers_reached t n (omega arith)) ∙ powers_agree 0 n (exponent_in t) (exponent_in u) (λ symbol from. same symbol) ∙ powers_reached u n (omega arith)

-- powers are those of their exponents
pub powers_normal : (t : List Power) → ArePowers t → normal_powers t ≡ t
unfolding normal_powers
powers_normal t h = powers_again 0 (reach_of t) t h.0 h.1 (omega arith)

-- powers with the same exponents are equal
pub powers_from_exponents : (t u : List Power) → ArePowers t → ArePowers u → ((symbol : ℕ) → exponent_in t symbol ≡ exponent_in u symbol) → t ≡ u
powers_from_exponents t u left right same =
    sym (powers_normal t left) ∙ normal_same t u same ∙ powers_normal u right

-- only equal powers compare equal
pub equal_powers : (t u : List Power) → ArePowers t → ArePowers u → symbols_order t u ≡ Equal → t ≡ u
equal_powers t u left right e = powers_from_exponents t u left right (exponents_equal t u e)

-- the first symbol whose exponents differ decides
pub first_difference : (t u : List Power) (first : ℕ) → ((symbol : ℕ) → symbol < first → exponent_in t symbol ≡ exponent_in u symbol) → int_cmp (exponent_in t first) (exponent_in u first) ≢ Equal
    → symbols_order t u ≡ int_cmp (exponent_in t first) (exponent_in u first)
first_difference t u first agree differ =
    let n = reach_of t + reach_of u + suc first in
    order_reached t u n (omega arith) (omega arith) ∙ order_decided 0 n first (exponent_in t) (exponent_in u) (omega arith) (omega arith) (λ symbol from below. agree symbol below) differ

true_from : {b : Bool} → IsTrue b → b ≡ true
true_from h = search rules

-- powers compare equal exactly with themselves
pub equal_exactly : (t u : List Power) → ArePowers t → ArePowers u → (symbols_order t u ≡ Equal) ↔ (t ≡ u)
equal_exactly t u left right = (equal_powers t u left right, λ e. rw e (tied_itself symbols_order_total u))

pub differs : (z : ℤ) → 0 < nat_abs z → int_cmp z (pos 0) ≢ Equal
differs z size e = let zero = exact_signed z (pos 0) e in absurd (omega (arith, ap nat_abs zero))

pub differs_back : (z : ℤ) → 0 < nat_abs z → int_cmp (pos 0) z ≢ Equal
differs_back z size e = differs z size (tied_back int_cmp_total (pos 0) z e)

-- the exponent of the first of rising powers
exponent_here : (p : Power) (ps : List Power) → exponent_in (p ∷ ps) p.symbol ≡ p.exponent
exponent_here p ps = rw (eq-eqb p.symbol p.symbol refl) refl

-- where the first symbol stands on the left alone, its exponent decides
pub first_left : (p : Power) (ps qs : List Power) → RiseFrom p.symbol (p ∷ ps) → RiseFrom (suc p.symbol) qs → 0 < nat_abs p.exponent → symbols_order (p ∷ ps) qs ≡ int_cmp p.exponent (pos 0)
first_left p ps qs left right there =
    let here = exponent_here p ps in
    let none = absent_before (suc p.symbol) qs p.symbol right (omega arith) in
    let agree : (symbol : ℕ) → symbol < p.symbol → exponent_in (p ∷ ps) symbol ≡ exponent_in qs symbol = λ symbol below. absent_before p.symbol (p ∷ ps) symbol left below ∙ sym (absent_before (suc p.symbol) qs symbol right (omega arith)) in
    let both : int_cmp (exponent_in (p ∷ ps) p.symbol) (exponent_in qs p.symbol) ≡ int_cmp p.exponent (pos 0) = rw (here, none) refl in
    first_difference (p ∷ ps) qs p.symbol agree (λ e. differs p.exponent there (sym both ∙ e)) ∙ both

-- where it stands on the right alone
pub first_right : (ps : List Power) (q : Power) (qs : List Power) → RiseFrom (suc q.symbol) ps → RiseFrom q.symbol (q ∷ qs) → 0 < nat_abs q.exponent → symbols_order ps (q ∷ qs) ≡ int_cmp (pos 0) q.exponent
first_right ps q qs left right there =
    symbols_order_total.antisymm ps (q ∷ qs) ∙ ap ordering_reverse (first_left q qs ps right left there) ∙ sym (int_cmp_total.antisymm (pos 0) q.exponent)

-- where it stands on both sides with other exponents, these decide
pub first_both : (p : Power) (ps : List Power) (q : Power) (qs : List Power) → p.symbol ≡ q.symbol → RiseFrom p.symbol (p ∷ ps) → RiseFrom q.symbol (q ∷ qs) → int_cmp p.exponent q.exponent ≢ Equal
    → symbols_order (p ∷ ps) (q ∷ qs) ≡ int_cmp p.exponent q.exponent
first_both p ps q qs same left right differ =
    let here = exponent_here p ps in
    let there : exponent_in (q ∷ qs) p.symbol ≡ q.exponent = rw same (exponent_here q qs) in
    let agree : (symbol : ℕ) → symbol < p.symbol → exponent_in (p ∷ ps) symbol ≡ exponent_in (q ∷ qs) symbol = λ symbol below. absent_before p.symbol (p ∷ ps) symbol left below ∙ sym (absent_before q.symbol (q ∷ qs) symbol right (omega arith)) in
    let both : int_cmp (exponent_in (p ∷ ps) p.symbol) (exponent_in (q ∷ qs) p.symbol) ≡ int_cmp p.exponent q.exponent = rw (here, there) refl in
    first_difference (p ∷ ps) (q ∷ qs) p.symbol agree (λ e. differ (sym both ∙ e)) ∙ both

-- where it stands on both sides with one exponent, the others decide
pub first_equal : (p : Power) (ps qs : List Power) → RiseFrom (suc p.symbol) ps → RiseFrom (suc p.symbol) qs → symbols_order (p ∷ ps) (p ∷ qs) ≡ symbols_order ps qs
first_equal p ps qs left right =
    let n = suc p.symbol + reach_of ps + reach_of qs in
    order_reached (p ∷ ps) (p ∷ qs) n (omega arith) (omega arith)
    ∙ order_alike 0 n (exponent_in (p ∷ ps)) (exponent_in (p ∷ qs)) (exponent_in ps) (exponent_in qs) (λ symbol. at symbol (eqb p.symbol symbol) refl)
    ∙ sym (order_reached ps qs n (omega arith) (omega arith))
  where
    at : (symbol : ℕ) (b : Bool) → eqb p.symbol symbol ≡ b → int_cmp (exponent_in (p ∷ ps) symbol) (exponent_in (p ∷ qs) symbol) ≡ int_cmp (exponent_in ps symbol) (exponent_in qs symbol)
    at symbol true e =
        let same = eqb-true p.symbol symbol e in
        rw (e, absent_before (suc p.symbol) ps symbol left (omega arith), absent_before (suc p.symbol) qs symbol right (omega arith)) (itself p.exponent)
    at symbol false e = rw e refl

-- the order of two powers, each alone
pub single_less : (p q : Power) → p.symbol < q.symbol → 0 < nat_abs p.exponent → symbols_order (p ∷ []) (q ∷ []) ≡ int_cmp p.exponent (pos 0)
single_less p q below there = first_left p [] (q ∷ []) (omega arith, tt) (omega arith, tt) there

pub single_greater : (p q : Power) → q.symbol < p.symbol → 0 < nat_abs q.exponent → symbols_order (p ∷ []) (q ∷ []) ≡ int_cmp (pos 0) q.exponent
single_greater p q below there = first_right (p ∷ []) q [] (omega arith, tt) (omega arith, tt) there

pub single_same : (p q : Power) → p.symbol ≡ q.symbol → symbols_order (p ∷ []) (q ∷ []) ≡ int_cmp p.exponent q.exponent
single_same p q same = by (int_cmp p.exponent q.exponent) refl
  where
    by : (r : Ordering) → int_cmp p.exponent q.exponent ≡ r → symbols_order (p ∷ []) (q ∷ []) ≡ int_cmp p.exponent q.exponent
    by Less e = first_both p [] q [] same (omega arith, tt) (omega arith, tt) (λ h. let c : Less ≡ Equal = sym e ∙ h in absurd (cc))
    by Greater e = first_both p [] q [] same (omega arith, tt) (omega arith, tt) (λ h. let c : Greater ≡ Equal = sym e ∙ h in absurd (cc))
    by Equal e =
        let exponents = exact_signed p.exponent q.exponent e in
        let one : p ≡ q = λ i. record { symbol = same i; exponent = exponents i } in
        ap (λ (x : Power). symbols_order (p ∷ []) (x ∷ [])) (sym one) ∙ tied_itself symbols_order_total (p ∷ []) ∙ sym e
