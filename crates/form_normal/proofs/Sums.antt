-- Powers of dot products in any order, put in order and summed.
use Rattle.std.proofs.Common.{◌≡◌, ℕ, ◌+◌, ◌<◌, ◌≤◌, ◌*◌, ◌^◌, Bool, true, false, cond, List, [], ◌∷◌, ◌++◌, length, refl, ap, sym, ◌∙◌, arith, append-nil}
use Rattle.std.specs.Prelude.{ℤ, pos, ◌+ℤ◌, ◌==◌, ◌&&◌, All, nat_abs, nat_lt, if◌then◌else◌}
use Rattle.std.proofs.lemmas.Int.{ints}
use Rattle.std.proofs.lemmas.Bool.{ltb-true}
use Rattle.std.proofs.lemmas.Map.Lookups.{exact_signed}
use Rattle.std.proofs.lemmas.List.Elements.{recursion_from_All}
use Rattle.std.specs.List.{AllByRecursion}
use Rattle.std.specs.List.Sorted.{IsStrictlySortedBy}
use Rattle.std.specs.Ordering.{nat_cmp, int_cmp, is_gt, ordering_then, ordering_reverse}
use Rattle.std.specs.declared.cmp.Ordering.{Ordering}
use Rattle.std.specs.declared.cmp.Ordering.TheVariants.{Less, Equal, Greater}
use Rattle.form_term.specs.contracts.power.DotPowerOrd.TheImpl as dot_powers
use Rattle.form_term.specs.contracts.power.DotPowerOrd.TheImpl.Laws as dot_laws
use Rattle.form_term.specs.declared.power.DotPower.{DotPower}
use Rattle.form_term.specs.Term.{RisesBy, pair_order}
use Rattle.form_term.specs.TermLaws.{both_equal, numbers_equal}
use Rattle.form_term.specs.PowerLaws.{zero_from}
use Rattle.form_normal.specs.Lists.{put_in, in_order, before_others, dots_product, exponent_at}
use Rattle.form_normal.specs.Product.{are_dots_in_range}
use Rattle.form_normal.specs.Several.{with_sum}
use Rattle.form_normal.proofs.Order.{all_map, all_in_order, in_order_rises}
use Rattle.form_normal.proofs.Dots.{IsThere, IsBefore, pairs_total, all_dots, dots_rise, dots_there, dots_from, exponents_kept, same_pair, added, swap}

-- by their pairs, then by their exponents
abbrev pub power_order : DotPower → DotPower → Ordering
power_order = dot_powers.ghosts.cmp

pub power_order_exact : (d e : DotPower) → power_order d e ≡ Equal → d ≡ e
power_order_exact d e h =
    let first = both_equal (nat_cmp d.left e.left) (ordering_then (nat_cmp d.right e.right) (int_cmp d.exponent e.exponent)) h in
    let second = both_equal (nat_cmp d.right e.right) (int_cmp d.exponent e.exponent) first.1 in
    let lefts = numbers_equal d.left e.left first.0 in
    let rights = numbers_equal d.right e.right second.0 in
    let exponents = exact_signed d.exponent e.exponent second.1 in
    λ i. record { left = lefts i; right = rights i; exponent = exponents i }

-- an order of powers doesn't change their exponents
module _ (p q : ℕ) where
  abbrev at : DotPower → ℤ
  at d = if d.left == p && d.right == q then d.exponent else pos 0

  exponents_in_order : (ds : List DotPower) → exponent_at (in_order power_order ds) p q ≡ exponent_at ds p q
  unfolding in_order
  exponents_in_order [] = refl
  exponents_in_order (d ∷ ds) = put (in_order power_order ds) ∙ ap (λ (z : ℤ). at d +ℤ z) (exponents_in_order ds)
    where
      put : (es : List DotPower) → exponent_at (put_in power_order d es) p q ≡ at d +ℤ exponent_at es p q
      put [] = refl
      put (e ∷ es) = step (is_gt (power_order d e)) (put es)
        where
          step : (b : Bool) → exponent_at (put_in power_order d es) p q ≡ at d +ℤ exponent_at es p q → exponent_at (cond b (e ∷ put_in power_order d es) (d ∷ e ∷ es)) p q ≡ at d +ℤ (at e +ℤ exponent_at es p q)
          step true rest = ap (λ (z : ℤ). at e +ℤ z) rest ∙ swap (at e) (at d) (exponent_at es p q)
          step false rest = refl

pairs_upto : (a b c : Ordering) → is_gt (ordering_then a (ordering_then b c)) ≡ false → is_gt (ordering_then a b) ≡ false
pairs_upto Less b c h = refl
pairs_upto Equal Less c h = refl
pairs_upto Equal Equal c h = refl
pairs_upto Equal Greater c h = h
pairs_upto Greater b c h = h

-- powers in order rise by their pairs
rises_by_pairs : (ds : List DotPower) → RisesBy power_order ds → RisesBy pair_order ds
rises_by_pairs [] h = tt
rises_by_pairs (d ∷ ds) h =
    (all_map (λ e. is_gt (power_order d e) ≡ false) (λ e. is_gt (pair_order d e) ≡ false) (λ e k. pairs_upto (nat_cmp d.left e.left) (nat_cmp d.right e.right) (int_cmp d.exponent e.exponent) k) ds h.0, rises_by_pairs ds h.1)

-- where a pair is before one that is no higher than another, it is before that one
before_next : (d e f : DotPower) → pair_order d e ≡ Less → is_gt (pair_order e f) ≡ false → pair_order d f ≡ Less
before_next d e f h k = step (pair_order e f) refl k
  where
    step : (o : Ordering) → pair_order e f ≡ o → is_gt o ≡ false → pair_order d f ≡ Less
    step Less g l = pairs_total.trans d e f h g
    step Equal g l = pairs_total.antisymm d f ∙ ap ordering_reverse (sym (pairs_total.congr e f d g) ∙ pairs_total.antisymm e d ∙ ap ordering_reverse h)
    step Greater g l = absurd (cc)

upto_before : (d e : DotPower) → is_gt (pair_order d e) ≡ false → (pair_order d e ≡ Equal → ⊥) → pair_order d e ≡ Less
upto_before d e h k = step (pair_order d e) refl h
  where
    step : (o : Ordering) → pair_order d e ≡ o → is_gt o ≡ false → pair_order d e ≡ Less
    step Less g l = g
    step Equal g l = absurd (k g)
    step Greater g l = absurd (cc)

-- The sum of the exponents of a pair: those of `whole` are counted up to `rest`.
pub record Summing (first : DotPower) (whole : List DotPower) (sum : ℤ) (rest : List DotPower) : Type 0 where
  pub sums : (p q : ℕ) → exponent_at whole p q ≡ (if first.left == p && first.right == q then sum else pos 0) +ℤ exponent_at rest p q
  pub upto : AllByRecursion (λ d. is_gt (pair_order first d) ≡ false) rest
  pub rise : RisesBy pair_order rest
  pub there : AllByRecursion IsThere rest
  pub less : length rest < length whole
  pub bound : nat_abs sum + length rest * 2 ^ 31 ≤ length whole * 2 ^ 31

module _ (first : DotPower) (whole : List DotPower) (sum : ℤ) (next : DotPower) (others : List DotPower) (m : Summing first whole sum (next ∷ others)) where
  pub summing_next : pair_order first next ≡ Equal → nat_abs next.exponent ≤ 2 ^ 31 → Summing first whole (sum +ℤ next.exponent) others
  summing_next e fits =
      let pair = same_pair first next e in
      record {
        sums = λ p q. m.sums p q
            ∙ ap (λ (z : ℤ). (if first.left == p && first.right == q then sum else pos 0) +ℤ (z +ℤ exponent_at others p q)) (sym (λ i. if pair.0 i == p && pair.1 i == q then next.exponent else pos 0))
            ∙ sym (added (first.left == p && first.right == q) sum next.exponent (exponent_at others p q));
        upto = m.upto.1;
        rise = m.rise.1;
        there = m.there.1;
        less = omega (arith, m.less);
        bound = omega (arith, ints, m.bound, fits);
      }

  -- what is left is behind the pair
  pub all_behind : (pair_order first next ≡ Equal → ⊥) → AllByRecursion (λ d. pair_order first d ≡ Less) (next ∷ others)
  all_behind other =
      let here = upto_before first next m.upto.0 other in
      (here, all_map (λ d. is_gt (pair_order next d) ≡ false) (λ d. pair_order first d ≡ Less) (λ d k. before_next first next d here k) others m.rise.0)

-- where the others are behind the pair, its sum is the first power of the product
pub summing_ends : (first : DotPower) (whole : List DotPower) (sum : ℤ) (rest : List DotPower) → Summing first whole sum rest → AllByRecursion IsThere whole → AllByRecursion (λ d. pair_order first d ≡ Less) rest → dots_product whole ≡ before_others (with_sum first sum) (dots_product rest)
unfolding IsStrictlySortedBy
summing_ends first whole sum rest m there behind = sym (step (nat_lt 0 (nat_abs sum)) refl)
  where
    kept : (p q : ℕ) → (if first.left == p && first.right == q then sum else pos 0) +ℤ exponent_at (dots_product rest) p q ≡ exponent_at whole p q
    kept p q = ap (λ (z : ℤ). (if first.left == p && first.right == q then sum else pos 0) +ℤ z) (exponents_kept rest p q) ∙ sym (m.sums p q)

    gone : (b : Bool) (x z : ℤ) → x ≡ pos 0 → z ≡ (if b then x else pos 0) +ℤ z
    gone true x z f = rw f (omega (arith, ints))
    gone false x z f = omega (arith, ints)

    step : (b : Bool) → nat_lt 0 (nat_abs sum) ≡ b → cond b (with_sum first sum ∷ dots_product rest) (dots_product rest) ≡ dots_product whole
    step true e = dots_from (with_sum first sum ∷ dots_product rest) whole (all_dots (IsBefore first) rest behind, dots_rise rest) (ltb-true 0 (nat_abs sum) e, dots_there rest m.there) there kept
    step false e = dots_from (dots_product rest) whole (dots_rise rest) (dots_there rest m.there) there (λ p q. gone (first.left == p && first.right == q) sum (exponent_at (dots_product rest) p q) (zero_from sum e) ∙ kept p q)

-- The walk by pairs, put in order: `made` has the sums of those before `rest`.
pub record Making (whole made rest : List DotPower) : Type 0 where
  pub is : made ++ dots_product rest ≡ dots_product whole
  pub range : are_dots_in_range made ≡ true
  pub rise : RisesBy pair_order rest
  pub there : AllByRecursion IsThere rest

pub making_begins : (ds made rest : List DotPower) → All IsThere ds → made ≡ [] → rest ≡ in_order power_order ds → Making ds made rest
making_begins ds made rest h none e =
    let rising = in_order power_order ds in
    let there = recursion_from_All IsThere ds h in
    let all = all_in_order power_order IsThere ds there in
    rw (none, e) (record {
      is = dots_from (dots_product rising) ds (dots_rise rising) (dots_there rising all) there (λ p q. exponents_kept rising p q ∙ exponents_in_order p q ds);
      range = refl;
      rise = rises_by_pairs rising (in_order_rises power_order dot_laws.total-law ds);
      there = all;
    })

pub making_ends : (whole made rest : List DotPower) → Making whole made rest → rest ≡ [] → (made ≡ dots_product whole) × (are_dots_in_range made ≡ true)
unfolding dots_product
making_ends whole made rest m e = (sym (append-nil made) ∙ ap (λ (xs : List DotPower). made ++ dots_product xs) (sym e) ∙ m.is, m.range)
