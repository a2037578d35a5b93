-- Terms whose exponents are turned.
use Rattle.std.proofs.Common.{◌≡◌, ℕ, zero, suc, ◌+◌, ◌≤◌, ◌<◌, Bool, true, false, List, [], ◌∷◌, length, map, All, refl, sym, ap, subst, arith}
use Rattle.std.specs.Prelude.{ℤ, pos, negsuc, neg_ℤ, nat_abs}
use Rattle.std.specs.List.{AllByRecursion}
use Rattle.std.specs.List.Sorted.{IsStrictlySortedBy}
use Rattle.std.proofs.lemmas.List.{length-map}
use Rattle.std.proofs.lemmas.List.Elements.{All-nil, All-cons, All-head, All-tail}
use Rattle.std.specs.declared.cmp.Ordering.TheVariants.{Less}
use Rattle.form_term.specs.declared.power.Power.{Power}
use Rattle.form_term.specs.declared.power.DotPower.{DotPower}
use Rattle.form_term.specs.declared.index.Component.{Component}
use Rattle.form_term.specs.declared.index.Delta.{Delta}
use Rattle.std.specs.Ordering.{is_gt}
use Rattle.form_term.specs.Term.{Term, Call, Others, is_nothing, RiseFrom, pair_order, index_order, IsTerm, IsCall, AreFactors, largest_exponent, largest_size, size_of_others}
use Rattle.form_expand.specs.Bound.{of_dots, is_invertible, turned_power, turned_dot, turned_exponents}

only_dots_by : (i : Bool) (ds : List DotPower) (cs : List Component) (es : List Delta) (fs w : List Call)
    → is_nothing (record { is_imaginary = i; dots = []; components = cs; deltas = es; functions = fs; word = w }) ≡ true
    → record { is_imaginary = i; dots = ds; components = cs; deltas = es; functions = fs; word = w } ≡ of_dots ds
only_dots_by true ds cs es fs w e = cc
only_dots_by false ds (c ∷ cs) es fs w e = cc
only_dots_by false ds [] (d ∷ es) fs w e = cc
only_dots_by false ds [] [] (f ∷ fs) w e = cc
only_dots_by false ds [] [] [] (f ∷ w) e = cc
only_dots_by false ds [] [] [] [] e = refl

only_dots : (o : Others) → is_nothing (record o { dots = [] }) ≡ true → o ≡ of_dots o.dots
only_dots o e = only_dots_by o.is_imaginary o.dots o.components o.deltas o.functions o.word e

-- the term whose exponents are turned, where it has symbols and dot products alone
abbrev pub turned_term : Term → Term
turned_term t = record { symbols = map turned_power t.symbols; others = of_dots (map turned_dot t.others.dots) }

pub turned_same : (t : Term) → is_invertible t ≡ true → turned_term t ≡ turned_exponents t
turned_same t e = ap (λ (o : Others). record { symbols = map turned_power t.symbols; others = record o { dots = map turned_dot t.others.dots } }) (sym (only_dots t.others e))

turned_size : (k : ℤ) → nat_abs (neg_ℤ k) ≡ nat_abs k
turned_size (pos zero) = refl
turned_size (pos (suc n)) = refl
turned_size (negsuc n) = refl

all_turned : {X : Type 0} (P Q : X → Type 0) (f : X → X) → ((x : X) → P x → Q (f x)) → (xs : List X) → All P xs → All Q (map f xs)
all_turned P Q f go [] h = All-nil Q
all_turned P Q f go (x ∷ xs) h = All-cons Q (f x) (map f xs) (go x (All-head P x xs h)) (all_turned P Q f go xs (All-tail P x xs h))

turned_rises : (n : ℕ) (ps : List Power) → RiseFrom n ps → RiseFrom n (map turned_power ps)
turned_rises n [] h = tt
turned_rises n (p ∷ ps) h = (h.0, turned_rises (suc p.symbol) ps h.1)

turned_above : (d : DotPower) (ds : List DotPower) → AllByRecursion (λ e. pair_order d e ≡ Less) ds → AllByRecursion (λ e. pair_order (turned_dot d) e ≡ Less) (map turned_dot ds)
turned_above d [] h = tt
turned_above d (e ∷ ds) h = (h.0, turned_above d ds h.1)

turned_dots_rise : (ds : List DotPower) → IsStrictlySortedBy pair_order ds → IsStrictlySortedBy pair_order (map turned_dot ds)
unfolding IsStrictlySortedBy
turned_dots_rise [] h = tt
turned_dots_rise (d ∷ ds) h = (turned_above d ds h.0, turned_dots_rise ds h.1)

turned_factors : (ds : List DotPower) → IsStrictlySortedBy pair_order ds → All (λ (d : DotPower). 0 < nat_abs d.exponent) ds → All (λ (d : DotPower). nat_abs d.exponent ≤ largest_exponent) ds
    → All (λ (d : DotPower). d.left ≤ d.right) ds → AreFactors IsCall (of_dots (map turned_dot ds))
turned_factors ds rise present range turned = record {
  dots_rise = turned_dots_rise ds rise;
  dots_present = all_turned (λ (d : DotPower). 0 < nat_abs d.exponent) (λ (d : DotPower). 0 < nat_abs d.exponent) turned_dot (λ d h. subst (λ n. 0 < n) (sym (turned_size d.exponent)) h) ds present;
  dots_in_range = all_turned (λ (d : DotPower). nat_abs d.exponent ≤ largest_exponent) (λ (d : DotPower). nat_abs d.exponent ≤ largest_exponent) turned_dot (λ d h. subst (λ n. n ≤ largest_exponent) (sym (turned_size d.exponent)) h) ds range;
  dots_turned = all_turned (λ (d : DotPower). d.left ≤ d.right) (λ (d : DotPower). d.left ≤ d.right) turned_dot (λ d h. h) ds turned;
  components_rise = tt;
  deltas_rise = tt;
  deltas_turned = All-nil (λ d. is_gt (index_order d.first d.second) ≡ false);
  functions_rise = tt;
  functions = All-nil IsCall;
  word = All-nil IsCall;
}

-- turning exponents keeps what holds of a term
pub turned_lawful : (t : Term) → is_invertible t ≡ true → IsTerm t → IsTerm (turned_term t)
turned_lawful t only h =
    let small : length t.symbols + size_of_others (of_dots t.others.dots) ≤ largest_size = subst (λ o. length t.symbols + size_of_others o ≤ largest_size) (only_dots t.others only) h.small in
    record {
      rising = turned_rises 0 t.symbols h.rising;
      present = all_turned (λ (p : Power). 0 < nat_abs p.exponent) (λ (p : Power). 0 < nat_abs p.exponent) turned_power (λ p k. subst (λ n. 0 < n) (sym (turned_size p.exponent)) k) t.symbols h.present;
      in_range = all_turned (λ (p : Power). nat_abs p.exponent ≤ largest_exponent) (λ (p : Power). nat_abs p.exponent ≤ largest_exponent) turned_power (λ p k. subst (λ n. n ≤ largest_exponent) (sym (turned_size p.exponent)) k) t.symbols h.in_range;
      others = turned_factors t.others.dots h.others.dots_rise h.others.dots_present h.others.dots_in_range h.others.dots_turned;
      small = omega (arith, small, length-map t.symbols turned_power, length-map t.others.dots turned_dot);
      shallow = omega arith;
    }
