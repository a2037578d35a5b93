-- Factors alone are terms.
use Rattle.std.proofs.Common.{◌≡◌, ◌<◌, ◌≤◌, true, false, [], ◌∷◌, arith}
use Rattle.std.specs.Prelude.{nat_abs}
use Rattle.std.specs.List.Sorted.{IsStrictlySortedBy}
use Rattle.std.specs.Ordering.{is_gt}
use Rattle.std.proofs.lemmas.List.Elements.{All-nil, All-cons}
use Rattle.form_term.specs.declared.power.Power.{Power}
use Rattle.form_term.specs.declared.power.DotPower.{DotPower}
use Rattle.form_term.specs.declared.index.Component.{Component}
use Rattle.form_term.specs.declared.index.Delta.{Delta}
use Rattle.form_term.specs.Pieces.{deepest}
use Rattle.form_term.specs.Term.{Others, Call, IsTerm, IsCall, AreFactors, of_others, nothing, index_order, size, depth, size_of_call, largest_exponent, largest_size, largest_depth}
use Rattle.form_term.specs.Factor.{imaginary_factor, dot_factor, component_factor, delta_factor, function_factor, non_commuting_factor}

lawful : (o : Others) → AreFactors IsCall o → size (of_others o) ≤ largest_size → depth (of_others o) ≤ largest_depth → IsTerm (of_others o)
lawful o others small shallow = record {
  rising = tt;
  present = All-nil (λ (p : Power). 0 < nat_abs p.exponent);
  in_range = All-nil (λ (p : Power). nat_abs p.exponent ≤ largest_exponent);
  others = others;
  small = small;
  shallow = shallow;
}

pub imaginary_lawful : IsTerm imaginary_factor
unfolding IsStrictlySortedBy
imaginary_lawful = lawful (record nothing { is_imaginary = true }) (record {
  dots_rise = tt;
  dots_present = All-nil (λ (d : DotPower). 0 < nat_abs d.exponent);
  dots_in_range = All-nil (λ (d : DotPower). nat_abs d.exponent ≤ largest_exponent);
  dots_turned = All-nil (λ (d : DotPower). d.left ≤ d.right);
  components_rise = tt;
  deltas_rise = tt;
  deltas_turned = All-nil (λ (d : Delta). is_gt (index_order d.first d.second) ≡ false);
  functions_rise = tt;
  functions = All-nil IsCall;
  word = All-nil IsCall;
}) (omega arith) (omega arith)

pub dot_lawful : (d : DotPower) → d.left ≤ d.right → 0 < nat_abs d.exponent → nat_abs d.exponent ≤ largest_exponent → IsTerm (dot_factor d)
unfolding IsStrictlySortedBy
dot_lawful d turned present in_range = lawful (record nothing { dots = d ∷ [] }) (record {
  dots_rise = (tt, tt);
  dots_present = All-cons (λ (d : DotPower). 0 < nat_abs d.exponent) d [] present (All-nil (λ (d : DotPower). 0 < nat_abs d.exponent));
  dots_in_range = All-cons (λ (d : DotPower). nat_abs d.exponent ≤ largest_exponent) d [] in_range (All-nil (λ (d : DotPower). nat_abs d.exponent ≤ largest_exponent));
  dots_turned = All-cons (λ (d : DotPower). d.left ≤ d.right) d [] turned (All-nil (λ (d : DotPower). d.left ≤ d.right));
  components_rise = tt;
  deltas_rise = tt;
  deltas_turned = All-nil (λ (d : Delta). is_gt (index_order d.first d.second) ≡ false);
  functions_rise = tt;
  functions = All-nil IsCall;
  word = All-nil IsCall;
}) (omega arith) (omega arith)

pub component_lawful : (c : Component) → IsTerm (component_factor c)
unfolding IsStrictlySortedBy
component_lawful c = lawful (record nothing { components = c ∷ [] }) (record {
  dots_rise = tt;
  dots_present = All-nil (λ (d : DotPower). 0 < nat_abs d.exponent);
  dots_in_range = All-nil (λ (d : DotPower). nat_abs d.exponent ≤ largest_exponent);
  dots_turned = All-nil (λ (d : DotPower). d.left ≤ d.right);
  components_rise = (tt, tt);
  deltas_rise = tt;
  deltas_turned = All-nil (λ (d : Delta). is_gt (index_order d.first d.second) ≡ false);
  functions_rise = tt;
  functions = All-nil IsCall;
  word = All-nil IsCall;
}) (omega arith) (omega arith)

pub delta_lawful : (d : Delta) → is_gt (index_order d.first d.second) ≡ false → IsTerm (delta_factor d)
unfolding IsStrictlySortedBy
delta_lawful d turned = lawful (record nothing { deltas = d ∷ [] }) (record {
  dots_rise = tt;
  dots_present = All-nil (λ (d : DotPower). 0 < nat_abs d.exponent);
  dots_in_range = All-nil (λ (d : DotPower). nat_abs d.exponent ≤ largest_exponent);
  dots_turned = All-nil (λ (d : DotPower). d.left ≤ d.right);
  components_rise = tt;
  deltas_rise = (tt, tt);
  deltas_turned = All-cons (λ (d : Delta). is_gt (index_order d.first d.second) ≡ false) d [] turned (All-nil (λ (d : Delta). is_gt (index_order d.first d.second) ≡ false));
  functions_rise = tt;
  functions = All-nil IsCall;
  word = All-nil IsCall;
}) (omega arith) (omega arith)

pub function_lawful : (c : Call) → IsCall c → size_of_call c ≤ largest_size → deepest 0 c.pieces < largest_depth → IsTerm (function_factor c)
unfolding IsStrictlySortedBy
function_lawful c call small shallow = lawful (record nothing { functions = c ∷ [] }) (record {
  dots_rise = tt;
  dots_present = All-nil (λ (d : DotPower). 0 < nat_abs d.exponent);
  dots_in_range = All-nil (λ (d : DotPower). nat_abs d.exponent ≤ largest_exponent);
  dots_turned = All-nil (λ (d : DotPower). d.left ≤ d.right);
  components_rise = tt;
  deltas_rise = tt;
  deltas_turned = All-nil (λ (d : Delta). is_gt (index_order d.first d.second) ≡ false);
  functions_rise = (tt, tt);
  functions = All-cons IsCall c [] call (All-nil IsCall);
  word = All-nil IsCall;
}) (omega (arith, small)) (omega (arith, shallow))

pub non_commuting_lawful : (c : Call) → IsCall c → size_of_call c ≤ largest_size → deepest 0 c.pieces < largest_depth → IsTerm (non_commuting_factor c)
unfolding IsStrictlySortedBy
non_commuting_lawful c call small shallow = lawful (record nothing { word = c ∷ [] }) (record {
  dots_rise = tt;
  dots_present = All-nil (λ (d : DotPower). 0 < nat_abs d.exponent);
  dots_in_range = All-nil (λ (d : DotPower). nat_abs d.exponent ≤ largest_exponent);
  dots_turned = All-nil (λ (d : DotPower). d.left ≤ d.right);
  components_rise = tt;
  deltas_rise = tt;
  deltas_turned = All-nil (λ (d : Delta). is_gt (index_order d.first d.second) ≡ false);
  functions_rise = tt;
  functions = All-nil IsCall;
  word = All-cons IsCall c [] call (All-nil IsCall);
}) (omega (arith, small)) (omega (arith, shallow))
