-- A path weighs less with each step.
use Rattle.std.proofs.Common.{◌≡◌, ℕ, suc, ◌+◌, ◌*◌, ◌<◌, List, reverse, sum_by, Option, Some, ap, ◌∙◌, arith}
use Rattle.std.proofs.lemmas.List.Sums.{sum_by-cons}
use Rattle.form_flow.specs.declared.path.Layer.{Layer}
use Rattle.form_flow.specs.declared.path.Path.{Path}
use Rattle.form_flow.specs.Paths.{outer_layers}
use Rattle.form_flow.specs.Statement.{Limits}
use Rattle.form_flow.specs.Weight.{layer_weight, path_weight}

pub repeated_weight : (left b : ℕ) → suc (b + left * suc b) ≡ suc left * suc b
repeated_weight left b = grind arith

pub leaves_less : (at : Limits) (p : Path) (outer new : Layer) (ls : List Layer) → p.outer ≡ Some outer → ls ≡ reverse p.around.items → layer_weight at new ≡ layer_weight at outer
    → layer_weight at new + sum_by (layer_weight at) ls < path_weight at p
leaves_less at p outer new ls next left same =
    let old = ap (λ (o : Option Layer). sum_by (layer_weight at) (outer_layers o p.around.items)) next ∙ sum_by-cons (layer_weight at) outer (reverse p.around.items) in
    let rest = ap (sum_by (layer_weight at)) left in
    omega (arith, same, old, rest)
