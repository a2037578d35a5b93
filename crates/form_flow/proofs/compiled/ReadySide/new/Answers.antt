use Rattle.std.proofs.Common.{◌≡◌, subst}
use Rattle.std.specs.Prelude.{IfSome}
use Rattle.form_tree.specs.Building.{sum_of}
use Rattle.form_expand.specs.Expanding.{list_of_sum}
use Rattle.form_expand.specs.Meanings.{Meanings}
use Rattle.form_expand.specs.Walks.{all_of}
use Rattle.form_flow.proofs.Readying.{is_built}
use Rattle.form_flow.proofs.compiled.ReadySide.new.Goals as goal

pub invariant_of-result : goal.invariant_of-result
invariant_of-result c =
    let pieces = c.as_slice-pieces.result.now in
    let is = is_built c.args.right.now pieces c.as_slice-pieces.ensures c.requires in
    let names = c.nothing_bound-nothing.ensures in
    let listed = c.in_ok-fixed.ensures.some (sum_of pieces) is in
    (is, subst (λ (n : Meanings). IfSome c.in_ok-fixed.fixed (λ list. list_of_sum c.args.limit n (sum_of pieces) ≡ all_of list.items)) names listed, names)
