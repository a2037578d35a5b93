use Rattle.std.proofs.Common.{◌≡◌, ◌∙◌}
use Rattle.form_tree.specs.Tree.{Sum, pieces_of_sum}
use Rattle.form_module.specs.Places.{right_side_at}
use Rattle.form_module.proofs.Sided.{of_side}
use Rattle.form_module.proofs.joined.joined_side.Goals as goal

pub returns-in-Some-2 : goal.returns-in-Some-2
returns-in-Some-2 c =
    let right = right_side_at c.args.statements.now c.in-Some.place in
    rw c.in-Some.is
    (of_side c.args.settings.now.max_terms c.args.settings.now.max_expand c.args.compiled.now c.args.standing.now right c.in-Some-2.terms c.few_enough.result
    (λ (s : Sum) (is : right ≡ pieces_of_sum s). let comes = c.in_ok-terms.ensures s (c.right_side-tree.ensures ∙ is) in rw c.in-Some-2.is at comes)
    c.few_enough.ensures)
