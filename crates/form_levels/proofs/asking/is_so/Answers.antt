use Rattle.std.proofs.Common.{◌≡◌, IfOk, subst, ◌∙◌}
use Rattle.form_cond.specs.Condition.{holds}
use Rattle.form_tree.specs.Condition.{Alternatives}
use Rattle.form_levels.proofs.asking.is_so.Goals as goal

pub returns : goal.returns
returns c =
    let q = c.args.question.now in
    let j = c.args.joined.now in
    subst (λ (a : Alternatives). IfOk c.holds.result (λ so. so ≡ holds q.patterns a j.sum j.term)) (c.as_slice.ensures ∙ c.alternatives.ensures)
    (c.holds.ensures.holds q.patterns c.patterns.ensures)
