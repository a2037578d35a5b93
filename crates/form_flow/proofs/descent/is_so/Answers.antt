use Rattle.std.proofs.Common.{◌≡◌, IfOk, subst, ◌∙◌}
use Rattle.form_cond.specs.Condition.{holds}
use Rattle.form_tree.specs.Condition.{Alternatives}
use Rattle.form_flow.proofs.descent.is_so.Goals as goal

pub returns : goal.returns
returns c =
    let q = c.args.question.now in
    let m = c.args.item.now in
    record {
      holds = subst (λ (a : Alternatives). IfOk c.holds.result (λ truth. truth ≡ holds q.patterns a m.coefficient m.term))
          (c.as_slice.ensures ∙ c.alternatives.ensures)
          (c.holds.ensures.holds q.patterns c.patterns.ensures);
    }
