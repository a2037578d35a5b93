use Rattle.std.proofs.Common.{◌≡◌, ◌≤◌, List, ap, subst, ◌∙◌}
use Rattle.form_flow.specs.Statement.{Statement}
use Rattle.form_flow.specs.Statements.{run}
use Rattle.form_gathered.specs.Joined.{counted}
use Rattle.form_levels.specs.Runs.{Comes}
use Rattle.form_levels.proofs.Ended.{outputs_had}
use Rattle.form_levels.proofs.outputs.batch_outputs.Goals as goal

pub returns : goal.returns
returns c = λ inputs joined.
    let m = c.args.compiled.now in
    let js = c.args.terms.items in
    let ks = c.in-Some.outputs.items in
    let come : Comes (run m.limits m.statements) js ks =
    subst (λ (ss : List Statement). Comes (run m.limits ss) js ks) (c.as_slice.ensures ∙ c.block.ensures) (rw c.in-Some.is at c.in_ok-outputs.ensures) in
    let count : c.in-Some-counted.count ≡ counted ks = c.in-Some-counted.ensures ∙ ap counted c.deref-2.ensures.value in
    outputs_had m inputs js ks joined come (subst (λ n. n ≤ m.limits.terms) count (subst (λ n. c.in-Some-counted.count ≤ n) c.limit.ensures c.if-count-limit.false))
