use Rattle.std.proofs.Common.{List, ℕ, ap, subst, sym, ◌∙◌}
use Rattle.form_flow.specs.Indices.{dummies_put}
use Rattle.form_flow.specs.Outcome.{made}
use Rattle.form_flow.specs.Rewriting.{rewritten}
use Rattle.form_flow.specs.Sources.{HasEffect, listed}
use Rattle.form_flow.specs.Statements.{leaf, multiplied, or_unchanged, summed_over}
use Rattle.form_flow.proofs.Leaves.{of_discard, of_multiply, of_rewrite, of_sum, of_sum_over}
use Rattle.form_flow.proofs.leaf.effect_of.Goals as goal

pub returns-in-Rewrite : goal.returns-in-Rewrite
returns-in-Rewrite c =
    let m = c.args.item in
    let ps = c.in-Rewrite.group in
    subst (HasEffect c.rewritten.result) (ap (λ n. or_unchanged m (rewritten n ps m)) c.limit-limit.ensures ∙ of_rewrite c.args.compiled.now.limits c.args.leaf.now ps m c.in-Rewrite.is) c.rewritten.ensures

pub returns-in-Multiply : goal.returns-in-Multiply
returns-in-Multiply c =
    let m = c.args.item in
    let side = c.in-Multiply.side in
    let s = c.in-Multiply.right in
    subst (HasEffect c.multiplied.result) (ap (λ n. made (multiplied n side s m)) c.limit-limit.ensures ∙ of_multiply c.args.compiled.now.limits c.args.leaf.now side s m c.in-Multiply.is) c.multiplied.ensures

pub returns-in-Sum : goal.returns-in-Sum
returns-in-Sum c =
    let m = c.args.item in
    subst (HasEffect c.effect_of_product.result) (ap (λ (is : List ℕ). made (dummies_put is m)) c.as_slice.ensures ∙ of_sum c.args.compiled.now.limits c.args.leaf.now c.in-Sum.indices m c.in-Sum.is)
    (c.effect_of_product.ensures (dummies_put c.as_slice.result.now m) c.with_dummies.ensures)

pub returns-in-SumOver : goal.returns-in-SumOver
unfolding listed
returns-in-SumOver c =
    let m = c.args.item in
    sym (ap (λ (ns : List ℕ). made (summed_over c.in-SumOver.index ns m)) c.as_slice-in-SumOver.ensures ∙ of_sum_over c.args.compiled.now.limits c.args.leaf.now c.in-SumOver.index c.in-SumOver.values m c.in-SumOver.is)

pub returns-in-Discard : goal.returns-in-Discard
returns-in-Discard c = sym (of_discard c.args.compiled.now.limits c.args.leaf.now c.args.item c.in-Discard.is)
