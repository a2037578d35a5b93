use Rattle.std.proofs.Common.{◌≡◌, Ok, ap, subst, ◌∙◌, rules}
use Rattle.std.specs.Prelude.{true}
use Rattle.form_gathered.specs.declared.joined.JoinedTerm.{JoinedTerm}
use Rattle.form_gathered.specs.Joined.{single}
use Rattle.form_gathered.proofs.Inputs.{Adds, one_further}
use Rattle.form_gathered.proofs.batch.joined_inputs.Goals as goal

pub loop-input-preserved : goal.loop-input-preserved
loop-input-preserved c =
    let m = c.input-item.result in
    let old = c.loop-input.table in
    let new = c.add_further.new.self in
    let joined : c.in_ok-add_further.field-0 ≡ true = c.if-not-branch.false in
    let told : c.add_further.result ≡ Ok true = c.in_ok-add_further.was ∙ ap Ok joined in
    let copied : c.in_ok-clone.field-0 ≡ m = search rules in
    let adds : Adds (single m) old new = subst (λ (j : JoinedTerm). Adds j old new) (c.single.ensures.single ∙ ap single copied) (c.add_further.ensures.lists told) in
    one_further c.args.inputs.now old new c.loop-input.input-index m c.loop-input-test.true c.input-item.is c.laws.ensures.lowest adds c.loop-input.invariant
