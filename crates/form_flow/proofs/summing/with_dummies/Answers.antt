use Rattle.std.proofs.Common.{List, subst, sym, ◌∙◌}
use Rattle.form_flow.specs.declared.indices.Renaming.{Renaming}
use Rattle.form_flow.specs.Indices.{all_renamed, become}
use Rattle.form_flow.specs.Made.{Makes}
use Rattle.form_flow.proofs.Unrenamed.{dummies_same}
use Rattle.form_flow.proofs.summing.with_dummies.Goals as goal

pub returns-then-stays : goal.returns-then-stays
returns-then-stays c = dummies_same c.args.indices.now c.args.item c.laws.ensures.lowest c.laws.ensures.lawful (sym c.stays.ensures ∙ c.if-stays.true)

pub returns : goal.returns
returns c =
    subst (λ (rs : List Renaming). Makes c.all_renamed.result (all_renamed (become rs) c.args.item)) (c.deref.ensures.value ∙ c.in_ok-renamings.ensures) c.all_renamed.ensures
