use Rattle.std.proofs.Common.{◌||◌, sym, ap, ◌∙◌}
use Rattle.std.specs.List.{list_any}
use Rattle.form_flow.specs.Arguments.{picks}
use Rattle.form_flow.proofs.Untaken.{none_nil}
use Rattle.form_flow.proofs.within.is_picked.Goals as goal

pub returns-else-is_empty : goal.returns-else-is_empty
returns-else-is_empty c =
    let ps = c.args.functions.now in
    c.has_picked.ensures ∙ sym (ap (λ b. b || list_any (picks c.args.function c.args.number) ps) (none_nil ps c.is_empty.result c.is_empty.ensures c.if-is_empty.false))
