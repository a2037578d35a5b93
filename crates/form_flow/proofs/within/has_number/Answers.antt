use Rattle.std.proofs.Common.{◌==◌, ◌||◌, sym, ap, ◌∙◌}
use Rattle.std.specs.List.{list_any}
use Rattle.form_flow.proofs.Untaken.{none_nil}
use Rattle.form_flow.proofs.within.has_number.Goals as goal

pub returns-else-is_empty : goal.returns-else-is_empty
returns-else-is_empty c =
    let ns = c.args.numbers.now in
    c.stands_in.ensures ∙ sym (ap (λ b. b || list_any (λ n. n == c.args.number) ns) (none_nil ns c.is_empty.result c.is_empty.ensures c.if-is_empty.false))
