use Rattle.std.proofs.Common.{sym, ap, ◌∙◌}
use Rattle.std.specs.List.{list_any}
use Rattle.form_levels.specs.Asks.{asks_of_test}
use Rattle.form_levels.proofs.Asked.{asked_in}
use Rattle.form_levels.proofs.asking.asks_coefficient.Goals as goal

pub returns : goal.returns
returns c =
    c.any_asks.ensures ∙ ap (list_any (list_any asks_of_test)) (c.as_slice.ensures ∙ c.alternatives.ensures) ∙ sym (asked_in c.args.question.now.condition)
