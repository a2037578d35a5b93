use Rattle.std.proofs.Common.{ap, sym, ◌∙◌}
use Rattle.std.specs.List.{list_any}
use Rattle.form_cond.specs.Condition.{truth, value_of}
use Rattle.form_cond.specs.Occurring.{occurs}
use Rattle.form_cond.proofs.value.value_of.Goals as goal

pub returns-in-Occurs-clause-value : goal.returns-in-Occurs-clause-value
returns-in-Occurs-clause-value c rs ready =
    c.truth-in-Occurs.ensures
    ∙ ap truth (c.any_occurs.ensures ∙ ap (list_any (λ n. occurs n c.args.term.now)) c.as_slice.ensures)
    ∙ ap (λ v. value_of rs v c.args.coefficient c.args.term.now) (sym c.in-Occurs.is)
