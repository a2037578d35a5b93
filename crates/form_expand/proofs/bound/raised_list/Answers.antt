use Rattle.std.proofs.Common.{sym, ap, ◌∙◌}
use Rattle.form_expand.specs.Bound.{list_of_base}
use Rattle.form_expand.proofs.Raised.{none_raised}
use Rattle.form_expand.proofs.bound.raised_list.Goals as goal

pub returns-in_default : goal.returns-in_default
returns-in_default c =
    let all = c.args.names.now in
    let base = c.args.base.now in
    let is_over = c.args.by.now.is_over in
    c.refused.ensures ∙ sym (ap (list_of_base all base is_over) (sym c.in_ok-exponent.ensures.value ∙ c.in_default.is) ∙ none_raised all base is_over)
