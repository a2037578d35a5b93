use Rattle.std.proofs.Common.{Err, Some, ap, sym, ◌∙◌}
use Rattle.form_expand.specs.Singles.{argument_of, of_collected}
use Rattle.form_flow.proofs.collecting.terms_of.Goals as goal

pub returns-in-Ok : goal.returns-in-Ok
unfolding argument_of
returns-in-Ok c = λ list h.
    let terms = c.into_vec.result.items in
    let all = c.in-Ok.ensures.ok list h ∙ ap Some (sym c.into_vec.ensures) in
    record {
      argument = ap of_collected all;
      rising = c.collected_lists.ensures.rising list terms all;
      present = c.collected_lists.ensures.present list terms all;
    }

pub returns-in-Err-Overflow : goal.returns-in-Err-Overflow
unfolding argument_of
returns-in-Err-Overflow c = λ list h. ap of_collected (c.in-Err-Overflow.ensures.overflow (ap Err c.in-Err-Overflow.field-0-is) list h)
