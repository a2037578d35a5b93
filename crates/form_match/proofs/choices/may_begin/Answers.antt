use Rattle.std.proofs.Common.{sym, ◌∙◌}
use Rattle.form_match.proofs.Words.{no_call_begins}
use Rattle.form_match.proofs.choices.may_begin.Goals as goal

pub returns : goal.returns
returns c = sym (sym c.loop-name.invariant ∙ no_call_begins c.loop-name.rest.now c.loop-name.asked.now (sym c.in_default.ensures))
