use Rattle.std.proofs.Common.{refl, ◌∙◌}
use Rattle.form_flow.proofs.Resting.{is_put, stays_same}
use Rattle.form_flow.proofs.rest.put_together.Goals as goal

pub returns-then-not-has_matched : goal.returns-then-not-has_matched
returns-then-not-has_matched c = λ ps m number is.
    stays_same c.args.rest.limit ps m c.args.rest (record { coefficient = c.args.coefficient; term = c.args.rest.left }) is c.if-not-has_matched.true number refl

pub returns : goal.returns
returns c = λ ps m number is.
    is_put c.args.rest.limit ps m (record { coefficient = c.args.coefficient; term = c.args.rest.left }) c.args.rest c.in_ok-new.field-0 refl is c.if-not-has_matched.false number refl (c.in_ok-new.ensures.ok ∙ c.in_ok-row.ensures)
