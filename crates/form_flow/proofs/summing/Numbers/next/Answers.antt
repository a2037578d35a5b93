use Rattle.std.proofs.Common.{◌∙◌}
use Rattle.std.proofs.lemmas.List.{nil_from_length}
use Rattle.form_flow.specs.Indices.{number_put}
use Rattle.form_flow.specs.Statements.{summed_over}
use Rattle.form_flow.proofs.Valued.{after_none, after_one, next_value, none_valued, value_refused}
use Rattle.form_flow.proofs.summing.Numbers.next.Goals as goal

pub returns-in-Ok-Some : goal.returns-in-Ok-Some
returns-in-Ok-Some c =
    let s = c.loop-value.self in
    c.loop-value.invariant ∙ next_value s.index c.in-Some.value.now s.values.now c.in-Some.rest.now s.item c.in-Some.ensures.cases.0
    ∙ after_one c.in-Ok-Some.made (number_put s.index c.in-Some.value.now s.item) (summed_over s.index c.in-Some.rest.now s.item) (rw c.in-Ok-Some.field-0-is at c.in-Ok-Some.ensures)

pub returns-in-Err : goal.returns-in-Err
returns-in-Err c =
    let s = c.loop-value.self in
    value_refused c.in-Err.error c.args.self.now s c.in-Some.value.now c.in-Some.rest.now c.loop-value.invariant c.in-Some.ensures.cases.0 c.in-Err.ensures

pub loop-value-preserved : goal.loop-value-preserved
loop-value-preserved c =
    let s = c.loop-value.self in
    c.loop-value.invariant ∙ next_value s.index c.in-Some.value.now s.values.now c.in-Some.rest.now s.item c.in-Some.ensures.cases.0
    ∙ after_none (number_put s.index c.in-Some.value.now s.item) (summed_over s.index c.in-Some.rest.now s.item) (rw c.in-Ok-None.field-0-is at c.in-Ok-None.ensures)

pub returns : goal.returns
returns c = none_valued c.args.self.now c.loop-value.self c.loop-value.invariant (nil_from_length c.loop-value.self.values.now c.in_default.ensures.cases)
