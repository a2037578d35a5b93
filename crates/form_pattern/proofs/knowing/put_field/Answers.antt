use Rattle.std.proofs.Common.{◌∙◌}
use Rattle.form_pattern.proofs.KnownNames.{field-stands, field-new}
use Rattle.form_pattern.proofs.knowing.put_field.Goals as goal

pub returns-then-has_field : goal.returns-then-has_field
returns-then-has_field c =
    field-stands c.args.fields.now.items c.as_slice.result.now c.in-Field.field c.as_str.result.now c.args.piece.now c.has_field.result c.in-Field.is c.as_slice.ensures.value c.as_str.ensures c.has_field.ensures c.if-has_field.true

pub returns-in_ok-push-in-Field : goal.returns-in_ok-push-in-Field
returns-in_ok-push-in-Field c =
    field-new c.args.fields.now.items c.as_slice.result.now c.in-Field.field c.as_str.result.now c.args.piece.now c.has_field.result c.in-Field.is c.as_slice.ensures.value c.as_str.ensures c.has_field.ensures
    c.in_ok-new-in-Field.field-0 c.push.new.self.items c.if-has_field.false (c.in_ok-new-in-Field.ensures ∙ c.as_str-in-Field.ensures) c.in_ok-push-in-Field.ensures.items
