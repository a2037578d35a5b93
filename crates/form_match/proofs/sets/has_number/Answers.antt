use Rattle.std.proofs.Common.{sym, ap, ◌∙◌}
use Rattle.std.specs.Prelude.{flat_map}
use Rattle.std.specs.List.{list_any}
use Rattle.form_match.specs.declared.values.Kind.{Kind}
use Rattle.form_match.specs.Asking.{number_values}
use Rattle.form_bindings.specs.Values.{is_same, number_value}
use Rattle.form_match.proofs.Told.{any_nothing, any_single}
use Rattle.form_match.proofs.sets.has_number.Goals as goal

pub returns-in-Expression : goal.returns-in-Expression
returns-in-Expression c =
    c.is_among.ensures
    ∙ ap (list_any (λ z. is_same c.args.value.now (number_value z))) c.as_slice.ensures
    ∙ any_single (is_same c.args.value.now) number_value c.args.numbers.now
    ∙ ap (λ (k : Kind). list_any (is_same c.args.value.now) (flat_map (λ z. number_values k z) c.args.numbers.now)) (sym c.in-Expression.is)

pub returns-in-Index : goal.returns-in-Index
returns-in-Index c =
    any_nothing (is_same c.args.value.now) c.args.numbers.now
    ∙ ap (λ (k : Kind). list_any (is_same c.args.value.now) (flat_map (λ z. number_values k z) c.args.numbers.now)) (sym c.in-Index.is)

pub returns-in-Vector : goal.returns-in-Vector
returns-in-Vector c =
    any_nothing (is_same c.args.value.now) c.args.numbers.now
    ∙ ap (λ (k : Kind). list_any (is_same c.args.value.now) (flat_map (λ z. number_values k z) c.args.numbers.now)) (sym c.in-Vector.is)

pub returns-in-Function : goal.returns-in-Function
returns-in-Function c =
    any_nothing (is_same c.args.value.now) c.args.numbers.now
    ∙ ap (λ (k : Kind). list_any (is_same c.args.value.now) (flat_map (λ z. number_values k z) c.args.numbers.now)) (sym c.in-Function.is)
