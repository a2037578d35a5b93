-- Whether a condition asks for the coefficient of a term.
use Rattle.std.specs.Prelude.{Bool, true, false}
use Rattle.std.specs.List.{list_any}
use Rattle.form_base.specs.Condition.{values_of, values_of_test}
use Rattle.form_tree.specs.Condition.{Alternatives, Test}
use Rattle.form_tree.specs.declared.condition.Value.{Value}
use Rattle.form_tree.specs.declared.condition.Value.TheVariants as values

abbrev pub is_coefficient : Value → Bool
is_coefficient values.Coefficient = true
is_coefficient _ = false

abbrev pub asks_of_test : Test → Bool
asks_of_test test = list_any is_coefficient (values_of_test test)

abbrev pub asks_coefficient : Alternatives → Bool
asks_coefficient a = list_any is_coefficient (values_of a)
