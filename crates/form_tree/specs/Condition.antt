-- Conditions as they are asked.
use Rattle.form_base.specs.Condition as conditions
use Rattle.form_base.specs.declared.condition.Test as tests
use Rattle.form_tree.specs.declared.condition.Value.{Value}

abbrev pub Test : Type 0
Test = tests.Test Value

-- tests joined by `&&`, and such lists joined by `||`
abbrev pub Alternatives : Type 0
Alternatives = conditions.Condition Value
