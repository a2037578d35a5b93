-- Conditions as they are written.
use Rattle.form_base.specs.Condition as conditions
use Rattle.form_base.specs.declared.comparison.Comparison.{Comparison}
use Rattle.form_base.specs.declared.condition.Test as tests
use Rattle.form_base.specs.declared.condition.Test.TheVariants.{Nonzero, Compared, Parenthesis}
use Rattle.form_ast.specs.declared.condition.Value.{Value}

abbrev pub Test : Type 0
Test = tests.Test Value

-- tests joined by `&&`, and such lists joined by `||`
abbrev pub Condition : Type 0
Condition = conditions.Condition Value

abbrev pub nonzero : Value → Test
nonzero v = Nonzero v

abbrev pub compared : Value → Comparison → Value → Test
compared v by w = Compared v by w

abbrev pub parenthesis : Condition → Test
parenthesis c = Parenthesis c
