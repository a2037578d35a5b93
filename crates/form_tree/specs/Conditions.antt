-- A condition with its patterns.
use Rattle.std.specs.Prelude.{List}
use Rattle.form_tree.specs.Condition.{Alternatives}
use Rattle.form_tree.specs.Patterns.{Pieces}
use Rattle.form_tree.specs.declared.condition.Condition.{Condition}

-- its alternatives, and its patterns by their numbers
abbrev pub Parts : Type 0
Parts = Condition

abbrev pub condition_of : Alternatives → List Pieces → Parts
condition_of c patterns = record { alternatives = c; patterns = patterns }
