use Rattle.std.proofs.Common.{◌≡◌, ◌≤◌, take}
use Rattle.std.specs.Prelude.{count_by}
use Rattle.form_ast.specs.Patterns.{has_name}
use Rattle.form_grammar.proofs.balance.count_of.Given as goal

abbrev pub invariant-loop-weight : goal.invariant-loop-weight
invariant-loop-weight l = (l.count ≡ count_by (has_name l.name) (take l.weight-index l.weights)) × (l.count ≤ l.weight-index)
