use Rattle.std.proofs.Common.{◌≡◌, take}
use Rattle.std.specs.Prelude.{sum_by}
use Rattle.form_ast.specs.Patterns.{size_at}
use Rattle.form_grammar.proofs.balance.total.Given as goal

abbrev pub invariant-loop-weight : goal.invariant-loop-weight
invariant-loop-weight l = l.sum ≡ sum_by (size_at l.key l.below) (take l.weight-index l.weights)
