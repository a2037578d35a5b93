use Rattle.std.proofs.Common.{◌≡◌, take, false}
use Rattle.std.specs.List.{list_any}
use Rattle.form_ast.specs.Patterns.{stays}
use Rattle.form_grammar.proofs.balance.any_stays.Given as goal

abbrev pub invariant-loop-place : goal.invariant-loop-place
invariant-loop-place l = list_any (stays l.weights) (take l.place l.weights) ≡ false
