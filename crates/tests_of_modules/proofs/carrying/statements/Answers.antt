use Rattle.std.proofs.Common.{false, pos, rules}
use Rattle.form_tree.specs.Tree.{first, more, one, symbol}
use Rattle.tests_of_modules.proofs.carrying.statements.Goals as goal

pub rewriting-requires : goal.rewriting-requires
rewriting-requires c = (more (first false (one (symbol 1 (pos 1)))) false (one (symbol 2 (pos 1))), search rules)
