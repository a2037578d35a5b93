use Rattle.std.proofs.Common.{false, pos, rules}
use Rattle.form_tree.specs.Tree.{first, number, one}
use Rattle.tests_of_modules.proofs.modules.actions.Goals as goal

pub rewriting-requires : goal.rewriting-requires
rewriting-requires c = (first false (one (number 1 (pos 1))), search rules)
