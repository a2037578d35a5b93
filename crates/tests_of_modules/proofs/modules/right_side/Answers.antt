use Rattle.std.proofs.Common.{false, rules}
use Rattle.form_tree.specs.Tree.{first, more, one, number, stored}
use Rattle.tests_of_modules.proofs.modules.right_side.Goals as goal

pub returns : goal.returns
returns c = (more (first false (one (number c.args.value c.args.power))) false (one (stored 2 1)), search rules)
