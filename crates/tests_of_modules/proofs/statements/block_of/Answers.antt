use Rattle.std.proofs.Common.{rules}
use Rattle.tests_of_modules.proofs.Blocks.{block_has}
use Rattle.tests_of_modules.proofs.statements.block_of.Goals as goal

pub returns : goal.returns
returns c = block_has c.args.rewriting c.from_vec.result c.from_vec-2.result c.requires (search rules) (search rules)
