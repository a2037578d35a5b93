use Rattle.std.proofs.Common.{refl}
use Rattle.form_flow.specs.Making.{HasTrees}
use Rattle.form_flow.proofs.Readying.{at_item}
use Rattle.form_flow.proofs.compiling.group_of.Goals as goal

pub part_of-requires : goal.part_of-requires
part_of-requires c =
    at_item HasTrees c.args.rewritings.now c.args.rewritings.now c.loop-rewriting.rewriting-index c.rewriting-item.result refl c.loop-rewriting-test.true c.rewriting-item.is c.requires
