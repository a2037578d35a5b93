use Rattle.std.proofs.Common.{refl}
use Rattle.form_flow.specs.Making.{HasArgument, entry_of}
use Rattle.form_flow.proofs.Readying.{at_item, one_more, pieces_kept}
use Rattle.form_flow.proofs.compiling.fixed_arguments.Goals as goal

pub fixed_argument-requires : goal.fixed_argument-requires
fixed_argument-requires c = at_item HasArgument c.args.trees.now c.args.trees.now c.loop-tree.tree-index c.tree-item.result refl c.loop-tree-test.true c.tree-item.is c.requires

pub loop-tree-preserved : goal.loop-tree-preserved
loop-tree-preserved c =
    one_more pieces_kept (entry_of c.args.limit) c.loop-tree.calls.items c.push.new.self.items c.in_ok-fixed_argument.field-0 c.args.trees.now c.loop-tree.tree-index c.tree-item.result
    c.loop-tree-test.true c.tree-item.is c.in_ok-fixed_argument.ensures c.in_ok-push.ensures.items c.loop-tree.invariant
