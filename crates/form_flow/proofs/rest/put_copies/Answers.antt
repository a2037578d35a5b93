use Rattle.form_expand.specs.Expanding.{list_of_sum}
use Rattle.form_expand.specs.Runs.{lists_of}
use Rattle.form_flow.specs.Rests.{names_in}
use Rattle.form_flow.proofs.Behind.{one_behind}
use Rattle.form_flow.proofs.rest.put_copies.Goals as goal

pub loop-made-preserved : goal.loop-made-preserved
loop-made-preserved c =
    one_behind c.args.limit c.loop-made.behind.items c.push.new.self.items c.in_ok-right_side.field-0 (lists_of c.args.limit c.args.behind.items)
    c.loop-made._made (list_of_sum c.args.limit (names_in c.args.names.now) c.args.right.now) c.loop-made.invariant c.in_ok-push.ensures.items c.in_ok-right_side.ensures
