use Rattle.form_flow.specs.Statements.{action}
use Rattle.form_levels.specs.Heaps.{limits_of}
use Rattle.form_levels.proofs.Stepping.{comes_into}
use Rattle.form_levels.proofs.levels.Levels.statement.Goals as goal

pub returns : goal.returns
returns c =
    comes_into (action (limits_of c.args.self.now) c.args.action.now) c.args.terms.items c.in-Some.idle.items c.new-heap.result c.act.new.acted c.put_untouched.new.self c.in_ok-into_vec.field-0.items
    c.new-heap.ensures (rw c.in-Some.is at c.in_ok-idle.ensures) (rw c.if-not-branch.false at c.in_ok-put_untouched.ensures) c.in_ok-into_vec.ensures
