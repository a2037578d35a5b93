use Rattle.form_flow.specs.Rewriting.{right_with}
use Rattle.form_levels.proofs.Several.{one_repeated}
use Rattle.form_levels.proofs.groups.Rules.put_one.Goals as goal

pub returns : goal.returns
returns c =
    one_repeated c.args.behind.items c.push.new.self.items (record { list = c.in-Some.list; times = c.args.times }) (right_with c.args.self.now.limit c.args.part.now.right c.args.bindings)
    c.in_ok-push.ensures.items (rw c.in-Some.is at c.in_ok-list.ensures)
