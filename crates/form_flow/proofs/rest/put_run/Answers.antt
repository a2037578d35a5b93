use Rattle.form_expand.specs.declared.row.Run.TheVariants as runs
use Rattle.form_flow.proofs.Behind.{run_behind}
use Rattle.form_flow.proofs.rest.put_run.Goals as goal

pub returns : goal.returns
returns c = λ max. run_behind max c.args.behind.items c.push.new.self.items (runs.Often c.args.list c.args.times) c.in_ok-push.ensures.items
