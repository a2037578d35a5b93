use Rattle.form_flow.proofs.Behind.{so_named}
use Rattle.form_flow.proofs.rest.put_behind.Goals as goal

pub returns : goal.returns
returns c = so_named c.args.limit c.args.right.now c.args.times c.args.behind.items c.bound-names.result c.args.bindings c.put_times.result c.bound-names.ensures c.put_times.ensures
