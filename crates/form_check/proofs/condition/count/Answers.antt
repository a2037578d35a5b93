use Rattle.form_check.proofs.Counting.{weights_fit}
use Rattle.form_check.proofs.condition.count.Goals as goal

pub within_limits-requires : goal.within_limits-requires
within_limits-requires c = weights_fit c.args.names.now c.args.written.now c.in_ok-list.list.items c.requires c.in_ok-list.ensures
