use Rattle.form_check.proofs.Written.{condition_written}
use Rattle.form_check.proofs.condition.condition.Goals as goal

pub alternatives-requires : goal.alternatives-requires
alternatives-requires c = condition_written c.args.written.now c.requires
