use Rattle.form_names.proofs.Letters.{fresh}
use Rattle.form_names.proofs.names.Names.new.Goals as goal

pub invariant_of-result : goal.invariant_of-result
invariant_of-result c = fresh c.new.result.entries c.new.ensures.empty
