use Rattle.form_module.proofs.Unchanged.{dropped_goes, same_becomes, skipped_stays}
use Rattle.form_module.proofs.laws.skipped_and_dropped_stay.Goals as goal

pub returns-clause-skipped : goal.returns-clause-skipped
returns-clause-skipped c = skipped_stays

pub returns-clause-dropped : goal.returns-clause-dropped
returns-clause-dropped c = dropped_goes

pub returns-clause-same : goal.returns-clause-same
returns-clause-same c = same_becomes
