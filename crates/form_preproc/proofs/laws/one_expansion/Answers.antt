use Rattle.form_preproc.proofs.Existing.{expanded_exists}
use Rattle.form_preproc.proofs.Unique.{expanded_once}
use Rattle.form_preproc.proofs.laws.one_expansion.Goals as goal

pub returns : goal.returns
returns c = record { unique = expanded_once; some = expanded_exists }
