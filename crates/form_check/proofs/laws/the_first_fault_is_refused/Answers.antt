use Rattle.form_check.proofs.FirstFault.{is_first}
use Rattle.form_check.proofs.laws.the_first_fault_is_refused.Goals as goal

pub returns : goal.returns
returns c = is_first
