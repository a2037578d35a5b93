use Rattle.form_reach.proofs.InARow.{associative, zero_first}
use Rattle.form_reach.proofs.laws.products_in_a_row.Goals as goal

pub returns-clause-associative : goal.returns-clause-associative
returns-clause-associative c = λ a b d x y left middle right first last. associative a b d left middle right y last x first

pub returns-clause-zero : goal.returns-clause-zero
returns-clause-zero c = λ a b d y left middle right first last. zero_first a b d left middle right y last first
