use Rattle.form_preproc.proofs.Forms.{definition_written, definition_from, head_written, head_from, asked_written, asked_from}
use Rattle.form_preproc.proofs.Included.{included_written, included_from}
use Rattle.form_preproc.proofs.Loops.{looped_written, looped_from_text}
use Rattle.form_preproc.proofs.laws.instructions_as_written.Goals as goal

pub returns-clause-definitions : goal.returns-clause-definitions
returns-clause-definitions c = λ text name value. (definition_from text name value, definition_written text name value)

pub returns-clause-heads : goal.returns-clause-heads
returns-clause-heads c = λ parting text h. (head_from parting text h, head_written parting text h)

pub returns-clause-included : goal.returns-clause-included
returns-clause-included c = λ text name. (included_from text name, included_written text name)

pub returns-clause-loops : goal.returns-clause-loops
returns-clause-loops c = λ text l. (looped_from_text text l, looped_written text l)

pub returns-clause-asked : goal.returns-clause-asked
returns-clause-asked c = λ text name. (asked_from text name, λ both. asked_written text name both.0 both.1)
