use Rattle.form_preproc.proofs.Bracketed.{last_argument, first_argument, stray_closing, left_open}
use Rattle.form_preproc.proofs.laws.arguments_parted.Goals as goal

pub returns-clause-last : goal.returns-clause-last
returns-clause-last c = last_argument

pub returns-clause-first : goal.returns-clause-first
returns-clause-first c = first_argument

pub returns-clause-stray : goal.returns-clause-stray
returns-clause-stray c = stray_closing

pub returns-clause-unclosed : goal.returns-clause-unclosed
returns-clause-unclosed c = left_open
