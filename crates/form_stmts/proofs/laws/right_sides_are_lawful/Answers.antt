use Rattle.form_stmts.proofs.Lines.{lawful_read}
use Rattle.form_stmts.proofs.laws.right_sides_are_lawful.Goals as goal

pub returns : goal.returns
returns c = lawful_read
