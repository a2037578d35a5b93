use Rattle.form_preproc.proofs.Splits.{first_found, not_found}
use Rattle.memchr.specs.Find.{is_byte}
use Rattle.form_preproc.proofs.bytes.first_split.Goals as goal

pub returns-in-Some : goal.returns-in-Some
returns-in-Some c = first_found c.args.byte c.args.text.now c.in-Some.place c.in-Some.ensures

pub returns-in-None : goal.returns-in-None
returns-in-None c = not_found (is_byte c.args.byte) c.args.text.now c.in-None.ensures
