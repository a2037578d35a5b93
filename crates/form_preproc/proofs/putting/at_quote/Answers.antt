use Rattle.form_preproc.proofs.Splits.{quote_found, not_found}
use Rattle.memchr.specs.Find.{is_byte2}
use Rattle.form_preproc.proofs.putting.at_quote.Goals as goal

pub returns-in-Some : goal.returns-in-Some
returns-in-Some c = quote_found c.args.text.now c.in-Some.place c.in-Some.ensures

pub returns-in-None : goal.returns-in-None
returns-in-None c = not_found (is_byte2 96 39) c.args.text.now c.in-None.ensures
