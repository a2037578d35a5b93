use Rattle.form_preproc.proofs.Answering.{expanded_told}
use Rattle.form_preproc.proofs.file.expand_text.Goals as goal

pub returns-in-Ok-clause-expanded : goal.returns-in-Ok-clause-expanded
returns-in-Ok-clause-expanded g c =
    expanded_told (g.L.Library.texts c.args.library.now) c.args.file.now c.args.bytes.now c.in-Ok.expander c.run-ran.new.self c.run-ran.result c.conclude.result
    c.in-Ok.ensures.begun c.run-ran.ensures.ran c.conclude.ensures.concluded
