use Rattle.std.proofs.Common.{sym, ◌∙◌}
use Rattle.form_preproc.proofs.Names.{told}
use Rattle.form_preproc.proofs.variables.name_text.Goals as goal

pub returns-then-is_name : goal.returns-then-is_name
returns-then-is_name c = told _ c.args.name.now c.from_utf8.result c.ok.result (sym c.is_name.ensures ∙ c.if-is_name.true) c.ok.ensures.value c.from_utf8.ensures.cases
