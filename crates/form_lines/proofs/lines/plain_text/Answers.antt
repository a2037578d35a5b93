use Rattle.std.proofs.Common.{sym, ◌∙◌}
use Rattle.form_lines.proofs.Plain.{told}
use Rattle.form_lines.proofs.lines.plain_text.Goals as goal

pub returns-then-is_plain : goal.returns-then-is_plain
returns-then-is_plain c = told c.args.text.now c.from_utf8.result c.ok.result (sym c.is_plain.ensures ∙ c.if-is_plain.true) c.ok.ensures.value c.from_utf8.ensures
