use Rattle.std.proofs.Common.{◌<◌, length, sym, ◌∙◌, arith}
use Rattle.std.proofs.lemmas.Bool.{eqb-false}
use Rattle.form_lines.proofs.Splitting.{line_before, whole_line}
use Rattle.form_lines.proofs.lines.first_line.Goals as goal

pub returns-in-Some : goal.returns-in-Some
returns-in-Some c = rw c.without_return.ensures (line_before c.args.bytes.now c.in-Some.end (sym c.newline.ensures ∙ c.in-Some.is))

pub returns-in-None : goal.returns-in-None
returns-in-None c =
    let some : 0 < length c.args.bytes.now = omega (arith, eqb-false _ _ (sym c.is_empty.ensures ∙ c.if-is_empty.false)) in
    whole_line c.args.bytes.now some (sym c.newline.ensures ∙ c.in-None.is)
