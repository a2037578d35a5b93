use Rattle.std.proofs.Common.{ℕ, List, Result, IfOk, refl, subst}
use Rattle.std.proofs.lemmas.Result.{err_from_is_err_and}
use Rattle.form_lines.specs.Text.{PhysicalLine}
use Rattle.form_preproc.proofs.Plain.{text_plain}
use Rattle.form_preproc.specs.PlainTexts.{LinesArePlain}
use Rattle.form_preproc.proofs.Taken.{taken_lines, refused_nesting}
use Rattle.form_preproc.proofs.source.Source.take_up.Goals as goal

pub returns-in_err-check_nesting-clause-refused : goal.returns-in_err-check_nesting-clause-refused
returns-in_err-check_nesting-clause-refused c =
    let p = err_from_is_err_and c.from_residual-in_err-check_nesting.result c.from_residual-in_err-check_nesting.ensures.1 in
    rw (p.1, p.2) (refused_nesting c.args.name c.args.number c.args.bytes.now c.in-Ok.lines.items c.in_ok-lines-in-Ok.lines.items c.in_err-check_nesting.field-0.0 c.in-Ok.ensures.lines c.in_ok-lines-in-Ok.ensures (rw c.deref.ensures.value at c.in_err-check_nesting.ensures))

pub returns-clause-lines : goal.returns-clause-lines
returns-clause-lines c = (taken_lines c.args.name c.args.number c.args.bytes.now c.in-Ok.lines.items c.in_ok-lines-in-Ok.lines.items c.in-Ok.ensures.lines c.in_ok-lines-in-Ok.ensures (rw c.deref.ensures.value at c.in_ok-check_nesting.ensures), refl)

pub with_keys-requires : goal.with_keys-requires
with_keys-requires c = subst (λ (r : Result (List PhysicalLine) ℕ). IfOk r LinesArePlain) c.in-Ok.ensures.lines (text_plain c.args.bytes.now)
