use Rattle.std.proofs.Common.{◌≡◌, Some, Ok, rules}
use Rattle.form_preproc.proofs.Asking.{called_plain}
use Rattle.form_preproc.specs.Bytes.{trimmed}
use Rattle.form_preproc.specs.Expansion.{prepared}
use Rattle.form_preproc.specs.Instruction.{call_head}
use Rattle.form_preproc.specs.Key.{behind_key}
use Rattle.form_preproc.specs.Machine.{state_of}
use Rattle.form_preproc.proofs.machine.Machine.call.Goals as goal

pub returns-in-Ok-clause-plain : goal.returns-in-Ok-clause-plain
returns-in-Ok-clause-plain g c = λ p.
    let values = (state_of c.args.self.now).values in
    let text = c.args.line.now.line.text in
    let is_known : prepared values text ≡ Ok c.in_ok-text.text = search rules in
    let is_call : call_head (trimmed (behind_key c.args.line.now.key c.in_ok-text.text)) ≡ Some c.in-Ok.head = search rules in
    c.call_procedure.ensures.plain (called_plain values text c.in_ok-text.text c.args.line.now.key c.in-Ok.head p.0 c.args.line.now.plain is_known is_call) p

pub returns-in-Ok-clause-done : goal.returns-in-Ok-clause-done
returns-in-Ok-clause-done g c =
    let head = rw (c.trimmed.ensures, c.behind_key.ensures, c.as_slice.ensures, c.key.ensures.kind) at c.in-Ok.ensures in
    let place = c.in_ok-clone-in-Ok.ensures.cases in
    rw (c.in_ok-text.ensures, head) (rw (place, c.number.ensures) at c.call_procedure.ensures.done)
