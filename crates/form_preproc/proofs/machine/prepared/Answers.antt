-- A line in which no braces end stays as it is.
use Rattle.std.proofs.Common.{◌≡◌, ℕ, ◌==◌, List, false, ap, sym, ◌∙◌}
use Rattle.std.specs.List.{list_any}
use Rattle.form_preproc.proofs.machine.prepared.Goals as goal

pub returns-then-not-has_byte : goal.returns-then-not-has_byte
returns-then-not-has_byte c =
    let none : list_any (λ byte. byte == 125) c.in_ok-text.text ≡ false = ap (list_any (λ byte. byte == 125)) (sym c.as_slice.ensures) ∙ sym c.has_byte.ensures ∙ c.if-not-has_byte.true in
    rw c.in_ok-text.ensures (c.braces_calculated.ensures.plain c.in_ok-text.text none)
