use Rattle.std.proofs.Common.{◌≡◌, drop}
use Rattle.form_calc.specs.Number.{read_down, zero}
use Rattle.form_calc.proofs.operand.read_down.Given as goal

abbrev pub invariant-loop-byte : goal.invariant-loop-byte
invariant-loop-byte l = read_down zero l.digits ≡ read_down l.value (drop l.byte-index l.digits)
