use Rattle.std.proofs.Common.{◌≡◌, drop}
use Rattle.form_calc.specs.Number.{read_up, zero}
use Rattle.form_calc.proofs.operand.read_up.Given as goal

abbrev pub invariant-loop-byte : goal.invariant-loop-byte
invariant-loop-byte l = read_up zero l.digits ≡ read_up l.value (drop l.byte-index l.rest)
