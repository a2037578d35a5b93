use Rattle.std.proofs.Common.{◌≡◌, Some, pos, length}
use Rattle.form_calc.specs.Number.{read_up, zero}
use Rattle.form_calc.proofs.operand.read_few.Given as goal

abbrev pub invariant-loop-rest : goal.invariant-loop-rest
invariant-loop-rest l = read_up zero l.digits ≡ read_up (Some (pos l.few)) l.rest

abbrev pub decreases-loop-rest : goal.decreases-loop-rest
decreases-loop-rest l = length l.rest
