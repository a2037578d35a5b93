use Rattle.std.proofs.Common.{◌≡◌, ◌++◌}
use Rattle.form_pattern.specs.Joining.{times}
use Rattle.form_pattern.proofs.joining.put_times.Given as goal

-- so many copies are there so far
abbrev pub invariant-loop-made : goal.invariant-loop-made
invariant-loop-made l = l.out.items ≡ l.fn.out.items ++ times l._made l.pieces
