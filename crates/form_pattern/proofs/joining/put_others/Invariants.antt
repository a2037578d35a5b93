use Rattle.std.proofs.Common.{◌≡◌, ◌++◌, replicate}
use Rattle.form_pattern.specs.declared.joining.Factor.TheVariants.{Other}
use Rattle.form_pattern.proofs.joining.put_others.Given as goal

-- so many are there so far
abbrev pub invariant-loop-made : goal.invariant-loop-made
invariant-loop-made l = l.out.items ≡ l.fn.out.items ++ replicate l._made (Other l.pieces)
