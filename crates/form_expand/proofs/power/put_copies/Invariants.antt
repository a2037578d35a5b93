use Rattle.std.specs.Prelude.{replicate}
use Rattle.form_expand.specs.Factors.{IsSameRow, factor_lists}
use Rattle.form_expand.specs.Kept.{listing}
use Rattle.form_expand.proofs.power.put_copies.Given as goal

-- so many factors are there
abbrev pub invariant-loop-made : goal.invariant-loop-made
invariant-loop-made l = IsSameRow l.scope.limit (replicate l._made (listing l.fn.whole)) (factor_lists l.scope.limit l.factors)
