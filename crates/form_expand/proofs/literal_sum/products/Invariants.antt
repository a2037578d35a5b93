use Rattle.std.proofs.Common.{◌≤◌}
use Rattle.form_expand.proofs.literal_sum.products.Given as goal

abbrev pub invariant-loop-piece : goal.invariant-loop-piece
invariant-loop-piece l = l.count ≤ l.most
