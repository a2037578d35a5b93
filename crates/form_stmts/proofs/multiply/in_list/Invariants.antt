use Rattle.std.proofs.Common.{◌≡◌, ◌++◌}
use Rattle.std.specs.Vec.Iter.{into_iter_items}
use Rattle.form_stmts.proofs.multiply.in_list.Given as goal

abbrev pub invariant-loop-token : goal.invariant-loop-token
invariant-loop-token l = l.list.items ++ into_iter_items l.token-iterator ≡ into_iter_items l.fn.tokens
