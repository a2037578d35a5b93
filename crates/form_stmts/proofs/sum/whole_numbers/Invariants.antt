use Rattle.std.proofs.Common.{◌≡◌, []}
use Rattle.std.specs.Vec.Iter.{into_iter_items}
use Rattle.form_stmts.specs.Statement.{numbers_from}
use Rattle.form_stmts.proofs.sum.whole_numbers.Given as goal

abbrev pub invariant-loop-number : goal.invariant-loop-number
invariant-loop-number l = numbers_from l.wholes.items (into_iter_items l.number-iterator) ≡ numbers_from [] l.fn.numbers
