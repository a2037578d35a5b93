use Rattle.std.proofs.Common.{◌≡◌, map, length}
use Rattle.std.specs.Vec.Iter.{into_iter_items}
use Rattle.form_grammar.specs.Terminal.{terminal_of}
use Rattle.form_stmts.specs.Reading.{terminals}
use Rattle.form_stmts.specs.Rewriting.{sides, with_left}
use Rattle.form_stmts.proofs.rewrite.take_left.Given as goal

abbrev pub invariant-loop-token : goal.invariant-loop-token
invariant-loop-token l = with_left (map terminal_of l.left.items) (sides (terminals l.tokens)) ≡ sides (terminals l.initial.tokens)

abbrev pub decreases-loop-token : goal.decreases-loop-token
decreases-loop-token l = length (into_iter_items l.tokens)
