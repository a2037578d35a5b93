use Rattle.std.proofs.Common.{◌≡◌, ◌+◌, ◌<◌, ◌≤◌, ◌^◌, ◌++◌, [], length}
use Rattle.std.specs.Vec.Iter.{into_iter_items}
use Rattle.form_ast.specs.Joined.{joined}
use Rattle.form_right_side.specs.Marks.{stands_in}
use Rattle.form_right_side.specs.Parting.{open_behind}
use Rattle.form_right_side.specs.Walking.{at, walk_of, walked}
use Rattle.form_right_side.specs.declared.walk.Place.TheVariants.{Sum}
use Rattle.form_right_side.proofs.sides.walked_whole.Given as goal

-- what is left goes on from what was made of the parts before
abbrev pub invariant-loop-part : goal.invariant-loop-part
invariant-loop-part l = record {
  opened : l.opened ≡ open_behind 0 l.pieces.items;
  few : l.opened ≤ length l.pieces.items;
  room : l.walk.calls + (length l.pieces.items + length (joined (into_iter_items l.part-iterator))) < 2 ^ 63;
  same : walked l.names (stands_in l.standing) l.known (walk_of l.walk) (l.pieces.items ++ joined (into_iter_items l.part-iterator)) ≡ walked l.names (stands_in l.standing) l.known (at [] Sum 0) l.fn.long;
}
