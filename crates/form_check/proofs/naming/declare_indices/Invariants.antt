use Rattle.std.proofs.Common.{◌≡◌, ◌≤◌, Ok, take, drop, length}
use Rattle.form_check.specs.Checker.{KeepsDimensions}
use Rattle.form_check.specs.Checking.{index, most_names}
use Rattle.form_right_side.specs.Refusal.{each}
use Rattle.form_check.proofs.naming.declare_indices.Given as goal

-- the names so far are those of the indices before, and what is left goes on from them
abbrev pub invariant-loop-index : goal.invariant-loop-index
invariant-loop-index l = record {
  room : length l.names ≤ most_names;
  keeps : KeepsDimensions l.fn.names l.names;
  front : each (index l.default) l.fn.names (take l.index-index l.list) ≡ Ok l.names;
  declared : each (index l.default) l.fn.names l.list ≡ each (index l.default) l.names (drop l.index-index l.list);
}
