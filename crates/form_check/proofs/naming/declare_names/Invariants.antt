use Rattle.std.proofs.Common.{◌≡◌, ◌≤◌, Ok, take, drop, length}
use Rattle.form_check.specs.Checker.{KeepsDimensions}
use Rattle.form_check.specs.Checking.{named, kind_declared, most_names}
use Rattle.form_right_side.specs.Refusal.{each}
use Rattle.form_check.proofs.naming.declare_names.Given as goal

-- the names so far are those of the spelled ones before, and what is left goes on from them
abbrev pub invariant-loop-spelled : goal.invariant-loop-spelled
invariant-loop-spelled l = record {
  room : length l.names ≤ most_names;
  keeps : KeepsDimensions l.fn.names l.names;
  front : each (named (kind_declared l.declared)) l.fn.names (take l.spelled-index l.list) ≡ Ok l.names;
  declared : each (named (kind_declared l.declared)) l.fn.names l.list ≡ each (named (kind_declared l.declared)) l.names (drop l.spelled-index l.list);
}
