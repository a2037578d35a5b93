use Rattle.std.proofs.Common.{◌≡◌, ◌≤◌, ◌++◌, length, take, drop}
use Rattle.form_match.specs.Taken.{takes_thing}
use Rattle.form_match.proofs.Remaining.{untaken_from}
use Rattle.form_match.proofs.left.leave.Given as goal

abbrev pub invariant-loop-place : goal.invariant-loop-place
invariant-loop-place g l = record {
  within : l.place ≤ length l.fn.things.items;
  made : l.things.items ≡ take l.place l.fn.things.items ++ untaken_from l.place (takes_thing l.of) l.takes (drop l.place l.fn.things.items);
}

abbrev pub decreases-loop-place : goal.decreases-loop-place
decreases-loop-place g l = l.place
