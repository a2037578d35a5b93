use Rattle.std.proofs.Common.{◌≡◌, ◌≤◌, ◌++◌, length, take, drop}
use Rattle.form_match.specs.Left.{powers_left}
use Rattle.form_match.proofs.left.powers_left.Given as goal

abbrev pub invariant-loop-place : goal.invariant-loop-place
invariant-loop-place l = record {
  within : l.place ≤ length l.fn.powers.items;
  made : l.left.items ≡ take l.place l.fn.powers.items ++ powers_left l.takes (drop l.place l.fn.powers.items);
}

abbrev pub decreases-loop-place : goal.decreases-loop-place
decreases-loop-place l = l.place
