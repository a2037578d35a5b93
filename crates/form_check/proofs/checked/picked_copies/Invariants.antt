use Rattle.std.proofs.Common.{◌≡◌, take}
use Rattle.form_check.proofs.checked.picked_copies.Given as goal

abbrev pub invariant-loop-picked : goal.invariant-loop-picked
invariant-loop-picked l = l.copies.items ≡ take l.picked-index l.functions
