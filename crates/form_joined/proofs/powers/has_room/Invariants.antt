use Rattle.std.proofs.Common.{◌-◌}
use Rattle.form_reach.specs.Reach.{StaysWithin}
use Rattle.form_joined.proofs.powers.has_room.Given as goal

-- what stays within the limits from here on stays within them from the first one on
abbrev pub invariant-loop-made : goal.invariant-loop-made
invariant-loop-made l = StaysWithin (l.times - l._made) l.reach l.factor → StaysWithin l.times l.initial.reach l.factor
