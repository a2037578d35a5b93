use Rattle.std.proofs.Common.{◌≡◌, ◌++◌}
use Rattle.std.specs.Vec.Iter.{into_iter_items}
use Rattle.form_pattern.specs.Joining.{pieces_of_level}
use Rattle.form_pattern.proofs.joining.with_factors.Given as goal

-- the pieces so far and those of what is left are all
abbrev pub invariant-loop-factor : goal.invariant-loop-factor
invariant-loop-factor l = l.pieces ++ pieces_of_level (into_iter_items l.factor-iterator) ≡ l.fn.others ++ pieces_of_level l.fn.factors.items
