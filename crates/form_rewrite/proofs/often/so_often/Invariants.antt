use Rattle.std.proofs.Common.{◌≡◌, map, take}
use Rattle.form_rewrite.specs.Taking.{so_often}
use Rattle.form_rewrite.proofs.often.so_often.Given as goal

abbrev pub invariant-loop-one : goal.invariant-loop-one
invariant-loop-one l = l.uses ≡ map (so_often l.times) (take l.one-index l.takes)
