use Rattle.std.proofs.Common.{◌≡◌, ◌++◌, drop, map}
use Rattle.form_normal.specs.Several.{paired}
use Rattle.form_normal.proofs.several.put_paired.Given as goal

abbrev pub invariant-loop-power : goal.invariant-loop-power
invariant-loop-power l = l.pairs.items ++ map paired (drop l.power-index l.powers) ≡ l.initial.pairs.items ++ map paired l.powers
