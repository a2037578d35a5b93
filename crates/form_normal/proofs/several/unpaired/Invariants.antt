use Rattle.std.proofs.Common.{◌≡◌, ◌++◌, drop, map}
use Rattle.form_normal.specs.Several.{unpaired}
use Rattle.form_normal.proofs.several.unpaired.Given as goal

abbrev pub invariant-loop-pair : goal.invariant-loop-pair
invariant-loop-pair l = l.powers.items ++ map unpaired (drop l.pair-index l.pairs) ≡ map unpaired l.pairs
