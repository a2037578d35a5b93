use Rattle.std.proofs.Common.{◌≡◌, take, map}
use Rattle.form_gathered.specs.Joined.{counting_one}
use Rattle.form_levels.proofs.outputs.each_once.Given as goal

abbrev pub invariant-loop-term : goal.invariant-loop-term
invariant-loop-term l = l.all.items ≡ map counting_one (take l.term-index l.terms)
