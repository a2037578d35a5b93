use Rattle.std.specs.Vec.Iter.{into_iter_items}
use Rattle.form_levels.specs.declared.groups.Repeated.{Repeated}
use Rattle.form_levels.specs.Groups.{repeated}
use Rattle.form_levels.proofs.Becoming.{HasComeBy}
use Rattle.form_levels.proofs.groups.Rules.with_all.Given as goal

abbrev pub invariant-loop-one : goal.invariant-loop-one
invariant-loop-one l = HasComeBy Repeated l.self.limit repeated l.fn.front l.fn.behind.items (into_iter_items l.one-iterator) l.fronts
