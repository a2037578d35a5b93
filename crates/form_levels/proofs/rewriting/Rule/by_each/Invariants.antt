use Rattle.std.proofs.Common.{List}
use Rattle.std.specs.Vec.Iter.{into_iter_items}
use Rattle.form_bindings.specs.Values.{Binding}
use Rattle.form_levels.specs.Becoming.{right_by}
use Rattle.form_levels.proofs.Becoming.{HasComeBy}
use Rattle.form_levels.proofs.rewriting.Rule.by_each.Given as goal

abbrev pub invariant-loop-bindings : goal.invariant-loop-bindings
invariant-loop-bindings l = HasComeBy (List Binding) l.self.limit (right_by l.self l.times) l.fn.front l.fn.matches.items (into_iter_items l.bindings-iterator) l.fronts
