-- What was put and what is left are the whole.
use Rattle.std.proofs.Common.{◌≡◌, ◌++◌, map, drop}
use Rattle.form_term.specs.declared.index.Component.{Component}
use Rattle.form_flow.proofs.indices.put_components.Given as goal

abbrev pub invariant-loop-component : goal.invariant-loop-component
invariant-loop-component l =
    l.list.items ++ map (λ (c : Component). c.index) (drop l.component-index l.components) ≡ l.initial.list.items ++ map (λ (c : Component). c.index) l.components
