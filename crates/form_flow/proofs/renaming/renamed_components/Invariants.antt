use Rattle.std.proofs.Common.{◌≡◌, map, take}
use Rattle.form_flow.specs.Indices.{become, renamed_component}
use Rattle.form_flow.proofs.renaming.renamed_components.Given as goal

abbrev pub invariant-loop-component : goal.invariant-loop-component
invariant-loop-component l = l.list.items ≡ map (renamed_component (become l.renamings)) (take l.component-index l.components)
