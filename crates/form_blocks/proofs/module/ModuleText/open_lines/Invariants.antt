use Rattle.std.proofs.Common.{◌≡◌}
use Rattle.std.specs.Vec.Iter.{into_iter_items}
use Rattle.form_blocks.specs.Blocks.{and_lines}
use Rattle.form_blocks.proofs.module.ModuleText.open_lines.Given as goal

abbrev pub invariant-loop-line : goal.invariant-loop-line
invariant-loop-line l = and_lines (into_iter_items l.line-iterator) l.self ≡ and_lines l.fn.lines.items l.fn.self
