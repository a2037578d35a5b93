use Rattle.std.proofs.Common.{◌≡◌, length}
use Rattle.form_blocks.specs.Blocks.{Unfinished, lines_ended, and_ended}
use Rattle.form_blocks.proofs.module.ModuleText.end_lines.Given as goal

abbrev pub invariant-loop-block : goal.invariant-loop-block
invariant-loop-block l = and_ended (record { opens = l.self-inside.opens; statements = l.self-inside.statements.items; fault = l.self-inside.fault }) ≡ and_ended l.fn.self

abbrev pub decreases-loop-block : goal.decreases-loop-block
decreases-loop-block l = length l.self-inside.opens
