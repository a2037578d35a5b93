use Rattle.std.proofs.Common.{◌≡◌, map, take}
use Rattle.form_engine.specs.Outcome.{line_of}
use Rattle.form_engine.proofs.decide.program_lines.Given as goal

abbrev pub invariant-loop-line : goal.invariant-loop-line
invariant-loop-line l = l.lines.items ≡ map line_of (take l.line-index l.handed)
