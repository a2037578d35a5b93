use Rattle.std.proofs.Common.{◌≡◌, ◌+◌, ◌≤◌, ℕ, List, length}
use Rattle.std.specs.Str.Lines.{lines}
use Rattle.form_lines.proofs.lines.last_line.Given as goal

-- the lines that are counted and those of the rest are all lines
pub record AreCounted (bytes : List ℕ) (number : ℕ) (rest : List ℕ) : Type 0 where
  pub all : number + length (lines rest) ≡ length (lines bytes)
  pub few : number + length rest ≤ length bytes

abbrev pub invariant-loop-others : goal.invariant-loop-others
invariant-loop-others l = AreCounted l.bytes l.number l.rest

abbrev pub decreases-loop-others : goal.decreases-loop-others
decreases-loop-others l = length l.rest
