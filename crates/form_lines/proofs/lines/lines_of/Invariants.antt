use Rattle.std.proofs.Common.{◌≡◌, ◌+◌, ◌≤◌, ℕ, List, length, suc}
use Rattle.std.specs.Str.Lines.{lines}
use Rattle.form_lines.specs.Text.{PhysicalLine, lines_but_commentary}
use Rattle.form_lines.proofs.Going.{behind, read_from}
use Rattle.form_lines.proofs.lines.lines_of.Given as goal

-- what is read, and behind it what the rest gives, is what the whole text gives
pub record IsReadSoFar (bytes : List ℕ) (done : List PhysicalLine) (number : ℕ) (rest : List ℕ) : Type 0 where
  pub reads : lines_but_commentary bytes ≡ behind done (read_from (suc number) (lines rest))
  pub few : number + length rest ≤ length bytes

abbrev pub invariant-loop-text : goal.invariant-loop-text
invariant-loop-text l = IsReadSoFar l.bytes l.lines.items l.number l.rest

abbrev pub decreases-loop-text : goal.decreases-loop-text
decreases-loop-text l = length l.rest
