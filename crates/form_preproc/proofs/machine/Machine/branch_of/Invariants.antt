use Rattle.std.proofs.Common.{◌≡◌, ◌<◌, ◌≤◌, ◌+◌, ◌-◌, ◌*◌, ℕ, Bool, cond, length}
use Rattle.form_lines.specs.Program.{most_lines}
use Rattle.form_preproc.specs.Plainness.{MachineIsPlain}
use Rattle.form_preproc.specs.Machine.{state_of, calls_of, line_of, behind_place, IsLed}
use Rattle.form_preproc.specs.Expansion.{testing, choosing}
use Rattle.form_preproc.specs.declared.machine.Machine.{Machine}
use Rattle.form_preproc.specs.declared.source.Source.{Source}
use Rattle.form_preproc.specs.declared.source.SourceLine.{SourceLine}
use Rattle.form_preproc.proofs.machine.Machine.branch_of.Given as goal

-- the branch at a place is the one that is judged
pub record IsJudgedTo (first : Machine) (source : Source) (line : SourceLine) (place : ℕ) (m : Machine) (at : ℕ) (holds : Bool) : Type 0 where
  pub within : at < length source.lines.items
  pub led : IsLed (testing (state_of first) (line_of source line) (behind_place source place)) (choosing (state_of m) (behind_place source at) holds)
  pub same : calls_of m ≡ calls_of first
  pub more : first.acted < m.acted
  pub few : m.acted ≤ most_lines
  pub plain : MachineIsPlain first → MachineIsPlain m

abbrev pub invariant-loop-holds : goal.invariant-loop-holds
invariant-loop-holds l = IsJudgedTo l.fn.self l.source l.line l.fn.place l.self l.at l.holds

abbrev pub decreases-loop-holds : goal.decreases-loop-holds
decreases-loop-holds l = 2 * (most_lines - l.self.acted) + cond l.holds 0 1
