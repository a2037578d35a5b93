use Rattle.std.proofs.Common.{length}
use Rattle.form_match.specs.Parts.{table_of}
use Rattle.form_match.specs.Places.{ground_of}
use Rattle.form_match.proofs.Onward.{IsUnderway}
use Rattle.form_match.proofs.arguments.arguments.Given as goal

abbrev pub invariant-loop-piece : goal.invariant-loop-piece
invariant-loop-piece l = IsUnderway (table_of l.fixed) (ground_of l.terms) l.at l.pieces l.initial.trail l.now l.left l.rest l.asked l.trail

abbrev pub decreases-loop-piece : goal.decreases-loop-piece
decreases-loop-piece l = length l.asked
