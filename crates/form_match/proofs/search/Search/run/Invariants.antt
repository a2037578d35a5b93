use Rattle.form_match.specs.Parts.{table_of}
use Rattle.form_match.specs.Places.{ground_of}
use Rattle.form_match.specs.Running.{IsRunning, ways_from, ways_left}
use Rattle.form_match.specs.States.{first_found, reach, start}
use Rattle.std.proofs.Common.{◌+◌, length}
use Rattle.form_match.proofs.search.Search.run.Given as goal

abbrev pub invariant-loop-at : goal.invariant-loop-at
invariant-loop-at l =
    IsRunning (table_of l.fixed) l.pieces (first_found (reach (table_of l.fixed) l.pieces (start (ground_of l.fn.self.terms).outer)))
    (ground_of l.self.terms) l.self.trail.takes.items l.self.trail.bindings l.self.trail.choices.items l.at

abbrev pub decreases-loop-at : goal.decreases-loop-at
decreases-loop-at l = ways_from (length l.pieces) l.at + ways_left (length l.pieces) l.self.trail.choices.items
