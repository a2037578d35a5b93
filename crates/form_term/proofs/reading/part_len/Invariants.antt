-- How many pieces were passed, and that they and what is left make the first part.
use Rattle.std.proofs.Common.{◌≡◌, ◌≤◌, ◌+◌, drop}
use Rattle.form_term.specs.Arguments.{parts_from}
use Rattle.form_term.specs.Reading.{first_length}
use Rattle.form_term.proofs.reading.part_len.Given as goal

abbrev pub invariant-loop-piece : goal.invariant-loop-piece
invariant-loop-piece l = (l.level ≤ l.piece-index) × (l.len ≡ l.piece-index) × (l.len + first_length (parts_from l.level (drop l.piece-index l.pieces)) ≡ first_length (parts_from 0 l.pieces))
