use Rattle.std.proofs.Common.{◌≡◌, drop}
use Rattle.form_match.specs.Taken.{first_part, dot_part}
use Rattle.form_match.proofs.taken.dot_taken.Given as goal

abbrev pub invariant-loop-one : goal.invariant-loop-one
invariant-loop-one l = first_part (dot_part l.place) l.takes ≡ first_part (dot_part l.place) (drop l.one-index l.takes)
