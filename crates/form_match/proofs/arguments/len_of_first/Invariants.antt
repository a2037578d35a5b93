use Rattle.std.proofs.Common.{◌≤◌, length}
use Rattle.form_match.specs.Parts.{IsFront}
use Rattle.form_match.proofs.arguments.len_of_first.Given as goal

abbrev pub invariant-loop-argument : goal.invariant-loop-argument
invariant-loop-argument l = record { front : IsFront l.pieces l._argument l.len; inside : l.len ≤ length l.pieces }
