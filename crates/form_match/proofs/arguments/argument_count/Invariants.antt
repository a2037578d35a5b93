use Rattle.std.proofs.Common.{◌≡◌, ◌+◌, ◌≤◌, length}
use Rattle.form_term.specs.Arguments.{arguments_of}
use Rattle.form_term.specs.Term.{AreArguments}
use Rattle.form_match.proofs.arguments.argument_count.Given as goal

abbrev pub invariant-loop-part : goal.invariant-loop-part
invariant-loop-part l = record {
  counted : l.count + length (arguments_of l.rest) ≡ length (arguments_of l.pieces);
  few : l.count + length l.rest ≤ length l.pieces;
  lawful : AreArguments l.rest;
}

abbrev pub decreases-loop-part : goal.decreases-loop-part
decreases-loop-part l = length l.rest
