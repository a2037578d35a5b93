use Rattle.std.proofs.Common.{◌≡◌, ◌+◌, ◌≤◌, ◌^◌, length}
use Rattle.form_term.specs.Arguments.{arguments_of}
use Rattle.form_term.specs.Term.{AreArguments}
use Rattle.form_flow.specs.Within.{takes_from}
use Rattle.form_flow.proofs.within.takes_one.Given as goal

abbrev pub invariant-loop-part : goal.invariant-loop-part
invariant-loop-part l = record {
  same : takes_from l.functions l.function l.number (arguments_of l.rest) ≡ takes_from l.functions l.function 1 (arguments_of l.pieces);
  lawful : AreArguments l.rest;
  number : l.number + length l.rest ≤ 2 ^ 64;
}

abbrev pub decreases-loop-part : goal.decreases-loop-part
decreases-loop-part l = length l.rest
