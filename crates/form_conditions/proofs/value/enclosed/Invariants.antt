use Rattle.std.proofs.Common.{◌≡◌, ◌≤◌, [], length}
use Rattle.form_conditions.specs.Reading.{enclosed}
use Rattle.form_conditions.specs.Tokens.{left}
use Rattle.form_conditions.proofs.value.enclosed.Given as goal

abbrev pub invariant-loop-token : goal.invariant-loop-token
invariant-loop-token l = record {
  read : enclosed l.depth l.inner (left l.tokens) ≡ enclosed 0 [] (left l.initial.tokens);
  within : l.depth ≤ length l.inner;
}

abbrev pub decreases-loop-token : goal.decreases-loop-token
decreases-loop-token l = length (left l.tokens)
