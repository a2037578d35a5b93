use Rattle.std.proofs.Common.{◌≡◌, ◌+◌, ◌-◌, ◌≤◌, ◌++◌, length, take, drop}
use Rattle.form_pattern.specs.PatternWalking.{front}
use Rattle.form_pattern.proofs.putting.front_len.Given as goal

-- what was gone past stands before the rest of the argument
abbrev pub invariant-loop-rest : goal.invariant-loop-rest
invariant-loop-rest l = record {
  room : l.opened + length l.rest ≤ length l.list;
  rest : l.rest ≡ drop (length l.list - length l.rest) l.list;
  same : front 0 l.list ≡ take (length l.list - length l.rest) l.list ++ front l.opened l.rest;
}

abbrev pub decreases-loop-rest : goal.decreases-loop-rest
decreases-loop-rest l = length l.rest
