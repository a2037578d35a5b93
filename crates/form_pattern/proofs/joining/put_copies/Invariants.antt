use Rattle.std.proofs.Common.{◌≡◌, ◌++◌, take}
use Rattle.form_pattern.proofs.joining.put_copies.Given as goal

-- these are there so far
abbrev pub invariant-loop-piece : goal.invariant-loop-piece
invariant-loop-piece l = l.out.items ≡ l.fn.out.items ++ take l.piece-index l.pieces
