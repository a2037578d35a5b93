use Rattle.std.proofs.Common.{arith}
use Rattle.form_sides.proofs.Reading.{piece_read}
use Rattle.form_sides.proofs.sums.one_piece.Goals as goal

pub returns-in-Some : goal.returns-in-Some
returns-in-Some c = record {
  read = piece_read c.args.limit c.args.names.now c.args.piece.now c.args.more.now c.in-Some.list.items (rw c.in-Some.is at c.in_ok-list.ensures);
  shorter = omega arith;
}
