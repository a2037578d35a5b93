use Rattle.form_sides.proofs.OnePiece.{stored_read}
use Rattle.form_sides.proofs.pieces.piece_list.Goals as goal

pub returns-in-Stored : goal.returns-in-Stored
returns-in-Stored c = rw c.in-Stored.is (stored_read c.args.limit c.args.names.now c.in-Stored.link c.in-Stored.expression c.in-Stored.power c.stored_list.result c.stored_list.ensures)
