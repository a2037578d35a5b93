use Rattle.std.proofs.Common.{arith}
use Rattle.form_preproc.proofs.journal.Journal.make_room.Goals as goal

-- there is no room past that of a list
pub overflow_add-room : goal.overflow_add-room
overflow_add-room c = omega (arith, c.args.self.now.roomy, c.args.self.now.changes.small)
