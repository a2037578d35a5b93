use Rattle.form_term.specs.Calls.{call}
use Rattle.form_term.proofs.Nesting.{call_lawful}
use Rattle.form_term.proofs.arguments.Arguments.into_call.Goals as goal

pub from_pieces-requires : goal.from_pieces-requires
from_pieces-requires c = call_lawful (call c.args.function c.self.inside.pieces.items) c.self.invariant
