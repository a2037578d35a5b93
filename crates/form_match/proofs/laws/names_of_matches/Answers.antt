use Rattle.form_match.proofs.Named.{left_named, bindings_sound}
use Rattle.form_match.proofs.laws.names_of_matches.Goals as goal

pub returns-clause-left : goal.returns-clause-left
returns-clause-left c = left_named

pub returns-clause-bound : goal.returns-clause-bound
returns-clause-bound c = bindings_sound
