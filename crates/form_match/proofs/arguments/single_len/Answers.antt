use Rattle.form_match.specs.Parts.{table_of}
use Rattle.form_match.proofs.Asked.{first_taken, nothing_there}
use Rattle.form_match.proofs.arguments.single_len.Goals as goal

pub returns-in_default-clause-alone : goal.returns-in_default-clause-alone
returns-in_default-clause-alone c = λ plain os. nothing_there (table_of c.args.fixed.now) c.args.piece.now c.args.rest.now os c.args.bindings.now c.in_default.ensures plain

pub returns-clause-alone : goal.returns-clause-alone
returns-clause-alone c = λ plain os.
    let first = c.in-Some.ensures in
    first_taken (table_of c.args.fixed.now) c.args.piece.now c.args.rest.now os c.args.bindings.now c.in-Some.part.now c.in-Some.field-0-1.now c.take_argument.new.bindings c.in_ok-is_taken.is_taken c.where_taken.result
    first (c.in_ok-is_taken.ensures.told first.first first.args os plain first.front_is) c.where_taken.ensures
