use Rattle.std.proofs.Common.{Err, refl}
use Rattle.form_grammar.specs.declared.error.ReadError.TheVariants.{BadSyntax}
use Rattle.form_grammar.proofs.Parts.{finish_found, finish_none, ends_here}
use Rattle.form_grammar.proofs.right_side.RightSide.finish.Goals as goal

pub returns-then-has_failed-clause-none : goal.returns-then-has_failed-clause-none
returns-then-has_failed-clause-none c = finish_none c.args.self (Err BadSyntax) (rw c.if-has_failed.true refl)

pub returns-clause-found : goal.returns-clause-found
returns-clause-found c = finish_found c.args.self c.finish.result (ends_here c.args.self c.finish.result c.if-has_failed.false c.finish.ensures)

pub returns-clause-none : goal.returns-clause-none
returns-clause-none c = finish_none c.args.self c.finish.result (ends_here c.args.self c.finish.result c.if-has_failed.false c.finish.ensures)
