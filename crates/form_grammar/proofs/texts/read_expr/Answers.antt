use Rattle.std.proofs.Common.{map}
use Rattle.std.specs.Vec.Iter.{into_iter_items}
use Rattle.form_grammar.specs.Terminal.{terminal_of}
use Rattle.form_grammar.proofs.Read.{found, none}
use Rattle.form_grammar.proofs.texts.read_expr.Goals as goal

pub returns-clause-found : goal.returns-clause-found
returns-clause-found c = found c.run.result (map terminal_of (into_iter_items c.args.tokens)) c.run.ensures

pub returns-clause-none : goal.returns-clause-none
returns-clause-none c = none c.run.result (map terminal_of (into_iter_items c.args.tokens)) c.run.ensures
