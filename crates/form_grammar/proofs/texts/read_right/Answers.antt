use Rattle.std.proofs.Common.{map}
use Rattle.std.specs.Vec.Iter.{into_iter_items}
use Rattle.form_grammar.specs.Terminal.{terminal_of}
use Rattle.form_grammar.proofs.Tested.{right_found, right_none}
use Rattle.form_grammar.proofs.texts.read_right.Goals as goal

pub returns-clause-found : goal.returns-clause-found
returns-clause-found c = right_found c.args.pattern.now c.run_right.result (map terminal_of (into_iter_items c.args.tokens)) c.run_right.ensures

pub returns-clause-none : goal.returns-clause-none
returns-clause-none c = right_none c.args.pattern.now c.run_right.result (map terminal_of (into_iter_items c.args.tokens)) c.run_right.ensures
