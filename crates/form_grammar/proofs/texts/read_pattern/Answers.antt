use Rattle.std.proofs.Common.{map}
use Rattle.std.specs.Vec.Iter.{into_iter_items}
use Rattle.form_grammar.specs.Terminal.{terminal_of}
use Rattle.form_grammar.proofs.Tested.{pattern_found, pattern_none}
use Rattle.form_grammar.proofs.texts.read_pattern.Goals as goal

pub returns-clause-found : goal.returns-clause-found
returns-clause-found c = pattern_found c.run_pattern.result (map terminal_of (into_iter_items c.args.tokens)) c.run_pattern.ensures

pub returns-clause-none : goal.returns-clause-none
returns-clause-none c = pattern_none c.run_pattern.result (map terminal_of (into_iter_items c.args.tokens)) c.run_pattern.ensures
