use Rattle.std.proofs.Common.{map}
use Rattle.std.specs.Vec.Iter.{into_iter_items}
use Rattle.form_grammar.specs.Terminal.{terminal_of}
use Rattle.form_grammar.proofs.Tested.{within_found, within_none}
use Rattle.form_grammar.proofs.texts.read_pattern_within.Goals as goal

pub returns-clause-found : goal.returns-clause-found
returns-clause-found c = within_found c.args.opened c.run_pattern_within.result (map terminal_of (into_iter_items c.args.tokens)) c.run_pattern_within.ensures

pub returns-clause-none : goal.returns-clause-none
returns-clause-none c = within_none c.args.opened c.run_pattern_within.result (map terminal_of (into_iter_items c.args.tokens)) c.run_pattern_within.ensures
