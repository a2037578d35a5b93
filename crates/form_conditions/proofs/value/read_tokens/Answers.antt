use Rattle.std.proofs.Common.{map}
use Rattle.std.specs.Vec.Iter.{into_iter_items}
use Rattle.form_grammar.specs.Terminal.{terminal_of}
use Rattle.form_conditions.proofs.Patterns.{pattern_answers}
use Rattle.form_conditions.proofs.value.read_tokens.Goals as goal

pub returns : goal.returns
returns c =
    pattern_answers c.pattern_is_read.ensures c.read_pattern_within.result c.args.opened (map terminal_of (into_iter_items c.into_iter.result)) c.args.tokens
    c.into_iter.ensures c.read_pattern_within.ensures.found c.read_pattern_within.ensures.none
