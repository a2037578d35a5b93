use Rattle.std.proofs.Common.{◌≡◌, map}
use Rattle.std.specs.Vec.Iter.{into_iter_items}
use Rattle.form_grammar.specs.Reading.{begun, reading_of}
use Rattle.form_grammar.specs.Reading.{run as run_from}
use Rattle.form_grammar.specs.Terminal.{terminal_of}
use Rattle.form_grammar.proofs.reader.run.Given as goal

abbrev pub invariant-loop-token : goal.invariant-loop-token
invariant-loop-token l = run_from l.fn.setting (reading_of l.reader) (map terminal_of (into_iter_items l.token-iterator)) ≡ run_from l.fn.setting begun (map terminal_of (into_iter_items l.fn.tokens))
