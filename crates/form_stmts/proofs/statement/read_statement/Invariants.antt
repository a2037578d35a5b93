use Rattle.std.proofs.Common.{length, map}
use Rattle.form_grammar.specs.Terminal.{terminal_of}
use Rattle.form_stmts.specs.Reading.{terminals}
use Rattle.form_stmts.proofs.Lined.{HasComeTo}
use Rattle.form_stmts.proofs.statement.read_statement.Given as goal

abbrev pub invariant-loop-first : goal.invariant-loop-first
invariant-loop-first l = HasComeTo (map terminal_of l.fn.tokens.items) l.lines.items (terminals l.rest)

abbrev pub decreases-loop-first : goal.decreases-loop-first
decreases-loop-first l = length (terminals l.rest)
