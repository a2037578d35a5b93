use Rattle.std.proofs.Common.{◌≡◌, ◌++◌, List}
use Rattle.std.specs.Vec.Iter.{into_iter_items}
use Rattle.form_stmts.specs.Program.{Lexed, AreLexed}
use Rattle.form_stmts.specs.Progress.{ReadTo}
use Rattle.form_stmts.proofs.program.read_program.Given as goal

abbrev pub invariant-loop-line : goal.invariant-loop-line
invariant-loop-line l = record {
  split : l.yielded ++ into_iter_items l.line-iterator ≡ l.fn.lines.items;
  read : (lexed : List Lexed) × AreLexed l.yielded lexed × ReadTo lexed l.reader;
}
