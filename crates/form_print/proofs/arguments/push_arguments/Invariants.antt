-- What was put and what is left are the whole.
use Rattle.std.proofs.Common.{◌≡◌, ◌≤◌, ◌+◌, ◌++◌, suc, length, string_bytes}
use Rattle.form_print.specs.Arguments as printing
use Rattle.form_print.proofs.arguments.push_arguments.Given as goal

abbrev pub invariant-loop-piece : goal.invariant-loop-piece
invariant-loop-piece l =
    (string_bytes l.text ++ printing.text_behind l.names l.before l.passed l.times l.opened.items l.rest ≡ string_bytes l.initial.text ++ printing.arguments_text l.names l.fn.pieces)
    × (l.times + length l.rest ≤ suc (length l.fn.pieces))

abbrev pub decreases-loop-piece : goal.decreases-loop-piece
decreases-loop-piece l = length l.rest
