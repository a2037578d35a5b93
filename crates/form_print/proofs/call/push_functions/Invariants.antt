-- What was put and what is left are the whole.
use Rattle.std.proofs.Common.{◌≡◌, ◌≤◌, ◌+◌, ◌++◌, suc, length, string_bytes}
use Rattle.form_print.specs.Joined.{is_first_behind, starred}
use Rattle.form_print.specs.Printing.{function_texts}
use Rattle.form_print.proofs.call.push_functions.Given as goal

abbrev pub invariant-loop-function : goal.invariant-loop-function
invariant-loop-function l =
    (string_bytes l.text ++ starred l.first (function_texts l.names l.times l.rest) ≡ string_bytes l.initial.text ++ starred l.is_first (function_texts l.names 1 l.functions))
    × (is_first_behind l.first l.rest ≡ is_first_behind l.is_first l.functions)
    × (l.times + length l.rest ≤ suc (length l.functions))

abbrev pub decreases-loop-function : goal.decreases-loop-function
decreases-loop-function l = length l.rest
