use Rattle.std.proofs.Common.{◌≡◌, ℕ, ◌+◌, ◌*◌, ◌≤◌, map, drop, length}
use Rattle.std.specs.Prelude.{All, sum}
use Rattle.std.specs.List.{sum_by}
use Rattle.form_expand.proofs.Called.{AreTaken}
use Rattle.form_term.specs.Arguments.{arguments_of}
use Rattle.form_term.specs.Pieces.{size_of_pieces}
use Rattle.form_term.specs.Term.{AreArguments, IsCall, size, size_of_call}
use Rattle.form_flow.specs.Indices.{become, each_made, listed, renamed, renamed_argument}
use Rattle.form_flow.specs.Sizes.{weight}
use Rattle.form_flow.proofs.Firsts.{behind, written}
use Rattle.form_flow.proofs.Renewed.{calls_made}
use Rattle.form_flow.proofs.renaming.+renaming.Given as goal

-- each call goes one function further, or into an argument

abbrev pub decreases-renamed : goal.decreases-renamed
decreases-renamed l = size l.item.now.term * 6 + 5

abbrev pub decreases-renamed_calls : goal.decreases-renamed_calls
decreases-renamed_calls l = sum (map size_of_call l.calls.now) * 6 + 4

abbrev pub decreases-renamed_call : goal.decreases-renamed_call
decreases-renamed_call l = size_of_call l.call.now * 6 + 3

abbrev pub decreases-with_argument : goal.decreases-with_argument
decreases-with_argument l = size_of_pieces l.part.now * 6 + 2

abbrev pub decreases-with_sum : goal.decreases-with_sum
decreases-with_sum l = size_of_pieces l.part.now * 6 + 1

abbrev pub decreases-renamed_terms : goal.decreases-renamed_terms
decreases-renamed_terms l = sum_by weight l.terms.now * 6

-- what is left goes on from what is made so far

abbrev pub invariant-renamed_calls-loop-call : goal.invariant-renamed_calls-loop-call
invariant-renamed_calls-loop-call l =
    ((n : ℕ) → sum (map size_of_call l.calls) ≤ n → calls_made (become l.renamings) n l.calls ≡ behind l.list.items (calls_made (become l.renamings) n (drop l.call-index l.calls)))
    × All IsCall l.list.items

abbrev pub invariant-renamed_call-loop-part : goal.invariant-renamed_call-loop-part
invariant-renamed_call-loop-part l = record {
  so_far : (n : ℕ) → size_of_call l.call ≤ n →
      written (each_made (renamed_argument (become l.renamings) (renamed n (become l.renamings))) (arguments_of l.call.pieces))
      ≡ behind l.arguments (written (each_made (renamed_argument (become l.renamings) (renamed n (become l.renamings))) (arguments_of l.rest)));
  lawful : AreArguments l.rest;
  smaller : size_of_pieces l.rest ≤ size_of_pieces l.call.pieces;
}

abbrev pub decreases-renamed_call-loop-part : goal.decreases-renamed_call-loop-part
decreases-renamed_call-loop-part l = length l.rest

abbrev pub invariant-renamed_terms-loop-term : goal.invariant-renamed_terms-loop-term
invariant-renamed_terms-loop-term l =
    (n : ℕ) → sum_by weight l.terms ≤ n → AreTaken l.collector (listed (renamed n (become l.renamings)) l.terms) (listed (renamed n (become l.renamings)) (drop l.term-index l.terms))
