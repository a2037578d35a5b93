use Rattle.std.proofs.Common.{◌≡◌, ◌+◌, ◌*◌, ◌≤◌, suc, None, ◌^◌, ℕ, length, drop}
use Rattle.form_flow.specs.Left.{left, limits_of, on_way}
use Rattle.form_flow.specs.Nearing.{ahead, on_way_ahead, two_to, waiting_ahead, way_weight}
use Rattle.form_flow.specs.Weight.{block_weight, weight_of}
use Rattle.std.specs.Prelude.{All}
use Rattle.form_term.specs.Arguments.{arguments_of}
use Rattle.form_term.specs.Term.{AreArguments, IsCall}
use Rattle.form_flow.specs.Arguments.{arguments_behind, calls_behind, outcome_of_terms}
use Rattle.form_flow.specs.declared.within.Walk.{Walk}
use Rattle.form_flow.specs.Within.{going_by, most_of}
use Rattle.form_flow.proofs.Outcomes.{Drained, Passed}
use Rattle.form_flow.proofs.Reached.{behind_far, written_far}
use Rattle.form_flow.proofs.+outputs.Given as goal

-- each call has fewer terms that may go on their way yet, or is one function further

abbrev pub decreases-descent::Descent::next : goal.decreases-descent::Descent::next
decreases-descent::Descent::next l = ahead l.self.now * 16 + 4

abbrev pub decreases-descent::Descent::through : goal.decreases-descent::Descent::through
decreases-descent::Descent::through l = on_way_ahead l.self.now * 16 + 3

abbrev pub decreases-descent::Descent::step : goal.decreases-descent::Descent::step
decreases-descent::Descent::step l = on_way_ahead l.self.now * 16 + 2

abbrev pub decreases-descent::Descent::act : goal.decreases-descent::Descent::act
decreases-descent::Descent::act l = (two_to (weight_of (limits_of l.self.now) l.action.now + way_weight l.self.now) + waiting_ahead l.self.now) * 16 + 1

abbrev pub decreases-descent::Descent::act_within : goal.decreases-descent::Descent::act_within
decreases-descent::Descent::act_within l = (two_to (suc (suc (block_weight (limits_of l.self.now) l.block.now)) + way_weight l.self.now) + waiting_ahead l.self.now) * 16

abbrev pub invariant-descent::Descent::next-loop-item : goal.invariant-descent::Descent::next-loop-item
invariant-descent::Descent::next-loop-item l = record {
  stands : left l.self ≡ left l.initial.self;
  fewer : ahead l.self ≤ ahead l.initial.self;
}

abbrev pub decreases-descent::Descent::next-loop-item : goal.decreases-descent::Descent::next-loop-item
decreases-descent::Descent::next-loop-item l = ahead l.self

abbrev pub invariant-descent::Descent::through-loop-next : goal.invariant-descent::Descent::through-loop-next
invariant-descent::Descent::through-loop-next l = record {
  first : l.self.first ≡ None;
  stands : on_way l.item l.self ≡ on_way l.initial.item l.initial.self;
  fewer : on_way_ahead l.self ≤ on_way_ahead l.initial.self;
}

abbrev pub decreases-descent::Descent::through-loop-next : goal.decreases-descent::Descent::through-loop-next
decreases-descent::Descent::through-loop-next l = on_way_ahead l.self

-- each call goes one function further, or into a block that a statement holds

abbrev most_ahead : Walk → ℕ
most_ahead w = two_to (suc (block_weight w.compiled.now.limits w.block.now))

abbrev pub decreases-within::in_arguments : goal.decreases-within::in_arguments
decreases-within::in_arguments l = two_to (suc (block_weight l.compiled.now.limits l.block.now)) * 16 + 15

abbrev pub decreases-within::calls_behind : goal.decreases-within::calls_behind
decreases-within::calls_behind l = most_ahead l.walk.now * 16 + 14

abbrev pub decreases-within::call_behind : goal.decreases-within::call_behind
decreases-within::call_behind l = most_ahead l.walk.now * 16 + 13

abbrev pub decreases-within::with_argument : goal.decreases-within::with_argument
decreases-within::with_argument l = most_ahead l.walk.now * 16 + 12

abbrev pub decreases-within::with_sum : goal.decreases-within::with_sum
decreases-within::with_sum l = most_ahead l.walk.now * 16 + 11

abbrev pub decreases-within::terms_behind : goal.decreases-within::terms_behind
decreases-within::terms_behind l = most_ahead l.walk.now * 16 + 10

abbrev pub decreases-within::term_behind : goal.decreases-within::term_behind
decreases-within::term_behind l = most_ahead l.walk.now * 16 + 9

abbrev pub decreases-within::add_outputs : goal.decreases-within::add_outputs
decreases-within::add_outputs l = ahead l.outputs.now * 16 + 8

-- ---- what is left goes on from what is made so far

abbrev pub invariant-within::calls_behind-loop-call : goal.invariant-within::calls_behind-loop-call
invariant-within::calls_behind-loop-call l =
    (calls_behind (most_of l.walk) (going_by l.walk) l.walk.functions.now l.fn.has_acted l.calls
    ≡ behind_far l.list.items (calls_behind (most_of l.walk) (going_by l.walk) l.walk.functions.now l.has_acted (drop l.call-index l.calls)))
    × All IsCall l.list.items

abbrev pub invariant-within::call_behind-loop-part : goal.invariant-within::call_behind-loop-part
invariant-within::call_behind-loop-part l = record {
  reached : written_far (arguments_behind (most_of l.walk) (going_by l.walk) l.walk.functions.now l.call.function 1 l.fn.has_acted (arguments_of l.call.pieces))
      ≡ behind_far l.arguments
      (written_far (arguments_behind (most_of l.walk) (going_by l.walk) l.walk.functions.now l.call.function l.number l.has_acted (arguments_of l.rest)));
  lawful : AreArguments l.rest;
  number : l.number + length l.rest ≤ 2 ^ 63;
}

abbrev pub decreases-within::call_behind-loop-part : goal.decreases-within::call_behind-loop-part
decreases-within::call_behind-loop-part l = length l.rest

abbrev pub invariant-within::terms_behind-loop-term : goal.invariant-within::terms_behind-loop-term
invariant-within::terms_behind-loop-term l =
    Passed (most_of l.walk) l.fn.has_acted l.collector l.given l.has_acted (outcome_of_terms (going_by l.walk) l.fn.terms.items) (outcome_of_terms (going_by l.walk) l.term-iterator.rest.items)

abbrev pub invariant-within::add_outputs-loop-item : goal.invariant-within::add_outputs-loop-item
invariant-within::add_outputs-loop-item l = record {
  drained : Drained l.limit l.fn.collector l.fn.given (left l.fn.outputs) l.collector l.count (left l.outputs);
  nearer : ahead l.outputs ≤ ahead l.fn.outputs;
}

abbrev pub decreases-within::add_outputs-loop-item : goal.decreases-within::add_outputs-loop-item
decreases-within::add_outputs-loop-item l = ahead l.outputs
