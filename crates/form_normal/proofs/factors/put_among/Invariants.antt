-- What was put and what is left are the whole, in order.
use Rattle.std.proofs.Common.{◌≡◌, ◌++◌, length}
use Rattle.form_term.specs.Term.{RisesBy, call_order}
use Rattle.form_normal.specs.Lists.{in_order}
use Rattle.form_normal.proofs.factors.put_among.Given as goal

abbrev pub invariant-loop-call : goal.invariant-loop-call
invariant-loop-call l = record {
  whole : in_order call_order (l.functions.items ++ l.rest) ≡ in_order call_order (l.initial.functions.items ++ l.more);
  rises : RisesBy call_order l.functions.items;
}

abbrev pub decreases-loop-call : goal.decreases-loop-call
decreases-loop-call l = length l.rest
