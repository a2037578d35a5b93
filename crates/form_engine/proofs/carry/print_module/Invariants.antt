-- What is printed of the expressions so far was taken whole.
use Rattle.std.proofs.Common.{◌≡◌, Ok, true, take}
use Rattle.form_outside.specs.Taken.{Takes}
use Rattle.form_outside.specs.declared.sink.SinkErr.{SinkErr}
use Rattle.form_engine.specs.Printed.{printed_module}
use Rattle.form_engine.proofs.carry.print_module.Given as goal

abbrev pub invariant-loop-expression : goal.invariant-loop-expression
invariant-loop-expression g l = record {
  taken : Takes {E = SinkErr} (g.O.Sink.taken l.initial.out) (printed_module l.names l.carried.statements (take l.expression-index l.standing)) (g.O.Sink.taken l.out) (Ok tt);
  not_risen : g.O.Sink.faults l.out ≡ g.O.Sink.faults l.initial.out;
  unfinished : g.O.Sink.is_finished l.out ≡ true → g.O.Sink.is_finished l.initial.out ≡ true;
}
