-- The pieces of the terms so far were taken whole.
use Rattle.std.proofs.Common.{◌≡◌, Ok, true, take}
use Rattle.form_outside.specs.Taken.{Takes}
use Rattle.form_print.specs.Joined.{later_pieces}
use Rattle.form_outside.specs.declared.sink.SinkErr.{SinkErr}
use Rattle.form_print.proofs.print.put_later_pieces.Given as goal

abbrev pub invariant-loop-term : goal.invariant-loop-term
invariant-loop-term g l = record {
  taken : Takes {E = SinkErr} (g.O.Sink.taken l.initial.out) (later_pieces l.names (take l.term-index l.terms)) (g.O.Sink.taken l.out) (Ok tt);
  not_risen : g.O.Sink.faults l.out ≡ g.O.Sink.faults l.initial.out;
  unfinished : g.O.Sink.is_finished l.out ≡ true → g.O.Sink.is_finished l.initial.out ≡ true;
}
