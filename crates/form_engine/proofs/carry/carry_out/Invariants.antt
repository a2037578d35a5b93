-- The modules so far were carried out.
use Rattle.std.proofs.Common.{◌≡◌, true}
use Rattle.form_engine.proofs.Going.{IsGoing}
use Rattle.form_engine.proofs.carry.carry_out.Given as goal

abbrev pub invariant-loop-index : goal.invariant-loop-index
invariant-loop-index g l = record {
  going : IsGoing l.settings l.program (g.O.Sink.taken l.initial.out) (g.O.Sink.taken l.out) l.index l.standing.items;
  not_risen : g.O.Sink.faults l.out ≡ g.O.Sink.faults l.initial.out;
  unfinished : g.O.Sink.is_finished l.out ≡ true → g.O.Sink.is_finished l.initial.out ≡ true;
  same_stores : l.stores ≡ l.initial.stores;
}
