use Rattle.std.proofs.Common.{◌≡◌, IfSome}
use Rattle.form_preproc.proofs.Running.{GoesOn}
use Rattle.form_preproc.specs.Plainness.{ExpanderIsPlain}
use Rattle.form_preproc.specs.Shallow.{AreShallow}
use Rattle.form_preproc.specs.Stepping.{rank}
use Rattle.form_preproc.proofs.expander.Expander.run.Given as goal

-- what is left goes on as all did
abbrev pub invariant-loop-error : goal.invariant-loop-error
invariant-loop-error g l = record {
  going : IfSome (g.L.Library.texts l.fn.library) (GoesOn l.fn.self l.self);
  plain : ExpanderIsPlain l.fn.self → ExpanderIsPlain l.self;
  shallow : AreShallow l.self.frames;
  same : g.L.Library.texts l.library ≡ g.L.Library.texts l.fn.library;
  faults : g.L.Library.faults l.library ≡ g.L.Library.faults l.fn.library;
}

abbrev pub decreases-loop-error : goal.decreases-loop-error
decreases-loop-error g l = rank l.self
