use Rattle.form_preproc.proofs.machine.Machine.choose.Goals as goal

pub returns-in_ok-clone-in-Ok-Some-clause-leads : goal.returns-in_ok-clone-in-Ok-Some-clause-leads
returns-in_ok-clone-in-Ok-Some-clause-leads c = rw c.in_ok-clone-in-Ok-Some.ensures.cases (rw c.deref.ensures at (rw c.in-Ok-Some.field-0-is at c.in-Ok-Some.ensures.led))

pub returns-in-Ok-None-clause-leads : goal.returns-in-Ok-None-clause-leads
returns-in-Ok-None-clause-leads c = rw c.deref.ensures at (rw c.in-Ok-None.field-0-is at c.in-Ok-None.ensures.led)
