use Rattle.tests_of_calls.proofs.faults.answer_to.Goals as goal

pub tform-status-requires-clause-no_live_run : goal.tform-status-requires-clause-no_live_run
tform-status-requires-clause-no_live_run g c κs within = rw c.deref_mut.ensures.value c.in_ok-stores.ensures.empty
