use Rattle.tform_cli.proofs.command.run_command.Goals as goal

pub tform-requires-clause-no_live_run : goal.tform-requires-clause-no_live_run
tform-requires-clause-no_live_run g c κs within = rw c.deref_mut.ensures.value c.in_ok-stores.ensures.empty
