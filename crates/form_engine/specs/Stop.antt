-- What ends a call early, as a status.
use Rattle.std.specs.Prelude.{Result, Ok, Err}
use Rattle.form_base.specs.declared.status.Status.{Status}
use Rattle.form_base.specs.declared.status.Status.TheVariants.{LibraryFault, SinkFault, OutOfMemory}
use Rattle.form_outside.specs.declared.sink.SinkErr as sink
use Rattle.form_outside.specs.declared.sink.SinkErr.TheVariants as sink_errors
use Rattle.form_engine.specs.declared.stop.Stop as stop
use Rattle.form_engine.specs.declared.stop.Stop.TheVariants as stops

abbrev pub status_of : stop.Stop → Status
status_of stops.Library = LibraryFault
status_of stops.Sink = SinkFault
status_of stops.Memory = OutOfMemory

abbrev pub stop_of_sink : sink.SinkErr → stop.Stop
stop_of_sink sink_errors.Failed = stops.Sink
stop_of_sink sink_errors.Memory = stops.Memory

-- how a run ended, as a status
abbrev pub ending : Result Status stop.Stop → Status
ending (Ok status) = status
ending (Err early) = status_of early
