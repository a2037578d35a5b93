-- What a sink in memory has taken.
use Rattle.std.specs.Prelude.{ℕ, Bool, List}
use Rattle.form_mem.specs.declared.sink.MemSink.{MemSink}
use Rattle.form_mem.specs.declared.sink.SureSink.{SureSink}

-- the bytes that it has taken
abbrev pub bytes_of : MemSink → List ℕ
bytes_of sink = sink.taken.items

-- whether its last call was a `finish` that answered Ok
abbrev pub ended : MemSink → Bool
ended sink = sink.finished

-- which calls of `put` are to fail
abbrev pub failing_puts : MemSink → List ℕ
failing_puts sink = sink.puts.failing.items

-- how many calls of `put` there were
abbrev pub put_count : MemSink → ℕ
put_count sink = sink.puts.count

-- which calls of `finish` are to fail
abbrev pub failing_finishes : MemSink → List ℕ
failing_finishes sink = sink.finishes.failing.items

-- how many calls of `finish` there were
abbrev pub finish_count : MemSink → ℕ
finish_count sink = sink.finishes.count

-- how often it has failed
abbrev pub sink_faults : MemSink → ℕ
sink_faults sink = sink.faults

-- the bytes that a sink which never fails has taken
abbrev pub sure_bytes_of : SureSink → List ℕ
sure_bytes_of sink = sink.taken.items

-- whether the last call of a sink which never fails was a `finish`
abbrev pub surely_ended : SureSink → Bool
surely_ended sink = sink.finished
