-- What a sink over a writer has taken.
use Rattle.std.specs.Prelude.{ℕ, Bool, List, Option, drop}
use Rattle.std.specs.declared.io.traits.Write.{Ghosts}
use Rattle.std.specs.Io.KnownBytes.{append_known}
use Rattle.form_files.specs.declared.out_sink.OutSink.{OutSink}

-- the bytes that its writer holds, where the writer tells them, and then those that wait
abbrev pub taken_by : {W : Type 0} {writer : Ghosts W} → OutSink W writer → Option (List ℕ)
taken_by {writer = writer} sink = append_known (writer.contents sink.out) (drop sink.start sink.waiting.items)

-- what waits to be written, and what was written before the last piece failed
abbrev pub waiting_in : {W : Type 0} {writer : Ghosts W} → OutSink W writer → List ℕ
waiting_in sink = sink.waiting.items

-- its last call was a finish that answered Ok
abbrev pub is_finished : {W : Type 0} {writer : Ghosts W} → OutSink W writer → Bool
is_finished sink = sink.finished

-- how often it has failed
abbrev pub sink_faults : {W : Type 0} {writer : Ghosts W} → OutSink W writer → ℕ
sink_faults sink = sink.faults

-- what it writes to
abbrev pub writer_in : {W : Type 0} {writer : Ghosts W} → OutSink W writer → W
writer_in sink = sink.out
