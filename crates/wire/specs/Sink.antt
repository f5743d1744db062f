-- What a contract sees of a writer over `std::io::Write`.
use Rattle.std.specs.Prelude.{ℕ, List, Option, None, ◌==◌, if◌then◌else◌}
use Rattle.wire.specs.declared.sink.StdSink.{StdSink}

-- the writer inside
abbrev pub sink_writer : {W : Type 0} → StdSink W → W
sink_writer sink = sink.writer

-- how often it has failed
abbrev pub sink_failures : {W : Type 0} → StdSink W → ℕ
sink_failures sink = sink.failures

-- the bytes given to it, if the writer reports them, as long as a further failure could be counted
abbrev pub sink_given : {W : Type 0} → (W → Option (List ℕ)) → StdSink W → Option (List ℕ)
sink_given contents sink = if sink.failures == 18446744073709551615 then None else contents sink.writer
