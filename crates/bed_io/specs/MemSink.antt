-- What a sink in memory is seen as.
use Rattle.std.specs.Prelude.{ℕ, ◌+◌, Bool, true, ◌||◌, nat_lt, List, length}
use Rattle.bed_io.specs.Calls.{CallsState, next_fails}
use Rattle.bed_io.specs.Sink.{SinkState}
use Rattle.bed_io.specs.declared.mem_sink.MemSink.{MemSink}

abbrev pub puts_of : MemSink → CallsState
puts_of sink = record { made = sink.puts.made.count; to_fail = sink.puts.to_fail.items }

abbrev pub sink_of : MemSink → SinkState
sink_of sink = record { tells = true; taken = sink.taken.items; faults = sink.faults.count }

-- how many bytes the sink takes in all
abbrev pub room_of : MemSink → ℕ
room_of sink = sink.room

-- the put is one that is to fail, or its bytes pass the room that is left
abbrev pub refuses : MemSink → List ℕ → Bool
refuses sink bytes = next_fails (puts_of sink) || nat_lt (room_of sink) (length (sink_of sink).taken + length bytes)
