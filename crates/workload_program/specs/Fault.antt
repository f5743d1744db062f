-- The lines on standard error, and the faults that they name.
use Rattle.std.specs.Prelude.{◌⊎◌, ℕ, ◌<◌, List, Option, codes}
use Rattle.std.specs.Io.KnownBytes.{Appends}
use Rattle.keyspace.specs.declared.error.LimitError.{LimitError}
use Rattle.keyspace.specs.declared.error.LimitError.TheVariants as refused
use Rattle.wire.specs.declared.error.WireError.{WireError}
use Rattle.wire.specs.declared.error.WireError.TheVariants as wire
use Rattle.workload_program.specs.declared.fault.Fault.{Fault}
use Rattle.workload_program.specs.declared.fault.Fault.TheVariants.{Memory, Limit, Write}

-- the line that reports why a file could not be written in full
abbrev pub line_of : Fault → List ℕ
line_of Memory = codes "workload: memory is refused\n"
line_of Limit = codes "workload: a batch is outside its limits\n"
line_of Write = codes "workload: a write failed\n"

-- the sink, between these bytes and these failures of it, was given the line, or it failed
abbrev pub IsReported : List ℕ → Option (List ℕ) → Option (List ℕ) → ℕ → ℕ → Type 0
IsReported line given_before given_after failures_before failures_after =
    (failures_before < failures_after) ⊎ Appends given_before given_after line

-- the line that says which words are expected
abbrev pub expected_line : List ℕ
expected_line =
    codes "workload: SHAPE (skiplisttest or points), BATCHES (1 to 65536) and TRANSACTIONS (1 to 2500) are expected\n"

-- the fault if a batch is refused
abbrev pub of_limit : LimitError → Fault
of_limit refused.Memory = Memory
of_limit refused.Version = Limit
of_limit refused.Count = Limit

-- the fault where a frame is refused
abbrev pub of_frame : WireError → Fault
of_frame wire.Memory = Memory
of_frame other = Limit
