-- What a contract sees of the frames of a reader whose transactions all ask for their reports. This project's own.
use Rattle.std.specs.Prelude.{true, if◌then◌else◌, Option, Some}
use Rattle.keyspace.specs.declared.row.Row.{Row}
use Rattle.wire.specs.declared.error.WireError.{WireError}
use Rattle.wire.specs.declared.error.WireError.TheVariants.{Memory}
use Rattle.wire.specs.Frames.{frames_reader, refusal_of}
use Rattle.replay_workers.specs.declared.reporting_batches.AskingFrames.{AskingFrames}

-- the row of the same transaction, which asks for its report
abbrev pub asking_row : Row → Row
asking_row row = record row { marked = true }

module _ {S : Type 0} where
  -- the reader that the frames come from
  abbrev pub asking_reader : AskingFrames S → S
  asking_reader stream = frames_reader stream.frames

  -- the refusal that ended the batches
  abbrev pub asking_refusal : AskingFrames S → Option WireError
  asking_refusal stream = if stream.out_of_memory then Some Memory else refusal_of stream.frames
