-- Which failure comes of the next line or frame, whose number is counted from 1.
use Rattle.std.specs.Prelude.{◌≡◌, ℕ, ◌<◌, List, length, Option, Some, None, IfSome, IsTrue, not}
use Rattle.std.specs.Str.{IsUtf8}
use Rattle.std.specs.Io.BufRead.{take_through}
use Rattle.keyspace.specs.declared.batch.Batch.{Batch}
use Rattle.keyspace.specs.declared.reply.Reply.{Reply}
use Rattle.wire.specs.declared.error.WireError.{WireError}
use Rattle.wire.specs.declared.field.TheConstants.{MAX_BODY_LENGTH}
use Rattle.wire.specs.declared.version.WireVersion.TheVariants.{Two}
use Rattle.wire.specs.Fields.{batch_fields, reply_fields}
use Rattle.wire.specs.Spelling.{batch_body, reply_body}
use Rattle.wire.specs.Reading.{batch_fault, reply_fault}
use Rattle.wire.specs.NextFrame.{IsFaultOf}
use Rattle.wire.specs.NextReply.{IsReplyFaultOf}
use Rattle.json_columns.specs.Columns.{IsColumnOf}
use Rattle.json_lines.specs.Batches.{batch_of}
use Rattle.json_lines.specs.Replies.{reply_of}
use Rattle.batches_tasks.specs.Lines.{is_blank}
use Rattle.batches_tasks.specs.declared.failure.Failure.{Failure}
use Rattle.batches_tasks.specs.declared.failure.Failure.TheVariants as failure
use Rattle.batches_arguments.specs.declared.kind.Kind.{Kind}
use Rattle.batches_arguments.specs.declared.kind.Kind.TheVariants.{Batches, Replies}

-- the line spells no value of this kind, or isn't text
abbrev pub SpellsNothing : Kind → List ℕ → Type 0
SpellsNothing Batches line = IsUtf8 line → batch_of line ≡ None
SpellsNothing Replies line = IsUtf8 line → reply_of line ≡ None

-- the line spells a value that is too long for a frame
abbrev pub SpellsTooMuch : Kind → List ℕ → Type 0
SpellsTooMuch Batches line = (batch : Batch) × (batch_of line ≡ Some (batch_fields batch))
    × (MAX_BODY_LENGTH < length (batch_body Two (batch_fields batch)))
SpellsTooMuch Replies line = (reply : Reply) × (reply_of line ≡ Some (reply_fields reply))
    × (MAX_BODY_LENGTH < length (reply_body (reply_fields reply)))

-- the line spells no value of this kind, and the column is one of it
abbrev pub IsRefusedAt : Kind → ℕ → List ℕ → Type 0
IsRefusedAt kind column line = SpellsNothing kind line × IsColumnOf line column

-- the failure of the line of this number
abbrev pub IsFailureOfLine : Kind → ℕ → List ℕ → Failure → Type 0
IsFailureOfLine kind number line (failure.Line n column refusal) = (n ≡ number) × IsRefusedAt kind column line
IsFailureOfLine kind number line (failure.Long n) = (n ≡ number) × SpellsTooMuch kind line
IsFailureOfLine kind number line failure.Memory = Unit {0}
IsFailureOfLine kind number line other = ⊥

-- the first line, with its line feed, isn't blank, and is so
abbrev pub BeginsWithLine : (List ℕ → Type 0) → List ℕ → Type 0
BeginsWithLine Is bytes = IsTrue (not (is_blank (take_through 10 bytes))) × Is (take_through 10 bytes)

-- what the failure says of the line of this number, or that memory, reading or writing failed
abbrev pub FailsLine : Kind → ℕ → Option (List ℕ) → Failure → Type 0
FailsLine kind number left (failure.Line n column refusal) = (n ≡ number) × IfSome left (BeginsWithLine (IsRefusedAt kind column))
FailsLine kind number left (failure.Long n) = (n ≡ number) × IfSome left (BeginsWithLine (SpellsTooMuch kind))
FailsLine kind number left failure.Memory = Unit {0}
FailsLine kind number left failure.Read = Unit {0}
FailsLine kind number left failure.Write = Unit {0}
FailsLine kind number left other = ⊥

-- the first fault of the frame at the front
abbrev pub fault_of : Kind → List ℕ → Option WireError
fault_of Batches = batch_fault
fault_of Replies = reply_fault

-- the failure of the frame of this number
abbrev pub IsFailureOfFrame : Kind → ℕ → List ℕ → Failure → Type 0
IsFailureOfFrame kind number frame (failure.Frame n fault) = (n ≡ number) × (fault_of kind frame ≡ Some fault)
IsFailureOfFrame kind number frame failure.Memory = Unit {0}
IsFailureOfFrame kind number frame other = ⊥

-- something is left, and this is its first fault
abbrev pub IsFirstFault : Kind → WireError → List ℕ → Type 0
IsFirstFault Batches = IsFaultOf
IsFirstFault Replies = IsReplyFaultOf

-- what the failure says of the frame of this number, or that memory, reading or writing failed
abbrev pub FailsFrame : Kind → ℕ → Option (List ℕ) → Failure → Type 0
FailsFrame kind number left failure.Memory = Unit {0}
FailsFrame kind number left failure.Read = Unit {0}
FailsFrame kind number left failure.Write = Unit {0}
FailsFrame kind number left (failure.Frame n fault) = (n ≡ number) × IfSome left (IsFirstFault kind fault)
FailsFrame kind number left other = ⊥
