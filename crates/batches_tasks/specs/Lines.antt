-- Which frame a line becomes, and which line a frame becomes.
use Rattle.std.specs.Prelude.{◌≡◌, ◌⊎◌, ℕ, List, [], ◌∷◌, ◌++◌, Bool, IsTrue, Some}
use Rattle.std.specs.List.{list_all}
use Rattle.json.specs.Word.{is_space}
use Rattle.keyspace.specs.declared.batch.Batch.{Batch}
use Rattle.keyspace.specs.declared.reply.Reply.{Reply}
use Rattle.wire.specs.declared.version.WireVersion.TheVariants.{Two}
use Rattle.wire.specs.Fields.{batch_fields, reply_fields}
use Rattle.wire.specs.Spelling.{SpellsBatch, SpellsReply}
use Rattle.wire.specs.NextFrame.{IsFrameOf}
use Rattle.json_lines.specs.Batches.{batch_of}
use Rattle.json_lines.specs.Replies.{reply_of}
use Rattle.json_lines.specs.Written.{batch_line, reply_line}
use Rattle.batches_tasks.specs.declared.form.OutputForm.{OutputForm}
use Rattle.batches_tasks.specs.declared.form.OutputForm.TheVariants.{Line, Table}
use Rattle.batches_arguments.specs.declared.kind.Kind.{Kind}
use Rattle.batches_arguments.specs.declared.kind.Kind.TheVariants.{Batches, Replies}

-- the frame, of wire version 2, is that of the batch that the line spells
abbrev pub IsBatchFrame : List ℕ → List ℕ → Type 0
IsBatchFrame line frame =
    (batch : Batch) × (batch_of line ≡ Some (batch_fields batch)) × SpellsBatch Two frame batch

-- the frame is that of the reply that the line spells
abbrev pub IsReplyFrame : List ℕ → List ℕ → Type 0
IsReplyFrame line frame = (reply : Reply) × (reply_of line ≡ Some (reply_fields reply)) × SpellsReply frame reply

abbrev pub IsFrame : Kind → List ℕ → List ℕ → Type 0
IsFrame Batches = IsBatchFrame
IsFrame Replies = IsReplyFrame

-- nothing but blanks of JSON: spaces, tabs and ends of lines
abbrev pub is_blank : List ℕ → Bool
is_blank line = list_all is_space line

-- a line becomes its frame, and a blank line nothing
abbrev pub BecomesFrame : Kind → List ℕ → List ℕ → Type 0
BecomesFrame kind line text = (IsTrue (is_blank line) × (text ≡ [])) ⊎ IsFrame kind line text

-- the line, with its line feed, is that of the batch whose frame this is
abbrev pub IsBatchLine : List ℕ → List ℕ → Type 0
IsBatchLine frame line = (batch : Batch) × IsFrameOf frame batch × (line ≡ batch_line (batch_fields batch) ++ 10 ∷ [])

abbrev pub IsReplyLine : List ℕ → List ℕ → Type 0
IsReplyLine frame line = (reply : Reply) × SpellsReply frame reply
    × (line ≡ reply_line (reply_fields reply) ++ 10 ∷ [])

abbrev pub BecomesLine : Kind → List ℕ → List ℕ → Type 0
BecomesLine Batches = IsBatchLine
BecomesLine Replies = IsReplyLine

-- the bytes are a frame; no definition says what its table has
abbrev pub IsShown : Kind → List ℕ → List ℕ → Type 0
IsShown Batches frame table = (batch : Batch) × IsFrameOf frame batch
IsShown Replies frame table = (reply : Reply) × SpellsReply frame reply

-- what is printed of a frame
abbrev pub IsPrinted : Kind → OutputForm → List ℕ → List ℕ → Type 0
IsPrinted kind Line = BecomesLine kind
IsPrinted kind (Table full) = IsShown kind
