-- What one step takes from the bytes of replies that are left, or finds at their front.
use Rattle.std.specs.Prelude.{◌≡◌, ◌≢◌, ℕ, List, [], Option, Some}
use Rattle.std.specs.Io.KnownBytes.{Consumes}
use Rattle.keyspace.specs.declared.reply.Reply.{Reply}
use Rattle.wire.specs.declared.error.WireError.{WireError}
use Rattle.wire.specs.Spelling.{SpellsReply}
use Rattle.wire.specs.Reading.{reply_fault}

-- the frame of the reply is at the front, and just that frame leaves
abbrev pub TakesReply : Option (List ℕ) → Option (List ℕ) → Reply → Type 0
TakesReply old new reply = (bytes : List ℕ) × SpellsReply bytes reply × Consumes old new bytes

-- something is left, and this is its first fault
abbrev pub IsReplyFaultOf : WireError → List ℕ → Type 0
IsReplyFaultOf e bytes = (bytes ≢ []) × (reply_fault bytes ≡ Some e)
