-- Laws about keys as text and about lines.
use Rattle.std.specs.Prelude.{◌≡◌, ℕ, List, Some, IsAscii}
use Rattle.keys.specs.Key.{IsBytes}
use Rattle.wire.specs.Fields.{BatchFields, ReplyFields}
use Rattle.wire.specs.Spelling.{BatchHolds, ReplyHolds}
use Rattle.json_lines.specs.KeyForm.{key_form, spelled_key}
use Rattle.json_lines.specs.Batches.{batch_of}
use Rattle.json_lines.specs.Replies.{reply_of}
use Rattle.json_lines.specs.Written.{batch_line, reply_line}

-- the printed form of a byte string spells it, and no other byte string has the same
pub record FormsAreExact : Type 0 where
  pub spells : (key : List ℕ) → IsBytes key → spelled_key (key_form key) ≡ Some key
  pub one : (a b : List ℕ) → IsBytes a → IsBytes b → key_form a ≡ key_form b → a ≡ b
  pub ascii : (key : List ℕ) → IsBytes key → IsAscii (key_form key)

-- the line of a batch spells it
abbrev pub BatchLinesReadBack : Type 0
BatchLinesReadBack = (batch : BatchFields) → BatchHolds batch → batch_of (batch_line batch) ≡ Some batch

-- the line of a reply spells it
abbrev pub ReplyLinesReadBack : Type 0
ReplyLinesReadBack = (reply : ReplyFields) → ReplyHolds reply → reply_of (reply_line reply) ≡ Some reply
