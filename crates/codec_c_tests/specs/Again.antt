-- What is spelled again. This project's own.
use Rattle.std.specs.Prelude.{ℕ, List, take}
use Rattle.keyspace.specs.declared.batch.Batch.{Batch}
use Rattle.keyspace.specs.declared.reply.Reply.{Reply}
use Rattle.wire.specs.declared.version.WireVersion.TheVariants.{One}
use Rattle.wire.specs.Spelling.{SpellsBatch, SpellsReply}
use Rattle.wire.specs.Reading.{version_at_front}

-- the bytes are the frame in version 1 of the batch whose frame is at the front
pub record IsBatchAgain (frame bytes : List ℕ) : Type 0 where
  pub batch : Batch
  pub count : ℕ
  pub stands : SpellsBatch (version_at_front frame) (take count frame) batch
  pub again : SpellsBatch One bytes batch

-- the bytes are the frame of the reply whose frame is at the front
pub record IsReplyAgain (frame bytes : List ℕ) : Type 0 where
  pub reply : Reply
  pub count : ℕ
  pub stands : SpellsReply (take count frame) reply
  pub again : SpellsReply bytes reply
