-- Replies and batches that are read and counted.
use Rattle.std.specs.Prelude.{◌≡◌, ℕ, List, [], ◌∷◌, ◌++◌, length, Option, IfSome}
use Rattle.keyspace.specs.declared.batch.Batch.{Batch}
use Rattle.keyspace.specs.declared.reply.Reply.{Reply}
use Rattle.wire.specs.Spelling.{SpellsReply}
use Rattle.wire.specs.Upgrade.{AreFrames}
use Rattle.batches_report.specs.Tallied.{IsTally}
use Rattle.batches_report.specs.declared.tally.Tally.{Tally}

-- the bytes are the frames of these replies, in sequence
abbrev pub AreReplyFrames : List ℕ → List Reply → Type 0
AreReplyFrames bytes [] = bytes ≡ []
AreReplyFrames bytes (reply ∷ replies) =
    (first rest : List ℕ) × (bytes ≡ first ++ rest) × SpellsReply first reply × AreReplyFrames rest replies

-- The bytes left are the frames of this many replies, and these were added.
pub record TalliesReplies (left : Option (List ℕ)) (old new : Tally) (number : ℕ) : Type 0 where
  pub bytes : List ℕ
  pub replies : List Reply
  pub frames : AreReplyFrames bytes replies
  pub read : IfSome left (λ all. all ≡ bytes)
  pub count : number ≡ length replies
  pub added : (others : List Reply) → IsTally others [] old → IsTally (others ++ replies) [] new

-- The bytes left are the frames of this many batches, and these were added.
pub record TalliesBatches (left : Option (List ℕ)) (old new : Tally) (number : ℕ) : Type 0 where
  pub bytes : List ℕ
  pub batches : List Batch
  pub frames : AreFrames bytes batches
  pub read : IfSome left (λ all. all ≡ bytes)
  pub count : number ≡ length batches
  pub added : (replies : List Reply) (others : List Batch) → IsTally replies others old
      → IsTally replies (others ++ batches) new
