-- Replies that are read from the front of bytes, one by one.
use Rattle.std.proofs.Common.{◌≡◌, ℕ, List, [], ◌∷◌, ◌++◌, ◌∙◌, refl}
use Rattle.keyspace.specs.declared.reply.Reply.{Reply}
use Rattle.wire.specs.Spelling.{SpellsReply}
use Rattle.archcaraway_c.specs.ShardFrames.{AreRead}

-- one reply more
pub read_more : (bytes : List ℕ) (replies : List Reply) (rest frame after : List ℕ) (reply : Reply) → AreRead bytes replies rest
    → rest ≡ frame ++ after → SpellsReply frame reply → AreRead bytes (replies ++ reply ∷ []) after
read_more bytes [] rest frame after reply are parts spelled = (frame, after, are ∙ parts, spelled, refl)
read_more bytes (first ∷ replies) rest frame after reply are parts spelled = (
  are.0,
  are.1,
  are.2,
  are.3,
  read_more are.1 replies rest frame after reply are.4 parts spelled,
)
