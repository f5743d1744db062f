-- Batches, each with the reply to it. A repeat of a batch isn't judged again. This project's own.
use Rattle.std.specs.Prelude.{◌≡◌, ℤ, List, [], ◌∷◌, ◌++◌, Option, Some, None, if◌then◌else◌}
use Rattle.std.specs.List.{list_any}
use Rattle.std.specs.Ordering.{int_cmp, int_eq}
use Rattle.std.specs.BTreeMap as tree
use Rattle.keyspace.specs.declared.batch.Batch.{Batch}
use Rattle.keyspace.specs.declared.reply.Reply.{Reply}
use Rattle.batches_report.specs.declared.left.Left.{Left}

-- a batch, and the reply to it
pub record Answered : Type 0 where
  pub batch : Batch
  pub reply : Reply

-- the first reply of the version; later ones repeat it
abbrev pub first_reply : List Reply → ℤ → Option Reply
first_reply [] version = None
first_reply (r ∷ rs) version = if int_eq r.version version then Some r else first_reply rs version

-- the reply to a batch of this version, after batches of the versions that were seen
abbrev pub reply_unless_seen : List Reply → List ℤ → ℤ → Option Reply
reply_unless_seen replies seen version =
    if list_any (int_eq version) seen then None else first_reply replies version

-- these replies are left, after batches of the versions that were seen
abbrev pub AreLeft : List Reply → List ℤ → Left → Type 0
AreLeft replies seen left = (version : ℤ) → tree.get int_cmp left.replies version ≡ reply_unless_seen replies seen version

-- the batch with its reply, or nothing
abbrev pub answered_with : Batch → Option Reply → List Answered
answered_with b None = []
answered_with b (Some r) = record { batch = b; reply = r } ∷ []

-- the batches that have replies, after batches of the versions that were seen
abbrev pub answered_after : List Reply → List ℤ → List Batch → List Answered
answered_after replies seen [] = []
answered_after replies seen (b ∷ bs) =
    answered_with b (reply_unless_seen replies seen b.version) ++ answered_after replies (seen ++ b.version ∷ []) bs

-- The batches that have replies. The first batch of a version counts, and the first reply.
abbrev pub batches_with_replies : List Reply → List Batch → List Answered
batches_with_replies replies bs = answered_after replies [] bs
