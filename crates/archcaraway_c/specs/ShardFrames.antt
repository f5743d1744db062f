-- Clips and combinations whose batches and replies are frames. This project's own.
use Rattle.std.specs.Prelude.{
  ◌≡◌,
  ◌<◌,
  ◌≤◌,
  ◌⊎◌,
  ℕ,
  ℤ,
  pos,
  List,
  [],
  ◌∷◌,
  ◌++◌,
  length,
  map,
  Some,
  slice_get,
}
use Rattle.std.specs.List.{AllZip}
use Rattle.keyspace.specs.declared.batch.Batch.{Batch}
use Rattle.keyspace.specs.declared.reply.Reply.{Reply as ReplyValue}
use Rattle.keyspace.specs.declared.answer.Answer.TheVariants as answer
use Rattle.serial.specs.Shards.{Shard, shards}
use Rattle.shards.specs.declared.shard_reply.ShardReply.{ShardReply}
use Rattle.shards.specs.declared.error.Misfit.{Misfit as MisfitValue}
use Rattle.shards.specs.declared.error.Misfit.TheVariants as misfit
use Rattle.shards.specs.Clips.{IsBatchClip}
use Rattle.shards.specs.Numbered.{AreNumbered}
use Rattle.shards.specs.Combined.{IsCombined, IsFirstMisfit}
use Rattle.wire.specs.declared.error.WireError.TheVariants as wire
use Rattle.wire.specs.declared.field.TheConstants.{MAX_BODY_LENGTH}
use Rattle.wire.specs.declared.version.WireVersion.TheVariants.{Two}
use Rattle.wire.specs.Fields.{batch_fields}
use Rattle.wire.specs.Spelling.{batch_body, SpellsBatch, SpellsReply}
use Rattle.wire.specs.Reading.{reply_fault}
use Rattle.archcaraway_c.specs.declared.refusal.Refusal.{Refusal}
use Rattle.archcaraway_c.specs.declared.refusal.Refusal.TheVariants as refused
use Rattle.archcaraway_c.specs.declared.combine_refusal.CombineRefusal.{CombineRefusal}
use Rattle.archcaraway_c.specs.declared.combine_refusal.CombineRefusal.TheVariants.{Frame, Reply, Behind, Misfit}
use Rattle.archcaraway_c.specs.BatchFrame.{IsFrame, IsNoFrame}
use Rattle.archcaraway_c.specs.Given.{WriteRefuses}
use Rattle.archcaraway_c.specs.Status.{wire_status, refusal_status, bytes_needed}

-- the batch is the clip of that of the frame, to the shard of this number
pub record IsClipTo (points : List (List ℕ)) (number : ℕ) (frame : List ℕ) (clip : Batch) : Type 0 where
  pub batch : Batch
  pub shard : Shard
  pub asked : IsFrame frame batch
  pub number_is : slice_get (shards points) number ≡ Some shard
  pub clipped : IsBatchClip shard batch clip

-- the second frame, of wire version 2, is that of the clip
abbrev pub IsClippedFrame : List (List ℕ) → ℕ → List ℕ → List ℕ → Type 0
IsClippedFrame points number frame out =
    (clip : Batch) × IsClipTo points number frame clip × SpellsBatch Two out clip

-- Why a frame isn't clipped, given this number of bytes for the clip. A clip may be too long for a frame, since split points may
-- be longer than the keys of the batch.
abbrev pub ClipRefuses : List (List ℕ) → ℕ → List ℕ → ℕ → Refusal → Type 0
ClipRefuses points number frame capacity refused.Argument = length (shards points) ≤ number
ClipRefuses points number frame capacity (refused.Wire fault) =
    (number < length (shards points))
    × (IsNoFrame frame (refused.Wire fault)
    ⊎ ((fault ≡ wire.Long)
    × ((clip : Batch) × IsClipTo points number frame clip × (MAX_BODY_LENGTH < length (batch_body Two (batch_fields clip))))))
ClipRefuses points number frame capacity refused.Behind =
    (number < length (shards points)) × IsNoFrame frame refused.Behind
ClipRefuses points number frame capacity (refused.Buffer needed) =
    (number < length (shards points)) × (capacity < needed)
    × ((out : List ℕ) × IsClippedFrame points number frame out × (needed ≡ length out))
ClipRefuses points number frame capacity (refused.Stop stop) = ⊥
ClipRefuses points number frame capacity refused.Version = ⊥

-- the frames of the replies are at the front of the bytes, one by one, and these bytes follow them
abbrev pub AreRead : List ℕ → List ReplyValue → List ℕ → Type 0
AreRead bytes [] rest = bytes ≡ rest
AreRead bytes (reply ∷ replies) rest =
    (frame after : List ℕ) × (bytes ≡ frame ++ after) × SpellsReply frame reply × AreRead after replies rest

-- The bytes are the frames of the replies of all shards, in the order of the shards. Beside each are the indices of its read ranges
-- in the batch as it was sent.
pub record AreRepliesTo (points : List (List ℕ)) (b : Batch) (bytes : List ℕ) (each : List ShardReply) : Type 0 where
  pub replies : AreRead bytes (map (λ s. s.reply) each) []
  pub numbered : AllZip (λ shard s. AreNumbered shard b s.reads) (shards points) each

-- the reply is the combination of those of the bytes, to the batch of the frame
pub record IsCombinedReply (points : List (List ℕ)) (frame bytes : List ℕ) (r : ReplyValue) : Type 0 where
  pub batch : Batch
  pub each : List ShardReply
  pub asked : IsFrame frame batch
  pub replied : AreRepliesTo points batch bytes each
  pub combined : IsCombined batch each r

-- the last bytes are the frame of that combination
abbrev pub IsCombinedFrame : List (List ℕ) → List ℕ → List ℕ → List ℕ → Type 0
IsCombinedFrame points frame bytes out = (r : ReplyValue) × IsCombinedReply points frame bytes r × SpellsReply out r

-- Why the bytes don't begin with the frame of a shard's reply: by the first fault that reading meets. Memory may be refused instead.
abbrev pub FrontRefuses : ℕ → List ℕ → CombineRefusal → Type 0
FrontRefuses number bytes (Reply shard fault) = (shard ≡ number) × ((fault ≡ wire.Memory) ⊎ (reply_fault bytes ≡ Some fault))
FrontRefuses number bytes (Frame refusal) = ⊥
FrontRefuses number bytes Behind = ⊥
FrontRefuses number bytes (Misfit shard cause) = ⊥

-- Why the bytes aren't the frames of this number of replies: one is none, bytes follow the last, or an allocation failed.
abbrev pub RepliesRefuse : ℕ → List ℕ → CombineRefusal → Type 0
RepliesRefuse count bytes (Frame refusal) = refusal ≡ refused.Wire wire.Memory
RepliesRefuse count bytes (Reply shard fault) =
    (shard < count)
    × ((replies : List ReplyValue) × (rest : List ℕ) × (length replies ≡ shard) × AreRead bytes replies rest
    × FrontRefuses shard rest (Reply shard fault))
RepliesRefuse count bytes Behind =
    (replies : List ReplyValue) × (rest : List ℕ) × (length replies ≡ count) × AreRead bytes replies rest × (0 < length rest)
RepliesRefuse count bytes (Misfit shard cause) = ⊥

-- Why replies to a batch have no combination: one isn't a reply to it, or memory is refused.
abbrev pub EachRefuses : Batch → List ShardReply → CombineRefusal → Type 0
EachRefuses b each (Frame refusal) = refusal ≡ refused.Wire wire.Memory
EachRefuses b each (Misfit shard cause) = IsFirstMisfit b each shard cause
EachRefuses b each (Reply shard fault) = ⊥
EachRefuses b each Behind = ⊥

-- Why replies aren't combined, given this number of bytes for the frame: the frame of the batch is none, the replies are no
-- frames, one of them isn't a reply to the batch, or the buffer is too small. An allocation may fail instead.
abbrev pub CombineRefuses : List (List ℕ) → List ℕ → List ℕ → ℕ → CombineRefusal → Type 0
CombineRefuses points frame bytes capacity (Frame refusal) =
    IsNoFrame frame refusal
    ⊎ ((r : ReplyValue) × IsCombinedReply points frame bytes r × WriteRefuses (Some (answer.Reply r)) capacity refusal)
CombineRefuses points frame bytes capacity (Reply shard fault) =
    ((batch : Batch) × IsFrame frame batch) × RepliesRefuse (length (shards points)) bytes (Reply shard fault)
CombineRefuses points frame bytes capacity Behind =
    ((batch : Batch) × IsFrame frame batch) × RepliesRefuse (length (shards points)) bytes Behind
CombineRefuses points frame bytes capacity (Misfit shard cause) =
    (batch : Batch) × (each : List ShardReply) × IsFrame frame batch × AreRepliesTo points batch bytes each
    × IsFirstMisfit batch each shard cause

-- the numbers by which C sees these refusals
abbrev pub misfit_status : MisfitValue → ℤ
misfit_status misfit.Version = pos 311
misfit_status misfit.Count = pos 312
misfit_status misfit.Place = pos 313

abbrev pub combine_status : CombineRefusal → ℤ
combine_status (Frame refusal) = refusal_status refusal
combine_status (Reply shard fault) = wire_status fault
combine_status Behind = pos 204
combine_status (Misfit shard cause) = misfit_status cause

-- how many bytes a buffer that is too small needs
abbrev pub combine_needed : CombineRefusal → ℕ
combine_needed (Frame refusal) = bytes_needed refusal
combine_needed (Reply shard fault) = 0
combine_needed Behind = 0
combine_needed (Misfit shard cause) = 0

-- the shard whose reply is refused, or the number of shards
abbrev pub bad_shard : ℕ → CombineRefusal → ℕ
bad_shard count (Frame refusal) = count
bad_shard count (Reply shard fault) = shard
bad_shard count Behind = count
bad_shard count (Misfit shard cause) = shard
