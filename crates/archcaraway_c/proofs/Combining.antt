-- Why frames aren't combined, by which of its steps refuses, and replies with their indices.
use Rattle.std.proofs.Common.{◌≡◌, ℕ, ◌<◌, List, [], ◌∷◌, length, map, refl, sym, ◌∙◌, subst, inl}
use Rattle.std.specs.List.{AllZip}
use Rattle.keyspace.specs.declared.batch.Batch.{Batch}
use Rattle.keyspace.specs.declared.reply.Reply.{Reply as ReplyValue}
use Rattle.serial.specs.Shards.{Shard, shards}
use Rattle.shards.specs.declared.shard_reply.ShardReply.{ShardReply}
use Rattle.shards.specs.Numbered.{AreNumbered}
use Rattle.wire.specs.declared.error.WireError.TheVariants as wire
use Rattle.archcaraway_c.specs.declared.refusal.Refusal.{Refusal}
use Rattle.archcaraway_c.specs.declared.refusal.Refusal.TheVariants as refused
use Rattle.archcaraway_c.specs.declared.combine_refusal.CombineRefusal.{CombineRefusal}
use Rattle.archcaraway_c.specs.declared.combine_refusal.CombineRefusal.TheVariants.{Frame, Reply, Behind, Misfit}
use Rattle.archcaraway_c.specs.BatchFrame.{IsFrame, IsNoFrame}
use Rattle.archcaraway_c.specs.ShardFrames.{AreRead, AreRepliesTo, FrontRefuses, RepliesRefuse, EachRefuses, CombineRefuses}

-- what holds of the images of a list
zip_map : {X Y Z : Type 0} (R : X → Z → Type 0) (f : Y → Z) (xs : List X) (ys : List Y) → AllZip R xs (map f ys)
    → AllZip (λ x y. R x (f y)) xs ys
zip_map R f [] [] zipped = tt
zip_map R f [] (y ∷ ys) zipped = absurd zipped
zip_map R f (x ∷ xs) [] zipped = absurd zipped
zip_map R f (x ∷ xs) (y ∷ ys) zipped = (zipped.0, zip_map R f xs ys zipped.1)

-- the replies that were read, with the indices that were found before
pub replied : (points : List (List ℕ)) (batch : Batch) (bytes : List ℕ) (all : List (List (List ℕ))) (each : List ShardReply)
    → AllZip (λ shard reads. AreNumbered shard batch reads) (shards points) all → map (λ s. s.reads) each ≡ all
    → AreRead bytes (map (λ s. s.reply) each) [] → AreRepliesTo points batch bytes each
replied points batch bytes all each numbered same read =
    let R = λ (shard : Shard) (reads : List (List ℕ)). AreNumbered shard batch reads in
    record {
      replies = read;
      numbered = zip_map R (λ (s : ShardReply). s.reads) (shards points) each
          (subst (λ (found : List (List (List ℕ))). AllZip R (shards points) found) (sym same) numbered);
    }

-- a reply that isn't read is the next one
pub front_refused : (count : ℕ) (bytes rest : List ℕ) (replies : List ReplyValue) (shard : ℕ) (refusal : CombineRefusal)
    → length replies ≡ shard → shard < count → AreRead bytes replies rest → FrontRefuses shard rest refusal
    → RepliesRefuse count bytes refusal
front_refused count bytes rest replies shard (Frame r) long inside read refuses = absurd refuses
front_refused count bytes rest replies shard (Reply number fault) long inside read refuses = (
  subst (λ n. n < count) (sym refuses.0) inside,
  (replies, rest, long ∙ sym refuses.0, read, (refl, refuses.1)),
)
front_refused count bytes rest replies shard Behind long inside read refuses = absurd refuses
front_refused count bytes rest replies shard (Misfit number cause) long inside read refuses = absurd refuses

module _ (points : List (List ℕ)) (frame bytes : List ℕ) (capacity : ℕ) where
  memory_refused : (r : Refusal) → r ≡ refused.Wire wire.Memory → CombineRefuses points frame bytes capacity (Frame r)
  memory_refused r is = inl (subst (IsNoFrame frame) (sym is) (inl refl))

  pub replies_refused : (batch : Batch) (count : ℕ) (refusal : CombineRefusal) → IsFrame frame batch → count ≡ length (shards points)
      → RepliesRefuse count bytes refusal → CombineRefuses points frame bytes capacity refusal
  replies_refused batch count (Frame r) asked is refuses = memory_refused r refuses
  replies_refused batch count (Reply shard fault) asked is refuses = (
    (batch, asked),
    subst (λ n. RepliesRefuse n bytes (Reply shard fault)) is refuses,
  )
  replies_refused batch count Behind asked is refuses = ((batch, asked), subst (λ n. RepliesRefuse n bytes Behind) is refuses)
  replies_refused batch count (Misfit shard cause) asked is refuses = absurd refuses

  pub each_refused : (batch : Batch) (each : List ShardReply) (refusal : CombineRefusal) → IsFrame frame batch
      → AreRepliesTo points batch bytes each → EachRefuses batch each refusal → CombineRefuses points frame bytes capacity refusal
  each_refused batch each (Frame r) asked to refuses = memory_refused r refuses
  each_refused batch each (Reply shard fault) asked to refuses = absurd refuses
  each_refused batch each Behind asked to refuses = absurd refuses
  each_refused batch each (Misfit shard cause) asked to refuses = (batch, each, asked, to, refuses)
