-- The answers of all shards to a batch as one. That a transaction commits if all resolvers admit it is FoundationDB's. What becomes of
-- a batch that some shard doesn't reply to is this project's own.
use Rattle.std.specs.Prelude.{◌≡◌, ℕ, ℤ, List, [], ◌∷◌, length, map, Option, Some, option_map, unwrap_or, slice_get, ⊤}
use Rattle.std.specs.List.{All, Any}
use Rattle.keyspace.specs.declared.answer.Answer.{Answer}
use Rattle.keyspace.specs.declared.answer.Answer.TheVariants as answer
use Rattle.keyspace.specs.declared.reply.Entry.{Entry}
use Rattle.keyspace.specs.declared.reply.Reply.{Reply}
use Rattle.shards.specs.declared.shard_reply.ShardReply.{ShardReply}
use Rattle.shards.specs.Combined.{HasPlaces, IsCombinedEntry}
use Rattle.replay_shards.specs.declared.noted_reply.NotedReply.{NotedReply}

-- per transaction of a reply, the original indices of the read ranges that the shard got: those in the note, or none
abbrev pub indices_for : List Entry → List (List ℕ) → List (List ℕ)
indices_for [] reads = []
indices_for (e ∷ entries) [] = [] ∷ indices_for entries []
indices_for (e ∷ entries) (own ∷ reads) = own ∷ indices_for entries reads

-- A shard's reply beside the note of the batch, as `shards` combines it. Without a note the shard can report no read range.
abbrev pub reply_with_note : Reply → Option (List (List ℕ)) → ShardReply
reply_with_note reply note = record { reply = reply; reads = indices_for reply.entries (unwrap_or note []) }

abbrev pub noted_in : NotedReply → ShardReply
noted_in own = reply_with_note own.reply.now (option_map (λ reads. reads.now) own.reads)

abbrev pub noted_each : List NotedReply → List ShardReply
noted_each each = map noted_in each

-- this can be the reply to a batch with that many transactions
pub record FitsIn (count : ℕ) (s : ShardReply) : Type 0 where
  pub entries : length s.reply.entries ≡ count
  pub reads : length s.reads ≡ count
  pub places : HasPlaces s

-- these can be the replies of all shards to one batch
abbrev pub AreOfOneBatch : List ShardReply → Type 0
AreOfOneBatch each = (count : ℕ) × All (FitsIn count) each

-- the reply of all shards to the batch of this version: `IsCombined` of `shards`, without the batch
pub record IsReplyTogether (at : ℤ) (each : List ShardReply) (reply : Reply) : Type 0 where
  pub version : reply.version ≡ at
  pub count : All (λ s. length s.reply.entries ≡ length reply.entries) each
  pub entries : (j : ℕ) (e : Entry) → slice_get reply.entries j ≡ Some e → IsCombinedEntry each j e

abbrev pub IsNever : Answer → Type 0
IsNever (answer.Reply reply) = ⊥
IsNever (answer.Never version) = ⊤
IsNever (answer.Held version) = ⊥

abbrev pub IsHeld : Answer → Type 0
IsHeld (answer.Reply reply) = ⊥
IsHeld (answer.Never version) = ⊥
IsHeld (answer.Held version) = ⊤

-- every shard has replied, and these are the replies, each beside the shard's note of the batch
abbrev pub HaveReplied : List Answer → List (Option (List (List ℕ))) → List ShardReply → Type 0
HaveReplied [] [] [] = ⊤
HaveReplied (answer.Reply reply ∷ answers) (note ∷ notes) (s ∷ each) = (s ≡ reply_with_note reply note) × HaveReplied answers notes each
HaveReplied _ _ _ = ⊥

-- The answer of all shards to the batch of this version: `Never` if a shard says so, otherwise `Held` if one says so, otherwise the
-- combined reply. If they have replied to different batches of this version, the answer is `Never` too.
pub record IsAnswerTogether (version : ℤ) (answers : List Answer) (notes : List (Option (List (List ℕ)))) (together : Answer)
    : Type 0 where
  pub never : Any IsNever answers → together ≡ answer.Never version
  pub held : ¬ (Any IsNever answers) → Any IsHeld answers → together ≡ answer.Held version
  pub reply :
      (each : List ShardReply) → HaveReplied answers notes each → AreOfOneBatch each
      → (reply : Reply) × (together ≡ answer.Reply reply) × IsReplyTogether version each reply
  pub misfit : (each : List ShardReply) → HaveReplied answers notes each → ¬ AreOfOneBatch each → together ≡ answer.Never version
