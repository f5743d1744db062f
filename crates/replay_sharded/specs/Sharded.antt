-- What several resolvers answer, beside the bytes of the files. That each resolver gets the ranges of its keys, and that a transaction
-- commits if all of them commit it, is FoundationDB's (paper, SIGMOD 2021). That no resolver waits for another is this project's own.
use Rattle.std.specs.Prelude.{◌≡◌, ℕ, ◌<◌, ℤ, ◌<ℤ◌, List, [], get_or, length, map, Option, Some, slice_get, IsSomeAnd, Contains}
use Rattle.std.specs.List.{All, AllZip}
use Rattle.keyspace.specs.declared.batch.Batch.{Batch}
use Rattle.keyspace.specs.declared.answer.Answer.{Answer}
use Rattle.keyspace.specs.Processed.{Processed}
use Rattle.keyspace.specs.Chain.{IsChain}
use Rattle.keyspace.specs.Run.{Step, run, answers, part}
use Rattle.serial.specs.Serial.{IsSerializable}
use Rattle.serial.specs.Replies.{IsCommittedAt, ReportsCommitted}
use Rattle.serial.specs.Shards.{IsRising, Shard, shards}
use Rattle.shards.specs.Clips.{IsBatchClip}
use Rattle.resolver.specs.Resolver.{TakesOnlyFrom, FinishesLast}
use Rattle.replay_output.specs.declared.options.Options.{Options}
use Rattle.replay_shards.specs.declared.note.Note.{Note}
use Rattle.replay_shards.specs.Merging.{AreMerged}
use Rattle.replay_shards.specs.Notes.{notes_of}
use Rattle.replay_sharded.specs.declared.combined.Combined.{Combined}
use Rattle.replay_sharded.specs.declared.shard_run.ShardRun.{ShardRun}
use Rattle.replay_sharded.specs.Combined.{AreCombined, HasProxies}
use Rattle.replay_sharded.specs.Files.{IsFileOf, IsKnown}
use Rattle.replay_sharded.specs.Runs.{AreRunsOfShards}

-- No proxy sends two different batches of one version. `sent` has the batches of each proxy, as they were sent. A repeat is the same batch.
abbrev pub RepeatsAreEqual : List (List Batch) → Type 0
RepeatsAreEqual sent =
    (proxy : ℕ) (own : List Batch) (one other : Batch) → slice_get sent proxy ≡ Some own → Contains own one → Contains own other
    → one.version ≡ other.version → one ≡ other

-- the log of a shard takes the clips of each proxy's batches, once, in order, and no others
pub record IsLogOfShard (window : ℤ) (sent : List (List Batch)) (shard : Shard) (log : List Step) : Type 0 where
  pub proxies : TakesOnlyFrom (length sent) log
  pub clips :
      (proxy : ℕ) (own : List Batch) → slice_get sent proxy ≡ Some own → AllZip (IsBatchClip shard) own (part log proxy)
  -- what the shard processed follows the chain of versions
  pub chain : IsChain window (run window log).processed
  -- no clip is left unanswered
  pub finish : FinishesLast log

-- what a shard has of its run: its log of the reference resolver, and the notes beside its answers to each proxy
pub record ShardLog : Type 0 where
  pub log : List Step
  pub notes : List (List Note)

-- the shard has read these batches of each file: its log takes their clips, and its notes are theirs
pub record HasRead (window : ℤ) (sent : List (List Batch)) (shard : Shard) (own : ShardLog) : Type 0 where
  pub takes : IsLogOfShard window sent shard own.log
  pub notes :
      (proxy : ℕ) (batches : List Batch) → slice_get sent proxy ≡ Some batches
      → slice_get own.notes proxy ≡ Some (notes_of shard batches)

-- it has read some batches, and each file is of them
abbrev pub HasReadFiles : ℤ → List (Option (List ℕ)) → Shard → ShardLog → Type 0
HasReadFiles window files shard own = (read : List (List Batch)) × AllZip IsFileOf files read × HasRead window read shard own

-- All shards have read the same batches of each file: these, each once, in order, and nothing else. It is so if nobody changes the files while
-- they are read.
pub record HaveAllRead (window : ℤ) (points : List (List ℕ)) (files : List (Option (List ℕ))) (logs : List ShardLog)
    (sent : List (List Batch)) : Type 0 where
  pub each_file : AllZip IsFileOf files sent
  pub each_shard : AllZip (HasRead window sent) (shards points) logs

-- what the reference resolver of each shard answers to the proxy, and the notes beside it
abbrev pub log_of : ShardLog → List Step
log_of own = own.log

abbrev pub answers_by_shard : ℤ → List (List Step) → ℕ → List (List Answer)
answers_by_shard window logs proxy = map (λ log. answers window log proxy) logs

abbrev pub notes_kept : ℕ → ShardLog → List Note
notes_kept proxy own = get_or own.notes proxy []

-- The transactions that these answers report as committed are those of a list of batches that were sent. They can be run one at a time, in
-- commit order, and each reads the same values as it did. `together` has the answers to each proxy, at its number.
pub record CommitsSerializably (sent : List (List Batch)) (together : List (List Answer)) : Type 0 where
  pub processed : List Processed
  -- each of these batches is one that its proxy has sent
  pub were_sent : All (λ entry. IsSomeAnd (slice_get sent entry.proxy) (λ own. Contains own entry.batch)) processed
  -- in the order of their versions, and none twice
  pub rises :
      (i k : ℕ) (p q : Processed) → slice_get processed i ≡ Some p → slice_get processed k ≡ Some q → i < k
      → p.batch.version <ℤ q.batch.version
  -- each of these batches is of one of these proxies
  pub proxies : All (λ entry. entry.proxy < length together) processed
  pub serializable : IsSerializable processed
  pub reported :
      (proxy : ℕ) (own : List Answer) (version : ℤ) (j : ℕ) → slice_get together proxy ≡ Some own → ReportsCommitted own version j
      → IsCommittedAt processed proxy version j
  pub all_reported :
      (proxy : ℕ) (own : List Answer) (version : ℤ) (j : ℕ) → slice_get together proxy ≡ Some own
      → IsCommittedAt processed proxy version j → ReportsCommitted own version j

-- All files were read and resolved by a resolver per shard, and these are the combined answers to each proxy.
pub record IsResolvedByShards (points : List (List ℕ)) (window : ℤ) (files : List (Option (List ℕ))) (together : List (List Answer))
    : Type 0 where
  pub rising : IsRising [] points
  -- for each shard, one log of the reference resolver, of the batches that the shard has read of each file
  pub logs : List ShardLog
  pub each_shard : AllZip (HasReadFiles window files) (shards points) logs
  -- the answers are those of all shards together: matched by version, in whatever order each shard has answered
  pub count : length together ≡ length files
  pub each_proxy :
      (proxy : ℕ) (answers : List Answer) → slice_get together proxy ≡ Some answers
      → AreMerged (answers_by_shard window (map log_of logs) proxy) (map (notes_kept proxy) logs) answers
  -- if the bytes of all files are known, all shards have read the same batches
  pub known : All IsKnown files → (sent : List (List Batch)) × HaveAllRead window points files logs sent
  -- If all shards have read the same batches of each file, every batch has its answer, as often as it was sent. If, besides, no proxy sends
  -- two different batches of one version, the committed transactions are serializable.
  pub all_answered :
      (sent : List (List Batch)) → HaveAllRead window points files logs sent → (proxy : ℕ) (own : List Batch) (answers : List Answer)
      → slice_get sent proxy ≡ Some own → slice_get together proxy ≡ Some answers → length answers ≡ length own
  pub serializable :
      (sent : List (List Batch)) → HaveAllRead window points files logs sent → RepeatsAreEqual sent → CommitsSerializably sent together

-- the runs of all shards over files with these bytes, and what they are together
pub record AreRunsTogether (points : List (List ℕ)) (options : Options) (files : List (Option (List ℕ))) (combined : Combined) : Type 0
  where
    pub runs : List ShardRun
    pub each : AreRunsOfShards options points files runs
    pub proxies : All (HasProxies (length files)) runs
    pub together : AreCombined options.style runs combined
