-- What the answers that a proxy has received say of its batches and their transactions, beside a log of the reference resolver. This
-- project's own.
use Rattle.std.specs.Prelude.{◌≡◌, ℕ, ◌≤◌, ℤ, List, ◌∷◌, ◌++◌, length, Some, slice_get, IsSomeAnd, Contains}
use Rattle.keyspace.specs.declared.txn.Txn.{Txn}
use Rattle.keyspace.specs.declared.batch.Batch.{Batch}
use Rattle.keyspace.specs.declared.reply.Verdict.TheVariants.{Committed}
use Rattle.keyspace.specs.declared.reply.Reply.{Reply}
use Rattle.keyspace.specs.declared.answer.Answer.{Answer}
use Rattle.keyspace.specs.declared.answer.Answer.TheVariants as answer
use Rattle.keyspace.specs.Processed.{Processed}
use Rattle.keyspace.specs.Run.{Step, Take, run, answers, part}
use Rattle.serial.specs.Commits.{IsCommitted}

-- Batches.

-- The batch of this entry of the processed list is one that its proxy has sent. After the steps before, the log takes it as the next
-- one in the order of sending, and it is not processed earlier.
pub record IsSent (window : ℤ) (log : List Step) (sent : List Batch) (index : ℕ) (entry : Processed) : Type 0 where
  pub before : List Step
  pub after : List Step
  pub taken : log ≡ before ++ Take entry.proxy entry.batch ∷ after
  pub next : slice_get sent (length (part before entry.proxy)) ≡ Some entry.batch
  pub not_earlier : length (run window before).processed ≤ index

-- A proxy's batches of one version have the same transactions. Their previous versions, and the versions last received, may differ.
abbrev pub SendsOnce : List Batch → Type 0
SendsOnce sent =
    (one other : Batch) → Contains sent one → Contains sent other → one.version ≡ other.version
    → one.txns ≡ other.txns

-- The reply is that of one entry of the processed list, whose batch the proxy has sent.
pub record IsReplyTo (window : ℤ) (log : List Step) (proxy : ℕ) (sent : List Batch) (reply : Reply) : Type 0 where
  pub index : ℕ
  pub entry : Processed
  pub there : slice_get (run window log).processed index ≡ Some entry
  pub of_proxy : entry.proxy ≡ proxy
  pub at_version : entry.batch.version ≡ reply.version
  pub same : entry.reply ≡ reply
  -- no other batch of this version was processed, of whichever proxy
  pub alone :
      (other : ℕ) (e : Processed) → slice_get (run window log).processed other ≡ Some e → e.batch.version ≡ reply.version
      → other ≡ index
  pub was_sent : IsSent window log sent index entry
  -- A repeat is known by its version alone. So the reply is about every batch of this version that the proxy has sent, if these have
  -- the same transactions.
  pub about_each :
      SendsOnce sent → (batch : Batch) → Contains sent batch → batch.version ≡ reply.version
      → batch.txns ≡ entry.batch.txns

-- Transactions, by their proxy, the version of their batch and their index in it.

-- it is a committed transaction of the list
pub record IsCommittedAt (ps : List Processed) (proxy : ℕ) (version : ℤ) (j : ℕ) : Type 0 where
  pub index : ℕ
  pub entry : Processed
  pub txn : Txn
  pub committed : IsCommitted ps index j entry txn
  pub of_proxy : entry.proxy ≡ proxy
  pub at_version : entry.batch.version ≡ version

-- one of the answers that its proxy has received reports it as committed
pub record ReportsCommitted (received : List Answer) (version : ℤ) (j : ℕ) : Type 0 where
  pub reply : Reply
  pub is_received : Contains received (answer.Reply reply)
  pub at_version : reply.version ≡ version
  pub verdict : IsSomeAnd (slice_get reply.entries j) (λ e. e.verdict ≡ Committed)

-- What holds of every log of the reference resolver, and of the batches that a proxy has sent: those that the log takes from it, and
-- perhaps later ones.
pub record AnswersReportVerdicts : Type 0 where
  -- each reply is that of one processed batch, which the proxy has sent
  pub replies :
      (window : ℤ) (log : List Step) (proxy : ℕ) (sent later : List Batch) → sent ≡ part log proxy ++ later
      → (reply : Reply) → Contains (answers window log proxy) (answer.Reply reply) → IsReplyTo window log proxy sent reply
  -- each processed batch was sent, and its proxy is answered with its reply
  pub sent :
      (window : ℤ) (log : List Step) (index : ℕ) (entry : Processed) → slice_get (run window log).processed index ≡ Some entry
      → (sent later : List Batch) → sent ≡ part log entry.proxy ++ later → IsSent window log sent index entry
  pub answered :
      (window : ℤ) (log : List Step) (entry : Processed) → Contains (run window log).processed entry
      → Contains (answers window log entry.proxy) (answer.Reply entry.reply)
  -- the transactions that are reported as committed are the committed ones
  pub reported :
      (window : ℤ) (log : List Step) (proxy : ℕ) (version : ℤ) (j : ℕ) → ReportsCommitted (answers window log proxy) version j
      → IsCommittedAt (run window log).processed proxy version j
  pub all_reported :
      (window : ℤ) (log : List Step) (proxy : ℕ) (version : ℤ) (j : ℕ) → IsCommittedAt (run window log).processed proxy version j
      → ReportsCommitted (answers window log proxy) version j
