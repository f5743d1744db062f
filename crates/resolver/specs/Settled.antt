-- What every client knows in the end: its batches and answers beside those of the reference resolver. This project's own.
use Rattle.std.specs.Prelude.{◌≡◌, ℕ, ◌≤◌, ℤ, negsuc, Bool, true, List, [], ◌∷◌, ◌++◌, length, None, Some, slice_get, IsSomeAnd, Contains}
use Rattle.keyspace.specs.declared.answer.Answer.{Answer}
use Rattle.keyspace.specs.declared.answer.Answer.TheVariants as answer
use Rattle.keyspace.specs.declared.reply.Reply.{Reply}
use Rattle.keyspace.specs.Processed.{Processed}
use Rattle.keyspace.specs.Chain.{IsChain}
use Rattle.keyspace.specs.Run.{Step, run, answers, part}
use Rattle.serial.specs.Serial.{IsSerializable}
use Rattle.serial.specs.Replies.{IsSent, IsReplyTo, IsCommittedAt, ReportsCommitted}
use Rattle.lane.specs.Lane.{HasEnded}
use Rattle.resolver.specs.declared.client.Client.{Client}
use Rattle.resolver.specs.declared.turn.Account.{Account}
use Rattle.resolver.specs.Core.{IsPrefix}
use Rattle.resolver.specs.Lanes.{Lanes, has_ended, sent_to}
use Rattle.resolver.specs.Resolver.{ResolverState, TakesOnlyFrom, FinishesLast}
use Rattle.resolver.specs.OpeningLog.{opening_log, log_from}

-- The log of a resolver that started at a version begins as if one batch of no proxy had written every key at that version.
-- Below, `opening` is that beginning, and `log` has the steps that the resolver took itself. The reference resolver runs
-- over both.

-- Which answers the client of a proxy has received. `sent` are those that were sent to it.
pub record ReceivesAnswers (window : ℤ) (opening log : List Step) (sent : List Answer) (account : Account) (proxy : ℕ)
    (client : Client) : Type 0 where
  -- it has received, in order and once, the answers of the reference resolver; all of them if the account is complete
  pub received : IsPrefix client.replies.taken (answers window (opening ++ log) proxy)
  pub all_received : account.complete ≡ true → client.replies.taken ≡ answers window (opening ++ log) proxy
  -- if the account is complete, it has received one answer per batch that it has sent
  pub each_answered : account.complete ≡ true → length client.replies.taken ≡ length client.requests.sent
  -- It has received the first answers that were sent to it, and all that were sent if its answers have ended.
  pub received_of_sent : IsPrefix client.replies.taken sent
  pub all_sent : HasEnded client.replies → client.replies.taken ≡ sent
  -- If its answers have ended, it has received all answers of the log without its last step. Without a stop, it has
  -- received all answers of the log.
  pub all_unless_stopped :
      HasEnded client.replies → account.stop ≡ None → client.replies.taken ≡ answers window (opening ++ log) proxy
  pub all_before_last :
      HasEnded client.replies → (before : List Step) (last : Step) → log ≡ before ++ last ∷ []
      → IsPrefix (answers window (opening ++ before) proxy) client.replies.taken

-- What these answers say of the batches and transactions that the client has sent.
pub record LearnsVerdicts (window : ℤ) (opening log : List Step) (account : Account) (proxy : ℕ) (client : Client)
    : Type 0 where
  -- each reply that it has received is that of one processed batch, which it has sent
  pub replies :
      (reply : Reply) → Contains client.replies.taken (answer.Reply reply)
      → IsReplyTo window (opening ++ log) proxy client.requests.sent reply
  -- if the account is complete, it has received the reply to each of its batches that was processed
  pub all_replies :
      account.complete ≡ true → (entry : Processed) → Contains (run window (opening ++ log)).processed entry
      → entry.proxy ≡ proxy → Contains client.replies.taken (answer.Reply entry.reply)
  -- if the account is complete, each of its committed transactions was reported to it as committed
  pub all_reported :
      account.complete ≡ true → (version : ℤ) (j : ℕ)
      → IsCommittedAt (run window (opening ++ log)).processed proxy version j
      → ReportsCommitted client.replies.taken version j

-- Of one proxy, given whether its request lane has ended, the answers that were sent to it, and the account.
pub record SettledFor (window : ℤ) (opening log : List Step) (ended : Bool) (sent : List Answer) (account : Account)
    (proxy : ℕ) (client : Client) : Type 0 where
  -- the log holds its batches once, as sent; all of them once its request lane has ended, and then nothing more can be sent
  pub batches : IsPrefix (part log proxy) client.requests.sent
  pub all_batches : ended ≡ true → part log proxy ≡ client.requests.sent
  pub nothing_after : ended ≡ true → client.requests.closed ≡ true
  pub all_ended : account.complete ≡ true → ended ≡ true
  pub receives : ReceivesAnswers window opening log sent account proxy client
  pub learns : LearnsVerdicts window opening log account proxy client

-- The headline, of a resolver that started at the version: one log for all proxies, beside the resolver's ends of their
-- lanes.
pub record SettledFrom (version window : ℤ) (log : List Step) (lanes : List Lanes) (clients : List Client) (account : Account)
    : Type 0 where
  -- The transactions reported to these clients as committed can be run one at a time, in commit order, and each reads
  -- the same values as it did.
  pub serializable : IsSerializable (run window (log_from version (length clients) log)).processed
  pub reported :
      (proxy : ℕ) (client : Client) → slice_get clients proxy ≡ Some client
      → (at : ℤ) (j : ℕ) → ReportsCommitted client.replies.taken at j
      → IsCommittedAt (run window (log_from version (length clients) log)).processed proxy at j
  pub each :
      (proxy : ℕ) (client : Client) → slice_get clients proxy ≡ Some client
      → SettledFor window (opening_log (length clients) version) log (has_ended lanes proxy) (sent_to lanes proxy) account
      proxy client
  -- the log takes batches of these clients alone
  pub proxies : TakesOnlyFrom (length clients) log
  -- each batch that was processed after the opening is one that its client has sent
  pub from_clients :
      (index : ℕ) (entry : Processed)
      → slice_get (run window (log_from version (length clients) log)).processed index ≡ Some entry
      → length (run window (opening_log (length clients) version)).processed ≤ index
      → IsSomeAnd (slice_get clients entry.proxy)
      (λ client. IsSent window (log_from version (length clients) log) client.requests.sent index entry)
  -- what was processed follows the chain of versions, and each reply is that of a scan of all writes committed earlier
  pub chain : IsChain window (run window (log_from version (length clients) log)).processed
  -- if the account is complete, the log finishes, no batch is left held, and no stop was met
  pub finish : account.complete ≡ true → FinishesLast log
  pub none_held : account.complete ≡ true → (run window (log_from version (length clients) log)).held ≡ []
  pub no_stop : account.complete ≡ true → account.stop ≡ None

-- The headline of a resolver that started at -1, where the log is that of its steps.
abbrev pub Settled : ℤ → List Step → List Lanes → List Client → Account → Type 0
Settled window log lanes clients account = SettledFrom (negsuc 0) window log lanes clients account

-- No stop was met, the reply lanes are closed, and each client has taken every answer sent to it.
pub record IsComplete (r : ResolverState) (clients : List Client) : Type 0 where
  pub no_stop : r.core.stop ≡ None
  pub closed : (proxy : ℕ) (l : Lanes) → slice_get r.lanes proxy ≡ Some l → l.replies.closed ≡ true
  pub taken : (proxy : ℕ) (c : Client) → slice_get clients proxy ≡ Some c → c.replies.taken ≡ sent_to r.lanes proxy
