-- What two proxies received that each sent one batch, beside the reference resolver. This project's own.
use Rattle.std.specs.Prelude.{◌≡◌, ◌⊎◌, ℕ, ℤ, Bool, true, List, [], ◌∷◌, length, None, Some, slice_get}
use Rattle.keyspace.specs.declared.answer.Answer.{Answer}
use Rattle.keyspace.specs.declared.batch.Batch.{Batch}
use Rattle.keyspace.specs.Processed.{Processed}
use Rattle.keyspace.specs.Chain.{IsChain}
use Rattle.keyspace.specs.Run.{Step, run, answers, part}
use Rattle.serial.specs.Serial.{IsSerializable}
use Rattle.serial.specs.Replies.{IsCommittedAt, ReportsCommitted}
use Rattle.resolver.specs.declared.client.Client.{Client}
use Rattle.proved_callers.specs.declared.served_proxies.Served.{Served}
use Rattle.resolver.specs.Core.{IsPrefix}
use Rattle.resolver.specs.Resolver.{ResolverState, IsResolving, AreClients, TakesOnlyFrom, FinishesLast}

-- a client that has sent these batches and taken these answers
pub record HasDone (batches : List Batch) (answers : List Answer) (c : Client) : Type 0 where
  pub sent : c.requests.sent ≡ batches
  pub taken : c.replies.taken ≡ answers

-- The resolver represents some log, and the clients are those of its lanes. Each has sent and taken the items at its number.
pub record AreServing (window : ℤ) (r : ResolverState) (clients : List Client) (sent : List (List Batch))
    (taken : List (List Answer)) : Type 0 where
  pub resolving : IsResolving r
  pub window_is : r.core.set.window ≡ window
  pub same_lanes : AreClients r.lanes clients
  pub sent_count : length sent ≡ length clients
  pub taken_count : length taken ≡ length clients
  pub each : (proxy : ℕ) (c : Client) (batches : List Batch) (answers : List Answer) → slice_get clients proxy ≡ Some c
      → slice_get sent proxy ≡ Some batches → slice_get taken proxy ≡ Some answers → HasDone batches answers c

-- Of one proxy that sent these batches and received these answers, by whether all is complete.
pub record ServedFor (window : ℤ) (log : List Step) (complete : Bool) (proxy : ℕ) (sent : List Batch)
    (received : List Answer) : Type 0 where
  -- the log holds its batches once, as sent; all of them where all is complete
  pub batches : IsPrefix (part log proxy) sent
  pub all_batches : complete ≡ true → part log proxy ≡ sent
  -- it has received, in order and once, the answers of the reference resolver; all of them where all is complete
  pub in_order : IsPrefix received (answers window log proxy)
  pub all_received : complete ≡ true → received ≡ answers window log proxy
  -- if all is complete, it has received one answer per batch
  pub each_answered : complete ≡ true → length received ≡ length sent
  -- a transaction that was reported to it as committed is committed; if the account is complete, each of its committed ones was reported
  pub reported :
      (version : ℤ) (j : ℕ) → ReportsCommitted received version j
      → IsCommittedAt (run window log).processed proxy version j
  pub all_reported :
      complete ≡ true → (version : ℤ) (j : ℕ) → IsCommittedAt (run window log).processed proxy version j
      → ReportsCommitted received version j

-- the batch of proxy 0 is the first, that of proxy 1 the second, and there is no third proxy
abbrev pub IsOneOf : Batch → Batch → Processed → Type 0
IsOneOf first second entry =
    ((entry.proxy ≡ 0) × (entry.batch ≡ first)) ⊎ ((entry.proxy ≡ 1) × (entry.batch ≡ second))

-- Of both, for one log. Proxy 0 sent the first batch, proxy 1 the second.
pub record AreServed (window : ℤ) (log : List Step) (first second : Batch) (served : Served) : Type 0 where
  -- The transactions reported to the proxies as committed can be run one at a time, in commit order, and each reads the
  -- same values as it did.
  pub serializable : IsSerializable (run window log).processed
  pub proxy_0 : ServedFor window log served.account.complete 0 (first ∷ []) served.first.items
  pub proxy_1 : ServedFor window log served.account.complete 1 (second ∷ []) served.second.items
  -- each processed batch is the one that its proxy has sent
  pub from_both :
      (index : ℕ) (entry : Processed) → slice_get (run window log).processed index ≡ Some entry
      → IsOneOf first second entry
  -- the log takes batches of these two alone
  pub proxies : TakesOnlyFrom 2 log
  -- what was processed follows the chain of versions, and each reply is that of a scan of all writes committed earlier
  pub chain : IsChain window (run window log).processed
  -- if the account is complete, the log finishes, no batch is left held, and no stop was met
  pub finish : served.account.complete ≡ true → FinishesLast log
  pub none_held : served.account.complete ≡ true → (run window log).held ≡ []
  pub no_stop : served.account.complete ≡ true → served.account.stop ≡ None
