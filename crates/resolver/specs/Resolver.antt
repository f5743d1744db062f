-- What a resolver over lanes promises: it represents a log of the reference resolver. This project's own.
use Rattle.std.specs.Prelude.{◌≡◌, ℕ, ℤ, negsuc, ◌<◌, ◌⊎◌, Bool, true, false, List, [], ◌∷◌, ◌++◌, length, Option, Some, None, IsSome, slice_get}
use Rattle.keyspace.specs.declared.batch.Batch.{Batch}
use Rattle.keyspace.specs.Run.{Step, Take, Finish, part}
use Rattle.lane.specs.Lane.{SameLane, PortContinues, IntakeContinues, new_port, new_intake}
use Rattle.resolver.specs.declared.client.Client.{Client}
use Rattle.resolver.specs.declared.turn.Turn.{Turn}
use Rattle.resolver.specs.declared.turn.Turn.TheVariants as turn
use Rattle.resolver.specs.Owed.{owed_count}
use Rattle.resolver.specs.Core.{CoreState}
use Rattle.resolver.specs.Stands.{Stands}
use Rattle.resolver.specs.OpeningLog.{log_from}
use Rattle.resolver.specs.Lanes.{Lanes, taken_from, sent_to, all_ended, TakesOne, TakesNone}

-- a resolver over lanes
pub record ResolverState : Type 0 where
  -- what it has processed, holds, keeps and owes
  pub core : CoreState
  -- its ends of the lanes, by the number of the proxy
  pub lanes : List Lanes
  -- the next turn looks at the lanes from this one on, and then at those before it
  pub next : ℕ

-- each step takes a batch
abbrev pub HasNoFinish : List Step → Type 0
HasNoFinish [] = Unit {0}
HasNoFinish (Take proxy batch ∷ log) = HasNoFinish log
HasNoFinish (Finish ∷ log) = ⊥

-- the last step finishes, and no other
abbrev pub FinishesLast : List Step → Type 0
FinishesLast log = (before : List Step) × (log ≡ before ++ Finish ∷ []) × HasNoFinish before

-- by whether all request lanes have ended
abbrev pub FinishesBy : Bool → List Step → Type 0
FinishesBy true log = FinishesLast log
FinishesBy false log = HasNoFinish log

-- each batch is taken from one of n proxies
abbrev pub TakesOnlyFrom : ℕ → List Step → Type 0
TakesOnlyFrom proxies [] = Unit {0}
TakesOnlyFrom proxies (Take proxy batch ∷ log) = (proxy < proxies) × TakesOnlyFrom proxies log
TakesOnlyFrom proxies (Finish ∷ log) = TakesOnlyFrom proxies log

-- The resolver, which started at the version, represents the log of its steps.
pub record StandsOverFrom (version : ℤ) (r : ResolverState) (log : List Step) : Type 0 where
  -- its core represents the log from that version on, if each proxy was given the answers sent to it
  pub core : Stands r.core (log_from version (length r.lanes) log) (sent_to r.lanes)
  -- the log takes from each proxy the batches taken from its request lane, and none from a proxy without a lane
  pub parts : (proxy : ℕ) → part log proxy ≡ taken_from r.lanes proxy
  -- without a stop, the log finishes exactly if all request lanes have ended, and then in its last step alone
  pub finish : r.core.stop ≡ None → FinishesBy (all_ended r.lanes) log
  -- without a stop, reply lanes are closed only once all request lanes have ended
  pub closed :
      r.core.stop ≡ None → (proxy : ℕ) (l : Lanes) → slice_get r.lanes proxy ≡ Some l → l.replies.closed ≡ true →
      all_ended r.lanes ≡ true

-- The same of a resolver that started at -1: its core represents the log of its steps.
abbrev pub StandsOver : ResolverState → List Step → Type 0
StandsOver r log = StandsOverFrom (negsuc 0) r log

-- there is a log that the resolver, which started at the version, represents
pub record IsResolvingFrom (version : ℤ) (r : ResolverState) : Type 0 where
  pub log : List Step
  pub stands : StandsOverFrom version r log

abbrev pub IsResolving : ResolverState → Type 0
IsResolving r = IsResolvingFrom (negsuc 0) r

-- If the old resolver represents a log, from any version on, the new one represents it with these steps added.
abbrev pub Adds : List Step → ResolverState → ResolverState → Type 0
Adds steps old new =
    (version : ℤ) (log : List Step) → StandsOverFrom version old log → StandsOverFrom version new (log ++ steps)

-- the next batch of the proxy was taken
pub record TakesFrom (proxy : ℕ) (old new : ResolverState) : Type 0 where
  pub known : proxy < length old.lanes
  pub batch : Batch
  pub taken : TakesOne proxy batch old.lanes new.lanes
  pub adds : Adds (Take proxy batch ∷ []) old new

-- the last request lane has ended
pub record Finishes (old new : ResolverState) : Type 0 where
  pub before : all_ended old.lanes ≡ false
  pub after : all_ended new.lanes ≡ true
  pub taken : TakesNone old.lanes new.lanes
  pub adds : Adds (Finish ∷ []) old new

-- no step was taken
pub record TakesNoStep (old new : ResolverState) : Type 0 where
  pub ended : all_ended new.lanes ≡ all_ended old.lanes
  pub taken : TakesNone old.lanes new.lanes
  pub adds : (version : ℤ) (log : List Step) → StandsOverFrom version old log → StandsOverFrom version new log

-- by the proxy of the batch that was taken, if one was
abbrev pub StepsFor : Option ℕ → ResolverState → ResolverState → Type 0
StepsFor (Some proxy) old new = TakesFrom proxy old new
StepsFor None old new = Finishes old new ⊎ TakesNoStep old new

-- the proxy whose batch a turn took, if it took one
abbrev pub taken_by : Turn → Option ℕ
taken_by (turn.Took proxy) = Some proxy
taken_by turn.Idle = None
taken_by turn.Done = None

-- Nothing is owed, and no answer is still to come: all request lanes have ended or a stop was met.
pub record IsThrough (r : ResolverState) : Type 0 where
  pub nothing_owed : owed_count r.core.owed ≡ 0
  pub no_more : (all_ended r.lanes ≡ true) ⊎ IsSome r.core.stop

-- the clients are those of these lanes, each at its number
pub record AreClients (lanes : List Lanes) (clients : List Client) : Type 0 where
  pub count : length clients ≡ length lanes
  pub requests :
      (proxy : ℕ) (l : Lanes) (c : Client) → slice_get lanes proxy ≡ Some l → slice_get clients proxy ≡ Some c →
      SameLane c.requests l.requests
  pub replies :
      (proxy : ℕ) (l : Lanes) (c : Client) → slice_get lanes proxy ≡ Some l → slice_get clients proxy ≡ Some c →
      SameLane l.replies c.replies

-- answers were delivered, and nothing else was done
pub record SameExcept (old new : ResolverState) : Type 0 where
  pub stop : new.core.stop ≡ old.core.stop
  pub core : new.core ≡ record old.core { owed = new.core.owed }
  pub proxies : length new.core.owed ≡ length old.core.owed
  pub next : new.next ≡ old.next

-- the client later: its lanes have the same lists, and its ends of them have only looked
pub record SameClient (old new : Client) : Type 0 where
  pub sent : new.requests.sent ≡ old.requests.sent
  pub closed : new.requests.closed ≡ old.requests.closed
  pub taken : new.replies.taken ≡ old.replies.taken
  pub requests : PortContinues old.requests new.requests
  pub replies : IntakeContinues old.replies new.replies

pub record SameClients (old new : List Client) : Type 0 where
  pub count : length new ≡ length old
  pub each : (proxy : ℕ) (c d : Client) → slice_get old proxy ≡ Some c → slice_get new proxy ≡ Some d → SameClient c d

-- no batch was sent and no answer taken
pub record IsNewClient (capacity : ℕ) (c : Client) : Type 0 where
  pub requests : c.requests ≡ new_port c.requests.lane capacity
  pub replies : c.replies ≡ new_intake c.replies.lane capacity
