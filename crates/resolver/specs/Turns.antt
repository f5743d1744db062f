-- What a turn of a resolver does, by what it answers. This project's own.
use Rattle.std.specs.Prelude.{◌≡◌, ◌≢◌, ℕ, ℤ, ◌+◌, ◌<◌, ◌<ℤ◌, ◌⊎◌, ◌↔◌, true, List, [], length, Option, Some, None}
use Rattle.std.specs.Prelude.{Result, Ok, Err, IsOk, IfOk, IfErr, OnOk, IfSome, IfNone, IsSome, slice_get}
use Rattle.keyspace.specs.Run.{Step, run}
use Rattle.chain.specs.declared.gate.TheConstants.{MAX_HELD}
use Rattle.limits.specs.declared.stop.Stop.{Stop}
use Rattle.limits.specs.declared.stop.Stop.TheVariants.{GateFull, ArenaFull}
use Rattle.resolver.specs.declared.turn.Turn.{Turn}
use Rattle.resolver.specs.declared.turn.Turn.TheVariants as turn
use Rattle.resolver.specs.Owed.{owed_to, owed_count}
use Rattle.resolver.specs.Core.{Continues, StopsAtLimit}
use Rattle.resolver.specs.OpeningLog.{log_from}
use Rattle.resolver.specs.Lanes.{Lanes, all_ended, Each, LanesContinue, IsLookedThrough, ComesBefore, IsFull, sent_to}
use Rattle.resolver.specs.Resolver.{ResolverState, StandsOverFrom, IsResolvingFrom, TakesFrom, Finishes, TakesNoStep, StepsFor, taken_by, IsThrough}
use Rattle.resolver.specs.Share.{share_of, HasMoreUnanswered}

-- The step of a turn: it takes a batch, or finishes, or does neither. `taken` is the proxy of the batch, by the answer.
pub record TurnSteps {T : Type 0} (taken : T → Option ℕ) (result : Result T Stop) (old new : ResolverState)
    : Type 0 where
  -- the log that the resolver represents afterwards, from whichever version it started
  pub log : IfOk result (λ did. StepsFor (taken did) old new)
  pub stop_met :
      IfErr result (λ _. old.core.stop ≡ None → ((proxy : ℕ) × TakesFrom proxy old new) ⊎ Finishes old new)
  pub stop : IfErr result (λ met. new.core.stop ≡ Some met)
  pub stop_stays : IfSome old.core.stop (λ met. result ≡ Err met)
  pub no_stop : OnOk result (new.core.stop ≡ None)
  -- what it has looked through
  pub looked_through : IfOk result (λ did. IfNone (taken did) (Each (λ _ l m. IsLookedThrough l m) old.lanes new.lanes))
  pub passed :
      IfOk result (λ did. IfSome (taken did) (λ proxy.
      Each (λ passed l m. ComesBefore old.next passed proxy → IsLookedThrough l m) old.lanes new.lanes))
  pub next : IfOk result (λ did. IfSome (taken did) (λ proxy. new.next ≡ proxy + 1))
  pub next_stays : IfOk result (λ did. IfNone (taken did) (new.next ≡ old.next))
  -- when each stop comes
  pub gate_full :
      old.core.stop ≡ None → result ≡ Err GateFull
      → (proxy : ℕ) × (took : TakesFrom proxy old new) × (old.core.version <ℤ took.batch.previous)
      × (length old.core.held ≡ MAX_HELD)
  pub arena_full :
      old.core.stop ≡ None → result ≡ Err ArenaFull → (version : ℤ) (log : List Step)
      → StandsOverFrom version old log
      → (proxy : ℕ) × (took : TakesFrom proxy old new)
      × StopsAtLimit old.core.set.map.limit old.core.set.window proxy took.batch
      (run old.core.set.window (log_from version (length old.lanes) log)) (sent_to new.lanes) new.core
  -- what stays the same
  pub lanes : Each (λ _ l m. LanesContinue l m) old.lanes new.lanes
  pub continues : Continues old.core new.core

-- A turn: after its step, it delivers answers.
pub record Turns (result : Result Turn Stop) (old new : ResolverState) : Type 0 where
  pub steps : TurnSteps taken_by result old new
  pub stopped : IsSome old.core.stop → TakesNoStep old new
  pub resolving : (version : ℤ) → IsResolvingFrom version old → IsResolvingFrom version new
  -- what it has handed out
  pub owed : Each (λ proxy l m. owed_to proxy new.core.owed ≢ [] → IsFull l m) old.lanes new.lanes
  pub closed :
      (proxy : ℕ) (l : Lanes) → slice_get new.lanes proxy ≡ Some l → (l.replies.closed ≡ true) ↔ IsThrough new
  pub done :
      (result ≡ Ok turn.Done)
      ↔ (IsOk result × (all_ended new.lanes ≡ true) × (owed_count new.core.owed ≡ 0))
  -- a full gate shows a proxy that has more than its share
  pub beyond_share :
      old.core.stop ≡ None → result ≡ Err GateFull → (version : ℤ) → IsResolvingFrom version old
      → (proxy : ℕ) × (proxy < length new.lanes) × HasMoreUnanswered (share_of (length new.lanes)) proxy new
