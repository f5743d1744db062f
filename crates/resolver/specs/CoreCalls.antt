-- What the calls on a core do, by what they answer. This project's own.
use Rattle.std.specs.Prelude.{◌≡◌, ◌≢◌, ℕ, ℤ, pos, ◌≤◌, ◌≤ℤ◌, ◌<ℤ◌, ◌↔◌, List, [], ◌∷◌, ◌++◌, length, None, Some, Result, Err, OnOk, OnErr, IfErr, IfSome}
use Rattle.keyspace.specs.declared.batch.Batch.{Batch}
use Rattle.keyspace.specs.Processed.{Processed}
use Rattle.keyspace.specs.Run.{State, Step, Take, run}
use Rattle.limits.specs.declared.settings.TheConstants.{MAX_LIMIT, MAX_PROXIES, MAX_WINDOW}
use Rattle.chain.specs.declared.gate.TheConstants.{MAX_HELD}
use Rattle.limits.specs.declared.stop.Stop.{Stop}
use Rattle.limits.specs.declared.stop.Stop.TheVariants as stop
use Rattle.resolver.specs.Core.{CoreState, Given, IsIn, Continues, MadeBetween, StopsIn, StopsAtLimit}
use Rattle.resolver.specs.Stands.{Stands}
use Rattle.resolver.specs.Observed.{HasSeenBetween}

-- what a core can be made with: its proxies, its window, and the limit of its conflict set
pub record AreSettings (proxies : ℕ) (window : ℤ) (limit : ℕ) : Type 0 where
  pub least_proxies : 1 ≤ proxies
  pub most_proxies : proxies ≤ MAX_PROXIES
  pub least_window : pos 1 ≤ℤ window
  pub most_window : window ≤ℤ MAX_WINDOW
  pub least_limit : 1 ≤ limit
  pub most_limit : limit ≤ MAX_LIMIT

-- a new core, made with these and with the log that it represents
pub record IsNewCore (count : ℕ) (width : ℤ) (most : ℕ) (log : List Step) (core : CoreState) : Type 0 where
  pub stands : Stands core log (λ _. [])
  pub «open» : core.stop ≡ None
  pub proxies : length core.owed ≡ count
  pub window : core.set.window ≡ width
  pub limit : core.set.map.limit ≡ most

-- The log of the core has one more step, unless a stop was met earlier. A stop is for good.
pub record AddsStep {T : Type 0} (step : Step) (result : Result T Stop) (old new : CoreState) : Type 0 where
  pub stands :
      old.stop ≡ None → (log : List Step) (given : Given) → Stands old log given
      → Stands new (log ++ step ∷ []) given
  pub «open» : OnOk result ((old.stop ≡ None) × (new.stop ≡ None))
  pub stops : IfErr result (λ met. new.stop ≡ Some met)
  pub stopped : IfSome old.stop (λ met. (result ≡ Err met) × (new ≡ old))
  pub continues : Continues old new

-- The core takes a batch of the proxy.
pub record Admits {T : Type 0} (result : Result T Stop) (proxy : ℕ) (batch : Batch) (old new : CoreState) : Type 0 where
  pub adds : AddsStep (Take proxy batch) result old new
  -- when each stop comes
  pub gate_full :
      old.stop ≡ None
      → (result ≡ Err stop.GateFull) ↔ (old.version <ℤ batch.previous) × (length old.held ≡ MAX_HELD)
  pub arena_full :
      old.stop ≡ None → result ≡ Err stop.ArenaFull → (log : List Step) (given : Given) → Stands old log given
      → StopsAtLimit old.set.map.limit old.set.window proxy batch (run old.set.window log) given new

-- Below, `next` is what the reference resolver does to its state in the same call.

-- The core advances to the next state. If it is refused something on the way, it has made some of the answers.
pub record Advances {T : Type 0} (next : State → State) (result : Result T Stop) (old new : CoreState) : Type 0 where
  pub ok : OnOk result ((state : State) (given : Given) → IsIn state given old → IsIn (next state) given new)
  pub err :
      OnErr result ((state : State) (given : Given) → IsIn state given old
      → MadeBetween state (next state) given new)
  pub continues : Continues old new

-- The core advances to the next state, or it is refused something and has made no answer.
pub record AdvancesByOne {T : Type 0} (next : State → State) (result : Result T Stop) (old new : CoreState)
    : Type 0 where
  pub ok : OnOk result ((state : State) (given : Given) → IsIn state given old → IsIn (next state) given new)
  pub err : OnErr result (new.owed ≡ old.owed)
  pub continues : Continues old new

-- It answers the batch, whose turn has come or had come before.
pub record Answers {T : Type 0} (next : State → State) (proxy : ℕ) (batch : Batch) (result : Result T Stop)
    (old new : CoreState) : Type 0 where
  pub advances : AdvancesByOne next result old new
  pub «open» : OnOk result (new.stop ≡ None)
  pub held : new.held ≡ old.held
  pub not_gate : result ≢ Err stop.GateFull
  pub arena_full :
      result ≡ Err stop.ArenaFull → (state : State) (given : Given) → IsIn state given old
      → StopsIn old.set.map.limit old.set.window state proxy batch given new

-- An observer that had seen what was processed before sees what is processed on the way to the next state. `before` and
-- `after` are what is true of one that has seen a list, before and after the call.
pub record Shows {T : Type 0} (next : State → State) (result : Result T Stop) (old : CoreState)
    (before after : List Processed → Type 0) : Type 0 where
  pub seen :
      OnOk result ((state : State) (given : Given) → IsIn state given old → before state.processed
      → after (next state).processed)
  pub seen_between :
      OnErr result ((state : State) (given : Given) → IsIn state given old → before state.processed
      → HasSeenBetween after state.processed (next state).processed)

-- It sees that, or nothing.
pub record ShowsOne {T : Type 0} (next : State → State) (result : Result T Stop) (old : CoreState)
    (before after : List Processed → Type 0) : Type 0 where
  pub seen :
      OnOk result ((state : State) (given : Given) → IsIn state given old → before state.processed
      → after (next state).processed)
  pub unseen : OnErr result ((processed : List Processed) → before processed → after processed)
