-- The value of a core that C holds by a handle, and its answers. This project's own.
use Rattle.std.specs.Prelude.{◌≡◌, ◌≤◌, ◌<◌, ◌<ℤ◌, ◌↔◌, ◌⊎◌, ℕ, ℤ, ◌+◌, pos, List, [], ◌∷◌, ◌++◌, length, Option, Some, None, option_to_list, slice_get, slice_index_or}
use Rattle.std.specs.List.{sum_by}
use Rattle.keyspace.specs.declared.batch.Batch.{Batch}
use Rattle.keyspace.specs.declared.answer.Answer.{Answer}
use Rattle.keyspace.specs.Run.{Step, Take, run}
use Rattle.chain.specs.declared.gate.TheConstants.{MAX_HELD}
use Rattle.limits.specs.declared.settings.TheConstants.{MAX_PROXIES}
use Rattle.limits.specs.declared.stop.Stop.{Stop as StopValue}
use Rattle.limits.specs.declared.stop.Stop.TheVariants.{GateFull, ArenaFull}
use Rattle.resolver.specs.Owed.{owed_to, owed_count}
use Rattle.resolver.specs.Core.{CoreState, Given, StopsAtLimit}
use Rattle.resolver.specs.Stands.{Stands}
use Rattle.archcaraway_c.specs.declared.refusal.Refusal.{Refusal}
use Rattle.archcaraway_c.specs.declared.refusal.Refusal.TheVariants.{Stop, Wire, Version, Argument, Buffer, Behind}
use Rattle.archcaraway_c.specs.BatchFrame.{IsFrame, IsNoFrame}
use Rattle.archcaraway_c.specs.Given.{WriteRefuses}
use Rattle.archcaraway_c.specs.Status.{stop_status}

-- a core, and the next answer of each proxy, if it was taken from the core and isn't given yet
pub record CoreParts : Type 0 where
  pub core : CoreState
  pub waiting : List (Option Answer)

-- there is a place for one answer per proxy
pub record AreCoreParts (parts : CoreParts) : Type 0 where
  pub count : length parts.waiting ≡ length parts.core.owed
  pub few : length parts.waiting ≤ MAX_PROXIES

-- the answers owed to the proxy, oldest first
abbrev pub still_owed : ℕ → CoreParts → List Answer
still_owed proxy parts =
    option_to_list (slice_index_or parts.waiting proxy None) ++ owed_to proxy parts.core.owed

-- the oldest of them
abbrev pub next_owed : ℕ → CoreParts → Option Answer
next_owed proxy parts = slice_get (still_owed proxy parts) 0

-- how many answers are owed to all proxies
abbrev pub still_owed_count : CoreParts → ℕ
still_owed_count parts =
    owed_count parts.core.owed + sum_by (λ answer. length (option_to_list answer)) parts.waiting

-- the batch is taken from the proxy, as the last step of each log that the core represents
abbrev pub Admits : CoreState → ℕ → Batch → CoreState → Type 0
Admits old proxy batch new =
    (log : List Step) (given : Given) → Stands old log given → Stands new (log ++ Take proxy batch ∷ []) given

-- the batch would have to be held, and as many are held as may be
abbrev pub IsGateFull : CoreState → Batch → Type 0
IsGateFull core batch = (core.version <ℤ batch.previous) × (length core.held ≡ MAX_HELD)

-- The core meets this stop at the batch of the proxy, which counts as taken. It is `GateFull` exactly if the gate is full, and
-- `ArenaFull` only if that batch, or one that leaves after it, exceeds the limit. Memory may be refused instead.
pub record StopsAt (old new : CoreState) (proxy : ℕ) (batch : Batch) (stop : StopValue) : Type 0 where
  pub met : new.stop ≡ Some stop
  pub taken : Admits old proxy batch new
  pub gate_full : (stop ≡ GateFull) ↔ IsGateFull old batch
  pub arena_full :
      stop ≡ ArenaFull → (log : List Step) (given : Given) → Stands old log given →
      StopsAtLimit old.set.map.limit old.set.window proxy batch (run old.set.window log) given new

-- Why a core doesn't take a frame from a proxy, and what it is then: as before, unless it meets a stop now.
abbrev pub CoreRefuses : CoreParts → CoreParts → ℕ → List ℕ → Refusal → Type 0
CoreRefuses old new proxy frame Argument = (length old.waiting ≤ proxy) × (new ≡ old)
CoreRefuses old new proxy frame (Stop stop) =
    (proxy < length old.waiting)
    × (((old.core.stop ≡ Some stop) × (new ≡ old))
    ⊎ ((old.core.stop ≡ None) × ((batch : Batch) × IsFrame frame batch × StopsAt old.core new.core proxy batch stop)))
CoreRefuses old new proxy frame (Wire fault) =
    (proxy < length old.waiting) × (old.core.stop ≡ None) × IsNoFrame frame (Wire fault) × (new ≡ old)
CoreRefuses old new proxy frame Behind =
    (proxy < length old.waiting) × (old.core.stop ≡ None) × IsNoFrame frame Behind × (new ≡ old)
CoreRefuses old new proxy frame Version = ⊥
CoreRefuses old new proxy frame (Buffer needed) = ⊥

-- why a core gives a proxy nothing, given the number of bytes for the frame of a reply
abbrev pub GiveRefuses : CoreParts → ℕ → ℕ → Refusal → Type 0
GiveRefuses parts proxy capacity refusal =
    ((length parts.waiting ≤ proxy) × (refusal ≡ Argument))
    ⊎ ((proxy < length parts.waiting) × WriteRefuses (next_owed proxy parts) capacity refusal)

-- the number of the stop, or 0
abbrev pub maybe_stop_status : Option StopValue → ℤ
maybe_stop_status None = pos 0
maybe_stop_status (Some stop) = stop_status stop
