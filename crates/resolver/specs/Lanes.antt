-- The resolver's ends of the lanes of its proxies, and what a turn has seen of them. This project's own.
use Rattle.std.specs.Prelude.{◌≡◌, ℕ, ◌+◌, ◌<◌, ◌≤◌, ◌⊎◌, ◌==◌, if◌then◌else◌, Bool, true, List, [], ◌∷◌, ◌++◌, length, map, Some, slice_get, slice_index_or}
use Rattle.std.specs.List.{list_all}
use Rattle.keyspace.specs.declared.batch.Batch.{Batch}
use Rattle.keyspace.specs.declared.answer.Answer.{Answer}
use Rattle.lane.specs.declared.port.TheConstants.{MAX_SENT}
use Rattle.lane.specs.Lane.{IntakeView, PortView, IntakeContinues, PortContinues}
use Rattle.resolver.specs.Core.{Given}

-- the resolver's ends of the two lanes of a proxy
pub record Lanes : Type 0 where
  pub requests : IntakeView Batch
  pub replies : PortView Answer
  -- a take has answered the end of the requests
  pub ended : Bool

-- what was taken from each proxy
abbrev pub taken_from : List Lanes → ℕ → List Batch
taken_from lanes proxy = slice_index_or (map (λ l. l.requests.taken) lanes) proxy []

-- what was sent to each proxy
abbrev pub sent_to : List Lanes → Given
sent_to lanes proxy = slice_index_or (map (λ l. l.replies.sent) lanes) proxy []

-- the request lane of the proxy has ended
abbrev pub has_ended : List Lanes → ℕ → Bool
has_ended lanes proxy = slice_index_or (map (λ l. l.ended) lanes) proxy true

-- all request lanes have ended
abbrev pub all_ended : List Lanes → Bool
all_ended lanes = list_all (λ l. l.ended) lanes

-- as many lanes as before, and this of those of each proxy, before and after
pub record Each (P : ℕ → Lanes → Lanes → Type 0) (old new : List Lanes) : Type 0 where
  pub count : length new ≡ length old
  pub each : (proxy : ℕ) (l m : Lanes) → slice_get old proxy ≡ Some l → slice_get new proxy ≡ Some m → P proxy l m

-- the same ends later
pub record LanesContinue (old new : Lanes) : Type 0 where
  pub requests : IntakeContinues old.requests new.requests
  pub replies : PortContinues old.replies new.replies
  pub ended : old.ended ≡ true → new.ended ≡ true

-- the same batches were taken, the same answers sent
pub record AreSameLists (old new : Lanes) : Type 0 where
  pub taken : new.requests.taken ≡ old.requests.taken
  pub sent : new.replies.sent ≡ old.replies.sent
  pub closed : new.replies.closed ≡ old.replies.closed
  pub ended : new.ended ≡ old.ended

-- one batch more was taken, from this proxy
abbrev pub TakesOne : ℕ → Batch → List Lanes → List Lanes → Type 0
TakesOne proxy batch old new =
    (other : ℕ) → taken_from new other
    ≡ (if proxy == other then taken_from old other ++ batch ∷ [] else taken_from old other)

-- no batch was taken
abbrev pub TakesNone : List Lanes → List Lanes → Type 0
TakesNone old new = (proxy : ℕ) → taken_from new proxy ≡ taken_from old proxy

-- In the call that made the one of the other, the request lane was looked through: it has ended, or its intake looked and
-- has taken all that it has seen sent.
abbrev pub IsLookedThrough : Lanes → Lanes → Type 0
IsLookedThrough old new =
    (new.ended ≡ true)
    ⊎ ((old.requests.looks < new.requests.looks) × (length new.requests.taken ≡ new.requests.seen_sent))

-- going round from the first, this proxy comes before the other
abbrev pub ComesBefore : ℕ → ℕ → ℕ → Type 0
ComesBefore first proxy other =
    ((first ≤ proxy) × (proxy < other)) ⊎ ((other < first) × ((first ≤ proxy) ⊎ (proxy < other)))

-- In that call the reply lane was found full, as far as the port has seen answers taken; or the lane is worn.
abbrev pub IsFull : Lanes → Lanes → Type 0
IsFull old new =
    (MAX_SENT ≤ length new.replies.sent)
    ⊎ ((old.replies.looks < new.replies.looks)
    × (length new.replies.sent ≡ new.replies.seen_taken + new.replies.capacity))
