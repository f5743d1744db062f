-- The answers owed to proxies. This project's own.
use Rattle.std.specs.Prelude.{◌≡◌, ℕ, ◌+◌, ◌-◌, ◌<◌, ◌^◌, List, [], ◌∷◌, ◌++◌, length, drop, set, slice_index_or}
use Rattle.std.specs.List.{sum_by}
use Rattle.std.specs.VecDeque.{deque_capacity, deque_len}
use Rattle.std.specs.declared.collections.VecDeque.{VecDeque}
use Rattle.keyspace.specs.declared.answer.Answer.{Answer}
use Rattle.limits.specs.declared.settings.TheConstants.{MAX_PROXIES}

-- what is owed to the proxy, oldest first
abbrev pub owed_to : ℕ → List (List Answer) → List Answer
owed_to proxy owed = slice_index_or owed proxy []

-- one answer more is owed to the proxy, after the others
abbrev pub owed_also : ℕ → Answer → List (List Answer) → List (List Answer)
owed_also proxy answer owed = set owed proxy (owed_to proxy owed ++ answer ∷ [])

-- the oldest answer is owed to the proxy no longer
abbrev pub given_oldest : ℕ → List (List Answer) → List (List Answer)
given_oldest proxy owed = set owed proxy (drop 1 (owed_to proxy owed))

-- how many answers are owed to all proxies
abbrev pub owed_count : List (List Answer) → ℕ
owed_count owed = sum_by length owed

-- the answers of a queue, and how many more it takes without memory
abbrev pub items_of : {Z : Type 0} → VecDeque Answer Z → List Answer
items_of {Z} queue = queue.items

abbrev pub room_of : {Z : Type 0} → VecDeque Answer Z → ℕ
room_of {Z} queue = deque_capacity queue - deque_len queue

-- answers owed, and room for more
pub record OwedView : Type 0 where
  -- to each proxy, at its number, oldest first
  pub answers : List (List Answer)
  -- how many more are owed to each proxy without taking memory
  pub room : List ℕ

-- The answers owed are this many. With one more for each of the most proxies, they are still counted.
pub record AreCounted (owed : List (List Answer)) (count : ℕ) : Type 0 where
  pub counted : count ≡ owed_count owed
  pub few : owed_count owed + MAX_PROXIES < 2 ^ 64

-- one answer more may be owed to the proxy without taking memory
pub record HasRoomFor (proxy : ℕ) (owed : OwedView) : Type 0 where
  pub line : 0 < slice_index_or owed.room proxy 0
  pub all : owed_count owed.answers + 1 + MAX_PROXIES < 2 ^ 64
