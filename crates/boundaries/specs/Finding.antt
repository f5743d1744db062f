-- What a search in a node goes by, and what it finds. This project's own.
use Rattle.std.specs.Prelude.{◌≡◌, ◌≢◌, ◌≤◌, ◌<◌, ℕ, Bool, List, take, filter, length, get_or, slice_get, Option, None, Some, IfSome}
use Rattle.arena.specs.Arena.{key_at}
use Rattle.boundaries.specs.declared.entry.NodeEntry.{NodeEntry}
use Rattle.boundaries.specs.declared.key_bound.KeyBound.{KeyBound}
use Rattle.boundaries.specs.declared.node.Node.{Node}
use Rattle.boundaries.specs.declared.node.step.Step.{Step}
use Rattle.boundaries.specs.Bound.{Keys, is_below}
use Rattle.boundaries.specs.Heads.{HaveCommonPrefix, IsCommonPrefixAt, IsTargetHead}
use Rattle.boundaries.specs.Node.{IsHeaded, entries_of, key_heads_of}
use Rattle.boundaries.specs.Path.{IsPartitioned, index_in}

-- the head of the bound's key, if there is one: then that begins as all keys of the node do
abbrev pub HasHead : Keys → KeyBound → Option ℕ → Node → Type 0
HasHead keys bound head node = IfSome head (λ d. IsTargetHead (key_at keys) (key_heads_of node) bound.key.now d)

-- The same, if the first key and the bound's are known to have that many bytes in common. It is missing only if the first key may be
-- empty, or where they don't begin as all keys do.
pub record IsHeadFor (keys : Keys) (bound : KeyBound) (node : Node) (known : ℕ) (given : Option ℕ) : Type 0 where
  pub head : HasHead keys bound given node
  pub none : given ≡ None → get_or (key_heads_of node).heads 0 0 ≢ 0 → known < (key_heads_of node).prefix_len

-- there is a first key, and it and the bound's begin with that many bytes in common, or it is shorter
abbrev pub BeginsInCommon : Keys → KeyBound → Node → ℕ → Type 0
BeginsInCommon keys bound node known =
    (0 < length (entries_of node))
    × ((e : NodeEntry) (text : List ℕ) → slice_get (entries_of node) 0 ≡ Some e → key_at keys e.key ≡ Some text
    → HaveCommonPrefix known text bound.key.now)

-- a node that has entries, of which those below the bound come first, and that knows the bytes of their keys
pub record CanFind (keys : Keys) (bound : KeyBound) (node : Node) : Type 0 where
  pub headed : IsHeaded keys node
  pub partitioned : IsPartitioned (λ e. is_below keys bound e.key) (entries_of node)
  pub some : 0 < length (entries_of node)

-- The entry at an index is below the bound, and its key and the bound's have a common prefix of this length.
abbrev pub IsKnownAt : Keys → KeyBound → Node → ℕ → ℕ → Type 0
IsKnownAt keys bound node index known =
    IsCommonPrefixAt (key_at keys) (is_below keys bound) bound.key.now known (entries_of node) index

-- a node that can be searched, and what is known of its first key
pub record CanStep (keys : Keys) (bound : KeyBound) (node : Node) (common_prefix_len : ℕ) : Type 0 where
  pub can_find : CanFind keys bound node
  pub known : IsKnownAt keys bound node 0 common_prefix_len

-- A node that was searched by another bound, with this head. The keys of both bounds begin with that many bytes in common.
pub record IsSearchedBeside (keys : Keys) (bound : KeyBound) (node : Node) (known count : ℕ) (given : Option ℕ) : Type 0 where
  pub other : KeyBound
  pub can_step : CanStep keys other node known
  pub head : HasHead keys other given node
  pub common : take count other.key.now ≡ take count bound.key.now

-- how many of the entries are below the bound
pub record IsLowerBound (is_below : ℕ → Bool) (node : Node) (count : ℕ) : Type 0 where
  pub within : count ≤ length (entries_of node)
  pub count_is : count ≡ length (filter (λ e. is_below e.key) (entries_of node))

-- the last entry below the bound, and what is known of its key
pub record IsStep (keys : Keys) (bound : KeyBound) (node : Node) (step : Step) : Type 0 where
  pub index_is : step.index ≡ index_in (is_below keys bound) (entries_of node)
  pub within : step.index < length (entries_of node)
  pub knows : IsKnownAt keys bound node step.index step.common_prefix_len

-- The entries with this head are between these two indices, from an index on.
pub record AreTied (node : Node) (head from first end : ℕ) : Type 0 where
  pub first_is : from ≤ first
  pub ordered : first ≤ end
  pub within : end ≤ length (entries_of node)
  pub below : (index : ℕ) → from ≤ index → index < first → get_or (key_heads_of node).heads index 0 < head
  pub above : end < length (entries_of node) → head < get_or (key_heads_of node).heads end 0
