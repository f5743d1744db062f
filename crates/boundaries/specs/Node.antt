-- What a contract sees of a node. This project's own.
use Rattle.std.specs.Prelude.{◌≡◌, ◌++◌, ℕ, List, length, map, take, Option, option_map}
use Rattle.arena.specs.Arena.{Arena, header_at, key_at}
use Rattle.boundaries.specs.declared.entry.NodeEntry.{NodeEntry}
use Rattle.boundaries.specs.declared.node.Node.{Node}
use Rattle.boundaries.specs.Heads.{AreHeads, KeyHeads}

-- its entries
abbrev pub entries_of : Node → List NodeEntry
entries_of node = take node.len node.entries

-- the keys of entries
abbrev pub keys_of : List NodeEntry → List ℕ
keys_of entries = map (λ e. e.key) entries

-- the heads for which it has room
abbrev pub node_heads : Node → List ℕ
node_heads node = node.heads

-- what a node knows of the bytes of its keys
abbrev pub key_heads_of : Node → KeyHeads
key_heads_of node = record { keys = keys_of (entries_of node); prefix_len = node.prefix_len; heads = take node.len (node_heads node) }

-- what a node knows of its keys is right
abbrev pub IsHeaded : Arena (Unit {0}) → Node → Type 0
IsHeaded keys node = AreHeads (key_at keys) (key_heads_of node)

-- A changed node, or a part of it, has these heads, after as many bytes as before.
pub record HasHeads (old new : Node) (heads : List ℕ) : Type 0 where
  pub prefix_len : (key_heads_of new).prefix_len ≡ (key_heads_of old).prefix_len
  pub heads_are : (key_heads_of new).heads ≡ heads

-- Two neighbours have these heads in turn, after as many bytes as before. The left one has as many as entries.
pub record ShareHeads (old left right : Node) (heads : List ℕ) : Type 0 where
  pub prefix_len : (key_heads_of left).prefix_len ≡ (key_heads_of old).prefix_len
  pub right_prefix_len : (key_heads_of right).prefix_len ≡ (key_heads_of old).prefix_len
  pub heads_are : (key_heads_of left).heads ++ (key_heads_of right).heads ≡ heads
  pub count : length (key_heads_of left).heads ≡ length (entries_of left)

-- what each node knows
abbrev pub all_heads_of : Arena Node → ℕ → Option KeyHeads
all_heads_of nodes slot = option_map key_heads_of (header_at nodes slot)
