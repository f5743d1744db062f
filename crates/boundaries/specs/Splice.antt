-- Entries that replace others of a node, and two nodes that share entries. This project's own.
use Rattle.std.specs.Prelude.{◌≤◌, ◌++◌, List, length, take, drop, IfSome}
use Rattle.std.specs.List.{All}
use Rattle.arena.specs.Arena.{key_at}
use Rattle.boundaries.specs.declared.entry.NodeEntry.{NodeEntry}
use Rattle.boundaries.specs.declared.node.Node.{Node}
use Rattle.boundaries.specs.declared.node.TheConstants.{HALF_FULL}
use Rattle.boundaries.specs.declared.node.splice.Splice.{Splice}
use Rattle.boundaries.specs.Bound.{Keys}
use Rattle.boundaries.specs.Heads.{AreHeadsBeside, IsKnown}
use Rattle.boundaries.specs.Node.{IsHeaded, entries_of, key_heads_of, keys_of}

-- entries once others have replaced some of them
abbrev pub spliced : Splice → List NodeEntry → List NodeEntry
spliced splice entries = take splice.from entries ++ (splice.new.now ++ drop splice.to entries)

-- the entries of two neighbours, each of them at least half full
pub record AreHalfFull (first second : List NodeEntry) : Type 0 where
  pub left : HALF_FULL ≤ length first
  pub right : HALF_FULL ≤ length second

-- Entries that may replace some of a node's: their keys are known, and heads are those of the keys.
pub record CanSplice (keys : Keys) (node : Node) (splice : Splice) : Type 0 where
  pub ordered : splice.from ≤ splice.to
  pub within : splice.to ≤ length (entries_of node)
  pub headed : IsHeaded keys node
  pub known : All (IsKnown (key_at keys)) (keys_of splice.new.now)
  pub beside : IfSome splice.heads (λ heads. AreHeadsBeside (key_at keys) (key_heads_of node) (keys_of splice.new.now)
      (take (length splice.new.now) heads))
