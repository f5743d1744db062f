-- The words of contracts, from one place for the proofs.
pub use Rattle.arena.specs.Arena.{Arena, Record, IsLive, record_at, key_at, spare_of, with_header, header_at}
pub use Rattle.boundaries.specs.declared.approach.Approach.{Approach}
pub use Rattle.boundaries.specs.declared.approach.Approach.TheVariants.{Leaf, Clear, Open}
pub use Rattle.boundaries.specs.declared.entry.NodeEntry.{NodeEntry}
pub use Rattle.boundaries.specs.declared.expiry.Removal.{Removal}
pub use Rattle.boundaries.specs.declared.key_bound.KeyBound.{KeyBound}
pub use Rattle.boundaries.specs.declared.node.Node.{Node}
pub use Rattle.boundaries.specs.declared.node.TheConstants.{FAN_OUT, HALF_FULL, PADDING}
pub use Rattle.boundaries.specs.declared.store.Store.{Store}
pub use Rattle.boundaries.specs.Bound.{Keys, bytes_at, is_below, order}
pub use Rattle.boundaries.specs.Counted.{IsCounted, last_version, items_from}
pub use Rattle.boundaries.specs.declared.unexpired.Unexpired.{Unexpired}
pub use Rattle.boundaries.specs.Expire.{GivesUnexpired}
pub use Rattle.boundaries.specs.Finding.{CanFind, CanStep, HasHead, IsHeadFor, IsKnownAt, IsStep, IsLowerBound}
pub use Rattle.boundaries.specs.Heads.{KeyBytes, IsCommonPrefix, IsCommonPrefixAt, Begins, head_after, head_at, KeyHeads, AreHeads, IsBelowInOrder, IsCommonPrefixLen, HasPrefix, IsTargetHead, IsKnown, IsHeadBeside, AllAreHeads}
pub use Rattle.boundaries.specs.Item.{Item, item_of, IsMost, Describes, IsGreatest, version_of}
pub use Rattle.boundaries.specs.Node.{IsHeaded, entries_of, key_heads_of, keys_of, all_heads_of}
pub use Rattle.boundaries.specs.Overwrite.{first_is_below}
pub use Rattle.boundaries.specs.Path.{IsPartitioned, between, from_last, items_below, index_in, leaf_in, items_not_below, after_leaf, first_key, child_in, before_leaf, below_from, below_to}
pub use Rattle.boundaries.specs.Position.{IsSearchable}
pub use Rattle.boundaries.specs.Question.{Answers, IsApproach, IsLeading, IsAnswer}
pub use Rattle.boundaries.specs.Children.{Changes, IsKeyless, AreChildren, items_of, slots_of, child_at, IsFamily, IsRebalanced}
pub use Rattle.boundaries.specs.Subtree.{items_in, entries_at, slots_in, IsSubtree, IsChild}
pub use Rattle.boundaries.specs.Items.{IsLast, unexpired_items, expired_items, ended_by}
pub use Rattle.boundaries.specs.Store.{AreHeaded, IsRooted, IsTree}
pub use Rattle.boundaries.specs.Walk.{IsChangedWithin}
