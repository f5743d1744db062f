-- The run of a leaf that is written over. This project's own.
use Rattle.std.specs.Prelude.{◌≡◌, ◌≢◌, ◌≤◌, ◌<◌, ◌+◌, ◌-◌, ◌++◌, ◌∷◌, ℕ, ℤ, Bool, [], length, map, take, drop, slice_get, if◌then◌else◌, true, false, Option, None, Some, unwrap_or}
use Rattle.arena.specs.Arena.{IsLive, header_at, spare_of}
use Rattle.boundaries.specs.declared.descent.Position.{Position}
use Rattle.boundaries.specs.declared.entry.NodeEntry.{NodeEntry}
use Rattle.boundaries.specs.declared.node.Node.{Node}
use Rattle.boundaries.specs.declared.node.TheConstants.{FAN_OUT, HALF_FULL}
use Rattle.boundaries.specs.declared.overwrite.Overwrite.{Overwrite}
use Rattle.boundaries.specs.declared.run.EntryRun.{EntryRun}
use Rattle.boundaries.specs.declared.store.Store.{Store}
use Rattle.boundaries.specs.declared.walk.RaisedLeaf.{RaisedLeaf}
use Rattle.boundaries.specs.Bound.{Keys}
use Rattle.boundaries.specs.Children.{items_with}
use Rattle.boundaries.specs.Finding.{HasHead, IsLowerBound}
use Rattle.boundaries.specs.Item.{item_of, version_of}
use Rattle.boundaries.specs.Items.{IsLast, ended_by}
use Rattle.boundaries.specs.Node.{keys_of}
use Rattle.boundaries.specs.Overwrite.{before_start, before_end, up_to_end, bound_from, bound_to, first_is_below, GivesEntire, HasKeyRoom}
use Rattle.boundaries.specs.Path.{IsPartitioned, items_below, items_not_below, first_key}
use Rattle.boundaries.specs.Position.{CanSearch}
use Rattle.boundaries.specs.Rebalancing.{IsSound, IsStored}
use Rattle.boundaries.specs.Store.{KeysStay, PutsKeys}
use Rattle.boundaries.specs.Subtree.{entries_at, items_in}

-- The position of a run among the entries of a leaf, and the heads of the start and the end.
pub record IsRun (keys : Keys) (leaf : Node) (new : Overwrite) (run : EntryRun) : Type 0 where
  pub begin : IsLowerBound (before_start keys new) leaf run.begin
  pub end : IsLowerBound (before_end keys new) leaf run.end
  pub ordered : run.begin ≤ run.end
  pub some : 0 < run.end
  pub begin_head : HasHead keys (bound_from new) run.begin_head leaf
  pub end_head : HasHead keys (bound_to new) run.end_head leaf

-- the leaf at a slot, whose run is this
pub record IsRunAt (store : Store) (slot : ℕ) (new : Overwrite) (run : EntryRun) : Type 0 where
  pub leaf : Node
  pub there : header_at store.nodes slot ≡ Some leaf
  pub run_is : IsRun store.keys leaf new run

-- the same, where the key of the first item after the leaf is this
pub record IsRunBefore (store : Store) (slot : ℕ) (next : Option ℕ) (new : Overwrite) (run : EntryRun) : Type 0 where
  pub run_is : IsRunAt store slot new run
  pub ended : run.ended ≡ first_is_below (up_to_end store.keys new)
      (first_key next (map item_of (drop run.end (entries_at store.nodes slot))))

-- a leaf in which the run is sought
pub record CanFindRun (store : Store) (position : Position) (new : Overwrite) : Type 0 where
  pub search : CanSearch store (bound_to new) 0 position.slot position.common_prefix_len
  pub from : IsPartitioned (λ x. before_start store.keys new x.key) (items_in store.nodes 0 position.slot)

-- A leaf of which a run may be written over.
pub record CanWriteRun (store : Store) (slot : ℕ) (new : Overwrite) (run : EntryRun) : Type 0 where
  pub sound : IsSound store
  pub room : 0 < spare_of store.nodes 0
  pub key_room : HasKeyRoom store.keys new
  pub run_is : IsRunAt store slot new run
  pub none_removed : store.removed.items ≡ []

-- The run is replaced by the new items.
pub record IsRunWritten (old new : Store) (slot : ℕ) (o : Overwrite) (run : EntryRun) (added : Option ℕ) : Type 0 where
  pub first : ℕ
  pub second : ℕ
  pub puts : PutsKeys old.keys new.keys o.start.now o.end.now first (if run.ended then None else Some second)
  pub removed : new.removed.items ≡ keys_of (drop run.begin (take run.end (entries_at old.nodes slot)))
  pub items : (last : NodeEntry) → IsLast last (take run.end (entries_at old.nodes slot)) → items_with new.nodes 0 slot added
      ≡ map item_of (take run.begin (entries_at old.nodes slot))
      ++ (record { key = first; version = o.version }
      ∷ ended_by run.ended (record { key = second; version = unwrap_or o.at_end last.version })
      ++ map item_of (drop run.end (entries_at old.nodes slot)))

-- a leaf of which the first entries may be removed
pub record CanClearRun (store : Store) (slot end : ℕ) : Type 0 where
  pub sound : IsSound store
  pub live : IsLive store.nodes slot
  pub some : 0 < end
  pub within : end ≤ length (entries_at store.nodes slot)
  pub none_removed : store.removed.items ≡ []

-- They are removed, and the last of them had this version.
pub record IsRunCleared (old new : Store) (slot end : ℕ) (last : ℤ) : Type 0 where
  pub entries : entries_at new.nodes slot ≡ drop end (entries_at old.nodes slot)
  pub removed : new.removed.items ≡ keys_of (take end (entries_at old.nodes slot))
  pub last_is : IsLast last (map version_of (take end (entries_at old.nodes slot)))
  pub stored : IsStored old new slot None
  pub keys : new.keys ≡ old.keys

-- A leaf in which the next write may continue.
pub record CanWriteInLeaf (store : Store) (slot : ℕ) (new : Overwrite) : Type 0 where
  pub sound : IsSound store
  pub live : IsLive store.nodes slot
  pub some : 0 < length (entries_at store.nodes slot)
  pub room : 0 < spare_of store.nodes 0
  pub key_room : HasKeyRoom store.keys new
  pub from : IsPartitioned (λ x. before_start store.keys new x.key) (items_in store.nodes 0 slot)
  pub to : IsPartitioned (λ x. before_end store.keys new x.key) (items_in store.nodes 0 slot)
  pub none_removed : store.removed.items ≡ []

-- A run between two entries of a leaf, which keeps enough entries and has room for two more. The first entry after it shows whether there
-- is a boundary at the end.
pub record IsFoundRun (store : Store) (slot : ℕ) (new : Overwrite) (run : EntryRun) : Type 0 where
  pub run_is : IsRunAt store slot new run
  pub some_before : 0 < run.begin
  pub some_after : run.end < length (entries_at store.nodes slot)
  pub fits : length (entries_at store.nodes slot) + 2 ≤ FAN_OUT
  pub filled : HALF_FULL + (run.end - run.begin) ≤ length (entries_at store.nodes slot)
  pub ended : (e : NodeEntry) → slice_get (entries_at store.nodes slot) run.end ≡ Some e → run.ended ≡ up_to_end store.keys new e.key

-- A leaf in which a run was written over, between two of its items, at the version of the leaf. It still has enough entries.
pub record IsWrittenInLeaf (old new : Store) (leaf : RaisedLeaf) (o : Overwrite) : Type 0 where
  pub version : o.version ≡ leaf.version
  pub given_none : o.at_end ≡ None
  pub some_before : items_below (before_start old.keys o) (items_in old.nodes 0 leaf.slot) ≢ []
  pub some_after : items_not_below (before_end old.keys o) (items_in old.nodes 0 leaf.slot) ≢ []
  pub gives : (next : Option ℕ) → GivesEntire o old new next (items_in old.nodes 0 leaf.slot) (items_in new.nodes 0 leaf.slot)
  pub filled : HALF_FULL ≤ length (entries_at new.nodes leaf.slot)
  pub stored : IsStored old new leaf.slot None
  pub keys : KeysStay old.keys new.keys

-- It was written over, or nothing was changed.
abbrev pub WritesInLeaf : Store → Store → RaisedLeaf → Overwrite → Bool → Type 0
WritesInLeaf old new leaf o true = IsWrittenInLeaf old new leaf o
WritesInLeaf old new leaf o false = new ≡ old
