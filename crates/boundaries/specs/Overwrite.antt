-- What is written over a run of items. This project's own.
use Rattle.std.specs.Prelude.{◌≡◌, ◌≢◌, ◌⊎◌, ◌++◌, ℕ, ℤ, Bool, true, false, List, [], ◌∷◌, length, map, if◌then◌else◌, Option, None, Some, unwrap_or}
use Rattle.std.proofs.Common.{ap, sym, subst, ◌∙◌, append_assoc}
use Rattle.arena.specs.Arena.{HasRoomFor, spare_of}
use Rattle.boundaries.specs.declared.key_bound.KeyBound.{KeyBound}
use Rattle.boundaries.specs.declared.overwrite.Overwrite.{Overwrite}
use Rattle.boundaries.specs.declared.store.Store.{Store}
use Rattle.boundaries.specs.declared.tree.Tree.{Tree}
use Rattle.boundaries.specs.Bound.{Keys, bytes_at, is_below}
use Rattle.boundaries.specs.Item.{Item}
use Rattle.boundaries.specs.Items.{IsLast, ended_by}
use Rattle.boundaries.specs.Path.{IsPartitioned, items_below, items_not_below, between, first_key}
use Rattle.boundaries.specs.Rebalancing.{KeepsKeys}
use Rattle.boundaries.specs.Store.{PutsKeys}
use Rattle.boundaries.specs.Walk.{CanChangeTree, IsRaisedInTree}

-- the bounds right before the start, right before the end, and right after it
abbrev pub bound_from : Overwrite → KeyBound
bound_from new = record { key = new.start; up_to = false }

abbrev pub bound_to : Overwrite → KeyBound
bound_to new = record { key = new.end; up_to = false }

abbrev pub bound_past : Overwrite → KeyBound
bound_past new = record { key = new.end; up_to = true }

-- whether an item is below each
abbrev pub before_start : Keys → Overwrite → ℕ → Bool
before_start keys new = is_below keys (bound_from new)

abbrev pub before_end : Keys → Overwrite → ℕ → Bool
before_end keys new = is_below keys (bound_to new)

abbrev pub up_to_end : Keys → Overwrite → ℕ → Bool
up_to_end keys new = is_below keys (bound_past new)

-- Items once written over: the first of the new ones replaces those from one bound to another. A second one has the
-- version given, or that of the last item before the other bound, unless the run is ended already.
abbrev pub IsOverwritten : (ℕ → Bool) → (ℕ → Bool) → Item → ℕ → Option ℤ → Bool → List Item → List Item → Type 0
IsOverwritten from to first second given ended was now =
    (last : Item) → IsLast last (items_below to was)
    → now ≡ items_below from was
    ++ (first ∷ ended_by ended (record { key = second; version = unwrap_or given last.version }) ++ items_not_below to was)

-- Items that are a part of others, which are partitioned.
abbrev pub IsPartOfPartitioned : (ℕ → Bool) → List Item → Type 0
IsPartOfPartitioned is_below part = (front back : List Item) × IsPartitioned (λ x. is_below x.key) (front ++ (part ++ back))

-- A part of such items is one too.
pub part_of_part : (is_below : ℕ → Bool) (before items following : List Item) → IsPartOfPartitioned is_below (before ++ (items ++ following))
    → IsPartOfPartitioned is_below items
part_of_part is_below before items following part =
    let front = part.0 in
    let back = part.1 in
    let regrouped : front ++ ((before ++ (items ++ following)) ++ back) ≡ (front ++ before) ++ (items ++ (following ++ back)) =
    ap (λ xs. front ++ xs) (append_assoc before (items ++ following) back)
    ∙ ap (λ xs. front ++ (before ++ xs)) (append_assoc items following back)
    ∙ sym (append_assoc front before (items ++ (following ++ back))) in
    (front ++ before, following ++ back, subst (IsPartitioned (λ x. is_below x.key)) regrouped part.2)

-- there is room for both keys
abbrev pub HasKeyRoom : Keys → Overwrite → Type 0
HasKeyRoom keys new = HasRoomFor (spare_of keys) (length new.start.now ∷ length new.end.now ∷ [])

-- what is wanted of the items that are written over
pub record CanBeWritten (new : Overwrite) (keys : Keys) (items : List Item) : Type 0 where
  pub part : IsPartOfPartitioned (before_start keys new) items
  pub room : HasKeyRoom keys new

-- there is such a key, and it is below the bound
abbrev pub first_is_below : (ℕ → Bool) → Option ℕ → Bool
first_is_below is_below None = false
first_is_below is_below (Some key) = is_below key

-- The items of a leaf, of which the run is written over: the item before the run is there, or they begin with the empty key.
pub record GivesEntire (new : Overwrite) (old store : Store) (next : Option ℕ) (was now : List Item) : Type 0 where
  pub first : ℕ
  pub second : ℕ
  pub ended : Bool
  pub there : (items_below (before_start old.keys new) was ≢ [])
      ⊎ ((x : Item) × (xs : List Item) × (was ≡ x ∷ xs) × (bytes_at old.keys x.key ≡ []))
  pub some : items_below (before_end old.keys new) was ≢ []
  pub puts : PutsKeys old.keys store.keys new.start.now new.end.now first (if ended then None else Some second)
  pub run_is : store.removed.items
      ≡ map (λ x. x.key) (between (Some (before_start old.keys new)) (Some (before_end old.keys new)) was)
  pub ended_is : ended ≡ first_is_below (up_to_end old.keys new) (first_key next (items_not_below (before_end old.keys new) was))
  pub written : IsOverwritten (before_start old.keys new) (before_end old.keys new) (record { key = first; version = new.version })
      second new.at_end ended was now

-- The items of a leaf, of which the run's are taken out: no item before the run is among them, and they don't begin with the empty key.
pub record GivesPart (new : Overwrite) (at_end : ℤ) (old store : Store) (was now : List Item) : Type 0 where
  pub last : Item
  pub none : items_below (before_start old.keys new) was ≡ []
  pub run_is : store.removed.items ≡ map (λ x. x.key) (items_below (before_end old.keys new) was)
  pub rest : now ≡ items_not_below (before_end old.keys new) was
  pub last_is : IsLast last (items_below (before_end old.keys new) was)
  pub at_end_is : at_end ≡ unwrap_or new.at_end last.version
  pub filled : (x : Item) (xs : List Item) → was ≡ x ∷ xs → bytes_at old.keys x.key ≢ []
  pub keys : store.keys ≡ old.keys

-- either of them
abbrev pub GivesWritten : Overwrite → Option ℤ → Store → Store → Option ℕ → List Item → List Item → Type 0
GivesWritten new None old store next was now = GivesEntire new old store next was now
GivesWritten new (Some at_end) old store next was now = GivesPart new at_end old store was now

-- What is given goes by the keys, and by what is removed.
pub written_kept : (new : Overwrite) (at_end : Option ℤ) (old between store : Store) (next : Option ℕ) (was now : List Item)
    → KeepsKeys between store → GivesWritten new at_end old between next was now → GivesWritten new at_end old store next was now
written_kept new None old between store next was now keeps given = record {
  first = given.first;
  second = given.second;
  ended = given.ended;
  there = given.there;
  some = given.some;
  puts = subst (λ keys. PutsKeys old.keys keys new.start.now new.end.now given.first (if given.ended then None else Some given.second))
      (sym keeps.keys) given.puts;
  run_is = ap (λ removed. removed.items) keeps.removed ∙ given.run_is;
  ended_is = given.ended_is;
  written = given.written;
}
written_kept new (Some at_end) old between store next was now keeps given = record {
  last = given.last;
  none = given.none;
  run_is = ap (λ removed. removed.items) keeps.removed ∙ given.run_is;
  rest = given.rest;
  last_is = given.last_is;
  at_end_is = given.at_end_is;
  filled = given.filled;
  keys = keeps.keys ∙ given.keys;
}

-- A tree of which a run of items may be written over, and of which the leaf of the last write is right.
pub record CanOverwrite (tree : Tree) (new : Overwrite) : Type 0 where
  pub can_change : CanChangeTree (bound_to new) (CanBeWritten new) tree
  pub raised : IsRaisedInTree tree.store.nodes tree.root.slot tree.root.height tree.raised
