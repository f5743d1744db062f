-- The items of a leaf of which a run is written over, or its first items are removed.
use Rattle.std.proofs.Common.{◌≡◌, ◌≢◌, ◌⊎◌, inl, inr, ℕ, ℤ, ◌+◌, ◌-◌, ◌<◌, ◌≤◌, if◌then◌else◌, List, [], ◌∷◌, ◌++◌, Option, None, Some, length, slice_get, take, drop, map, unwrap_or, refl, sym, ap, ◌∙◌, arith}
use Rattle.std.specs.Prelude.{slice_range}
use Rattle.std.proofs.lemmas.List.{drop-take, length-take-le, map-append, same_from_push}
use mathlib.Core.List.{map-map}
use Rattle.boundaries.specs.declared.entry.NodeEntry.{NodeEntry}
use Rattle.boundaries.specs.declared.node.Node.{Node}
use Rattle.boundaries.specs.declared.overwrite.Overwrite.{Overwrite}
use Rattle.boundaries.specs.declared.run.EntryRun.{EntryRun}
use Rattle.boundaries.specs.declared.store.Store.{Store}
use Rattle.boundaries.specs.Bound.{bytes_at}
use Rattle.boundaries.specs.Children.{entries_at_both, items_with}
use Rattle.boundaries.specs.EntryRun.{IsRun}
use Rattle.boundaries.specs.Item.{Item, item_of, key_of, version_of}
use Rattle.boundaries.specs.Items.{IsLast, ended_by}
use Rattle.boundaries.specs.Node.{entries_of, keys_of}
use Rattle.boundaries.specs.Overwrite.{GivesEntire, GivesPart, before_end, before_start, first_is_below, up_to_end}
use Rattle.boundaries.specs.Path.{IsPartitioned, first_key}
use Rattle.boundaries.specs.Store.{PutsKeys}
use Rattle.arena.specs.Arena.{Arena}
use Rattle.boundaries.proofs.Inserting.{Ended, ended_some}
use Rattle.boundaries.proofs.Nested.{start_before_end}
use Rattle.boundaries.proofs.WrittenLeaf.{some_item, items_parted, between_entries}

-- the items of a node and of its right neighbour, if any, are those of their entries
pub items_with_entries : (nodes : Arena Node) (slot : ℕ) (added : Option ℕ)
    → items_with nodes 0 slot added ≡ map item_of (entries_at_both nodes slot added)
items_with_entries nodes slot None = refl
items_with_entries nodes slot (Some s) = sym (map-append item_of _ _)

-- the keys of entries are those of their items
pub keys_of_items : (es : List NodeEntry) → map key_of (map item_of es) ≡ keys_of es
keys_of_items es = map-map key_of item_of es

-- the keys that are removed
pub keys_removed : {out : List NodeEntry} (es : List NodeEntry) (begin end : ℕ) → out ≡ es → begin ≤ end
    → keys_of (slice_range out begin end) ≡ keys_of (drop begin (take end es))
keys_removed es begin end same in_order =
    let all : begin + (end - begin) ≡ end = omega arith in
    rw (same, ← drop-take begin (end - begin) es, all) refl

-- the first of some entries, and its item
pub record FirstItem (es : List NodeEntry) : Type 0 where
  pub entry : NodeEntry
  pub there : slice_get es 0 ≡ Some entry
  pub items : map item_of es ≡ item_of entry ∷ map item_of (drop 1 es)

pub first_item : (es : List NodeEntry) → 0 < length es → FirstItem es
first_item [] some = absurd (omega arith)
first_item (e ∷ es) some = record { entry = e; there = refl; items = refl }

-- the version of the last of some entries
pub version_of_last : (xs : List NodeEntry) (last : NodeEntry) (v : ℤ) → IsLast last xs → IsLast v (map version_of xs) → v ≡ last.version
version_of_last xs last v is versions =
    let own = ap (map version_of) is.1 ∙ map-append version_of is.0 (last ∷ []) in
    sym (same_from_push (map version_of is.0) versions.0 last.version v (sym own ∙ versions.1)).1

module _ (es : List NodeEntry) (end : ℕ) (some : 0 < end) (within : end ≤ length es) where
  -- the last entry before an index
  pub last_entry : Ended (take end es)
  last_entry = ended_some (take end es) (λ none. absurd (omega (arith, ap length none, length-take-le end es within)))

  -- its item is the last of their items
  pub last_item : IsLast (item_of last_entry.last) (map item_of (take end es))
  last_item = (
    map item_of last_entry.front,
    ap (map item_of) last_entry.is ∙ map-append item_of last_entry.front (last_entry.last ∷ []),
  )

  -- There is just one.
  pub same_last : (x : Item) → IsLast x (map item_of (take end es)) → item_of last_entry.last ≡ x
  same_last x is = (same_from_push last_item.0 is.0 (item_of last_entry.last) x (sym last_item.1 ∙ is.1)).1

  pub same_version : (v : ℤ) → IsLast v (map version_of (take end es)) → v ≡ last_entry.last.version
  same_version v = version_of_last (take end es) last_entry.last v (last_entry.front, last_entry.is)

module _ (old new : Store) (o : Overwrite) (leaf : Node) (run : EntryRun) (is : IsRun old.keys leaf o run)
    (from : IsPartitioned (λ e. before_start old.keys o e.key) (entries_of leaf))
    (to : IsPartitioned (λ e. before_end old.keys o e.key) (entries_of leaf)) where
  abbrev es : List NodeEntry
  es = entries_of leaf

  -- What stands between the bounds is removed, and the new items come in its place.
  pub entire_run : (first second : ℕ) (next : Option ℕ) (now : List Item)
      → (1 ≤ run.begin) ⊎ ((x : Item) × (xs : List Item) × (map item_of es ≡ x ∷ xs) × (bytes_at old.keys x.key ≡ []))
      → PutsKeys old.keys new.keys o.start.now o.end.now first (if run.ended then None else Some second)
      → new.removed.items ≡ keys_of (drop run.begin (take run.end es))
      → run.ended ≡ first_is_below (up_to_end old.keys o) (first_key next (map item_of (drop run.end es)))
      → ((last : NodeEntry) → IsLast last (take run.end es) → now ≡ map item_of (take run.begin es)
      ++ (record { key = first; version = o.version }
      ∷ ended_by run.ended (record { key = second; version = unwrap_or o.at_end last.version }) ++ map item_of (drop run.end es)))
      → GivesEntire o old new next (map item_of es) now
  entire_run first second next now entered puts removed answered now_is =
      let p = before_start old.keys o in
      let q = before_end old.keys o in
      let begins = is.begin.count_is in
      let ends = is.end.count_is in
      let front = items_parted p es run.begin from begins in
      let back = items_parted q es run.end to ends in
      let last = last_entry es run.end is.some is.end.within in
      record {
        first = first;
        second = second;
        ended = run.ended;
        there = elim entered [ inl in_leaf ↦ inl (some_item p es run.begin in_leaf begins) | inr empty ↦ inr empty ];
        some = some_item q es run.end is.some ends;
        puts = puts;
        run_is = removed ∙ sym (keys_of_items (drop run.begin (take run.end es)))
            ∙ sym (ap (map key_of) (between_entries p q (start_before_end old.keys o) es run.begin run.end from to is.begin.within begins ends));
        ended_is = answered ∙ sym (ap (λ xs. first_is_below (up_to_end old.keys o) (first_key next xs)) back.1);
        written = λ x is_last.
            let same = same_last es run.end is.some is.end.within x (rw back.0 at is_last) in
            rw (← ap (λ (y : Item). y.version) same, front.0, back.1) (now_is last.last (last.front, last.is));
      }

  -- Where the run begins the leaf, what the leaf has of it is removed.
  pub part_run : (at_end version : ℤ) (now : List Item) → run.begin ≡ 0 → new.removed.items ≡ keys_of (take run.end es)
      → now ≡ map item_of (drop run.end es) → IsLast version (map version_of (take run.end es))
      → at_end ≡ unwrap_or o.at_end version
      → ((x : Item) (xs : List Item) → map item_of es ≡ x ∷ xs → bytes_at old.keys x.key ≢ []) → new.keys ≡ old.keys
      → GivesPart o at_end old new (map item_of es) now
  part_run at_end version now none removed now_is last_is at_end_is filled keys =
      let p = before_start old.keys o in
      let q = before_end old.keys o in
      let back = items_parted q es run.end to is.end.count_is in
      let last = last_entry es run.end is.some is.end.within in
      let own = last_item es run.end is.some is.end.within in
      record {
        last = item_of last.last;
        none = (items_parted p es 0 from (sym none ∙ is.begin.count_is)).0;
        run_is = removed ∙ sym (keys_of_items (take run.end es)) ∙ sym (ap (map key_of) back.0);
        rest = now_is ∙ sym back.1;
        last_is = (own.0, back.0 ∙ own.1);
        at_end_is = at_end_is ∙ ap (unwrap_or o.at_end) (same_version es run.end is.some is.end.within version last_is);
        filled = filled;
        keys = keys;
      }
