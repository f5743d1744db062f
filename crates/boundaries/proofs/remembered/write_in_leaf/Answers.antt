use Rattle.std.proofs.Common.{◌≡◌, ◌∙◌, inl, ap, sym, [], None, ◌++◌, ◌∷◌, length, length-append, take, drop, map, arith, unwrap_or}
use Rattle.std.proofs.lemmas.Int.{ints}
use Rattle.std.proofs.lemmas.List.{length-drop, length-map, length-take-le}
use Rattle.boundaries.specs.declared.node.Node.{Node}
use Rattle.boundaries.specs.EntryRun.{IsFoundRun, IsRunWritten}
use Rattle.boundaries.specs.Item.{item_of}
use Rattle.boundaries.specs.Items.{ended_by}
use Rattle.boundaries.specs.Node.{entries_of}
use Rattle.boundaries.specs.Overwrite.{before_end, before_start}
use Rattle.boundaries.specs.Path.{IsPartitioned}
use Rattle.boundaries.specs.Subtree.{entries_at}
use Rattle.boundaries.proofs.Leaves.{entries_of_partitioned}
use Rattle.boundaries.proofs.Placing.{entries_from_header}
use Rattle.boundaries.proofs.RunWritten.{entire_run, last_entry}
use Rattle.boundaries.proofs.WrittenLeaf.{none_if, some_item, items_parted, ended_in_leaf}
use Rattle.boundaries.proofs.remembered.write_in_leaf.Goals.{In-Some, After-write_run}
use Rattle.boundaries.proofs.remembered.write_in_leaf.Goals as goal

-- the leaf, and the run in it
module _ (c : In-Some) where
  open c use {args.{store.{now as store}, leaf.{slot}, new.{now as new}}, requires.{can_write}, in-Some.{run' as run}}

  abbrev found : IsFoundRun store slot new run
  found = c.in-Some.ensures.run

  abbrev node : Node
  node = found.run_is.leaf

  read : entries_at store.nodes slot ≡ entries_of node
  read = entries_from_header store.nodes slot node found.run_is.there

  from : IsPartitioned (λ e. before_start store.keys new e.key) (entries_of node)
  from = rw read at (entries_of_partitioned (before_start store.keys new) (entries_at store.nodes slot) can_write.from)

  to : IsPartitioned (λ e. before_end store.keys new e.key) (entries_of node)
  to = rw read at (entries_of_partitioned (before_end store.keys new) (entries_at store.nodes slot) can_write.to)

pub write_run-requires : goal.write_run-requires
write_run-requires c =
    let can = c.requires.can_write in record {
      can_write = record {
        sound = can.sound;
        room = can.room;
        key_room = can.key_room;
        run_is = c.in-Some.ensures.run.run_is;
        none_removed = can.none_removed;
      };
    }

-- There is room for what is put in.
fits : (c : After-write_run) → c.write_run.result ≡ None
fits c =
    let h = (goal.at.After-write_run c).In-Some in
    let found = c.in-Some.ensures.run in
    let is = found.run_is.run_is in
    c.write_run.ensures.fits (omega (arith, found.fits, is.ordered, is.end.within, ap length (read h)))

written : (c : After-write_run)
    → IsRunWritten c.args.store.now c.write_run.new.store c.args.leaf.slot c.args.new.now c.in-Some.run' None
written c = rw (fits c) at c.write_run.ensures.written

pub returns-in-Some : goal.returns-in-Some
returns-in-Some c =
    let t = goal.at.returns-in-Some c in
    let h = t.In-Some in
    let old = c.args.store.now in
    let now = c.write_run.new.store in
    let slot = c.args.leaf.slot in
    let new = c.args.new.now in
    let run = c.in-Some.run' in
    let found = c.in-Some.ensures.run in
    let is = found.run_is.run_is in
    let es = entries_of (node h) in
    let read = read h in
    let w = written t.After-write_run in
    let within = rw read at found.some_after in
    let last = last_entry es run.end is.some is.end.within in
    let items = (rw read at w.items) last.last (last.front, last.is) in
    let second = ended_by run.ended (record { key = w.second; version = unwrap_or new.at_end last.last.version }) in
    record {
      written = record {
        version = grind (arith, ints, c.if-new-leaf.false);
        given_none = none_if new.at_end (sym c.is_some.ensures ∙ c.if-is_some.false);
        some_before = rw read (some_item (before_start old.keys new) es run.begin found.some_before is.begin.count_is);
        some_after = λ none. absurd (omega (
          arith,
          within,
          length-drop run.end es,
          length-map (drop run.end es) item_of,
          ap length (sym (items_parted (before_end old.keys new) es run.end (to h) is.end.count_is).1 ∙ (rw read at none)),
        ));
        gives = λ next. rw read (entire_run old now new (node h) run is (from h) (to h) w.first w.second next _ (inl found.some_before)
            w.puts (rw read at w.removed) (ended_in_leaf _ es run.end next run.ended within (rw read at found.ended)) (rw read at w.items));
        filled = omega (
          arith,
          rw read at found.filled,
          is.ordered,
          is.end.within,
          ap length items,
          length-map (take run.begin es) item_of,
          length-take-le run.begin es is.begin.within,
          length-map (drop run.end es) item_of,
          length-drop run.end es,
          length-map (entries_at now.nodes slot) item_of,
          length-append (map item_of (take run.begin es)) (record { key = w.first; version = new.version } ∷ second ++ map item_of (drop run.end es)),
          length-append second (map item_of (drop run.end es)),
        );
        stored = rw (fits t.After-write_run) at c.write_run.ensures.stored;
        keys = c.write_run.ensures.keys;
      };
    }
