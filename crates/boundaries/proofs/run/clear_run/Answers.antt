use Rattle.std.proofs.Common.{rules, ◌≡◌, ◌-◌, ◌∙◌, ap, refl, sym, length, length-take, get_or, w64, to_z, of_z, arith}
use Rattle.std.proofs.lemmas.Int.{to_z-of_z}
use Rattle.arena.specs.Arena.{with_header}
use Rattle.boundaries.specs.declared.entry.NodeEntry.{NodeEntry}
use Rattle.boundaries.specs.Subtree.{entries_at}
use Rattle.boundaries.proofs.ChangedLeaf.{put_stored_in}
use Rattle.boundaries.proofs.Headed.{headed_at}
use Rattle.boundaries.proofs.Placing.{entries_from_header, put_entries}
use Rattle.boundaries.proofs.Removing.{last_of_first}
use Rattle.boundaries.proofs.run.clear_run.Goals.{After-entries-entries}
use Rattle.boundaries.proofs.run.clear_run.Goals as goal

read : (c : After-entries-entries) → entries_at c.args.store.now.nodes c.args.slot ≡ c.entries-entries.result.now
read c = entries_from_header c.args.store.now.nodes c.args.slot _ c.header_ref.ensures.header ∙ sym c.entries-entries.ensures.entries

pub put_removed-requires : goal.put_removed-requires
put_removed-requires c =
    rw c.requires.can_clear.none_removed
    (omega (arith, length-take c.args.end c.entries-entries.result.now, c.entries-entries.ensures.most, ap length c.entries-entries.ensures.entries))

pub remove-requires : goal.remove-requires
remove-requires c =
    let there = entries_from_header c.args.store.now.nodes c.args.slot _ c.header_mut.ensures.header in
    search (rules, rw there at c.requires.can_clear.within)

pub returns : goal.returns
returns c =
    let at = (goal.at.returns c).After-entries-entries in
    let old = c.args.store.now.nodes in
    let slot = c.args.slot in
    let can = c.requires.can_clear in
    let es = c.entries-entries.result.now in
    let e = c.index-entries-end.result in
    let node = c.remove.new.self in
    let there = entries_from_header old slot _ c.header_mut.ensures.header in
    let put = put_entries old (with_header old slot node) slot node refl in
    let headed = c.remove.ensures.headed _ (headed_at _ old slot _ can.sound.headed c.header_mut.ensures.header) in
    let own_is : e ≡ get_or es (c.args.end - 1) e = c.index-entries-end.is in
    let value : to_z w64 (of_z w64 (get_or es (c.args.end - 1) e).version) ≡ e.version =
    ap (λ (x : NodeEntry). to_z w64 (of_z w64 x.version)) (sym own_is) ∙ to_z-of_z w64 e.version (search rules) in
    record {
      cleared = record {
        entries = put ∙ (rw (← there) at c.remove.ensures.entries);
        removed = rw (can.none_removed, ← read at) at c.put_removed.ensures.removed;
        last_is = rw (read at, value) (last_of_first es c.args.end e can.some (rw (read at) at can.within) own_is);
        stored = put_stored_in slot node refl refl can.live can.sound headed;
        keys = refl;
      };
    }
