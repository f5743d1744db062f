-- What a release changes.
use Rattle.std.proofs.Common.{◌≡◌, ℕ, ◌-◌, ◌/◌, ◌%◌, ◌<◌, List, length, set, get_or, slice_get, Some, IsSome, IfSome, option_map, refl, sym, ap, subst, ◌∙◌}
use Rattle.std.proofs.lemmas.Option.{slice_get_within}
use Rattle.std.specs.Option.{option_and_then}
use Rattle.std.specs.FinMap as map
use Rattle.arena.specs.Arena.{Record, size_of}
use Rattle.arena.specs.Entry.{Free, Live, held}
use Rattle.arena.specs.Chunk.{Chunk}
use Rattle.arena.specs.Spares.{Spare, spare_at, with_slot}
use Rattle.arena.specs.Kept.{cell_at, size_at, records_of, IsKept}
use Rattle.arena.proofs.Slots.{Writes-set, with_cell}
use Rattle.arena.proofs.Records.{get-records_of, records_of-freed}
use Rattle.arena.proofs.Keeping.{IsKept-freed, room_for}
use Rattle.arena.proofs.Reading.{in_chunks, IsRead-within, held_cell}

module _ {H : Type 0} where
  -- the chunk of a slot that is to be released, as it was read
  pub record IsReleased (chunks : List (Chunk H)) (slot : ℕ) (read : Chunk H) : Type 0 where
    pub record_is : Record H
    pub found : slice_get chunks (slot / 512) ≡ Some read
    pub was : cell_at chunks slot ≡ Some (Live record_is)
    pub within : slot % 512 < length read.cells
    pub own : size_at chunks slot ≡ Some read.size

  pub IsReleased-read : (chunks : List (Chunk H)) (slot k : ℕ) (read : Chunk H)
      → IsSome (map.get (records_of chunks) slot) → k ≡ slot / 512 → read ≡ get_or chunks k read
      → IsReleased chunks slot read
  IsReleased-read chunks slot k read live at_chunk is =
      let here =
      IsRead-within chunks slot k (slot % 512) read (in_chunks chunks slot live) at_chunk refl is in
      let holds = held_cell read.cells (slot % 512) (rw here.has at live) in
      record {
        record_is = holds.0;
        found = here.found;
        was = here.cell ∙ holds.1;
        within = slice_get_within read.cells (slot % 512) _ holds.1;
        own = ap (option_map (λ c. c.size)) here.found;
      }

  pub released_room : (chunks : List (Chunk H)) (spares : List Spare) (live size slot : ℕ) (read : Chunk H)
      → IsKept chunks spares live → IsReleased chunks slot read → size < 10 → size ≡ read.size
      → length (spare_at spares size).slots < (spare_at spares size).total
  released_room chunks spares live size slot read kept out below its =
      room_for chunks slot out.record_is out.was size (out.own ∙ ap Some (sym its)) (spare_at spares size)
      (kept.lists size below)

  pub released_kept : (chunks : List (Chunk H)) (spares : List Spare) (live size slot : ℕ) (read : Chunk H)
      → IsKept chunks spares live → IsReleased chunks slot read → size < 10 → size ≡ read.size
      → IsKept (set chunks (slot / 512) (with_cell read (slot % 512) Free))
      (set spares size (with_slot (spare_at spares size) slot)) (live - 1)
  released_kept chunks spares live size slot read kept out below its =
      IsKept-freed chunks _ spares live size slot out.record_is kept below out.was (out.own
      ∙ ap Some (sym its)) (Writes-set chunks slot read Free out.found out.within)

  pub released_records : (chunks : List (Chunk H)) (slot : ℕ) (read : Chunk H)
      → IsReleased chunks slot read
      → records_of (set chunks (slot / 512) (with_cell read (slot % 512) Free))
      ≡ map.remove (records_of chunks) slot
  released_records chunks slot read out =
      records_of-freed chunks _ slot (Writes-set chunks slot read Free out.found out.within)

  -- the key that was there is of the chunk's size
  pub released_key : (chunks : List (Chunk H)) (spares : List Spare) (live size slot : ℕ) (read : Chunk H)
      (P : ℕ → Type 0)
      → IsKept chunks spares live → IsReleased chunks slot read → size ≡ read.size → P size
      → IfSome (option_map (λ r. r.key) (map.get (records_of chunks) slot)) (λ key. P (size_of (length key)))
  released_key chunks spares live size slot read P kept out its holds =
      let key : option_map (λ r. r.key) (map.get (records_of chunks) slot) ≡ Some out.record_is.key =
      ap (option_map (λ r. r.key)) (get-records_of chunks slot ∙ ap (option_and_then held) out.was) in
      let its_size = kept.sized slot out.record_is (ap (option_and_then held) out.was) in
      let own = out.own in
      let same : size ≡ size_of (length out.record_is.key) = cc in
      subst (λ o. IfSome o (λ key. P (size_of (length key)))) (sym key) (subst P same holds)
