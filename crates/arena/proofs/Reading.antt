-- What a read of the chunks finds at a live slot.
use Rattle.std.proofs.Common.{
  ◌≡◌,
  ℕ,
  ◌/◌,
  ◌%◌,
  ◌<◌,
  List,
  [],
  length,
  set,
  get_or,
  slice_get,
  Option,
  Some,
  None,
  IsSome,
  option_map,
  unwrap_or,
  refl,
  sym,
  ap,
  ◌∙◌,
}
use Rattle.std.proofs.lemmas.Option.{slice_get_within, slice_get_read}
use Rattle.std.specs.Option.{option_and_then}
use Rattle.std.specs.FinMap as map
use Rattle.arena.specs.Arena.{Record}
use Rattle.arena.specs.Entry.{Entry, Free, Live, held, held_at}
use Rattle.arena.specs.Chunk.{Chunk}
use Rattle.arena.specs.ChunkLends as chunk
use Rattle.arena.specs.Kept.{cell_at, records_of, IsKept}
use Rattle.arena.specs.Spares.{Spare}
use Rattle.arena.proofs.Slots.{Writes, Writes-set}
use Rattle.arena.proofs.Records.{get-records_of, records_of-put}
use Rattle.arena.proofs.Keeping.{IsKept-lent}

module _ {H : Type 0} where
  -- a slot whose record is known has a chunk
  pub in_chunks : (chunks : List (Chunk H)) (slot : ℕ) → IsSome (map.get (records_of chunks) slot)
      → slot / 512 < length chunks
  in_chunks chunks slot live = by_get (slice_get chunks (slot / 512)) refl
    where
      by_get : (o : Option (Chunk H)) → slice_get chunks (slot / 512) ≡ o → slot / 512 < length chunks
      by_get None none =
          let absent = get-records_of chunks slot
          ∙ ap (λ o. option_and_then held
          (option_and_then (λ c. slice_get c.cells (slot % 512)) o)) none in
          cc
      by_get (Some c) found = slice_get_within chunks (slot / 512) c found

  -- the chunk that was read is the slot's
  pub record IsRead (chunks : List (Chunk H)) (slot i : ℕ) (read : Chunk H) : Type 0 where
    pub found : slice_get chunks (slot / 512) ≡ Some read
    pub cell : cell_at chunks slot ≡ slice_get read.cells i
    pub has : map.get (records_of chunks) slot ≡ held_at read.cells i

  pub IsRead-within : (chunks : List (Chunk H)) (slot k i : ℕ) (read : Chunk H) → slot / 512 < length chunks
      → k ≡ slot / 512 → i ≡ slot % 512 → read ≡ get_or chunks k read → IsRead chunks slot i read
  IsRead-within chunks slot k i read within at_chunk at_index is =
      let found : slice_get chunks (slot / 512) ≡ Some read =
      slice_get_read chunks (length chunks) (slot / 512) read refl within (is
      ∙ ap (λ k. get_or chunks k read) at_chunk) in
      let cell : cell_at chunks slot ≡ slice_get read.cells i =
      ap (option_and_then (λ c. slice_get c.cells (slot % 512))) found
      ∙ ap (slice_get read.cells) (sym at_index) in
      record { found = found; cell = cell; has = get-records_of chunks slot ∙ ap (option_and_then held) cell }

  -- what a live slot of a chunk holds
  pub held_cell : (cells : List (Entry (Record H))) (i : ℕ) → IsSome (held_at cells i)
      → (r : Record H) × (slice_get cells i ≡ Some (Live r))
  held_cell cells i live = by_get (slice_get cells i) refl
    where
      by_get : (o : Option (Entry (Record H))) → slice_get cells i ≡ o
          → (r : Record H) × (slice_get cells i ≡ Some (Live r))
      by_get None none = let absent = ap (option_and_then held) none in cc
      by_get (Some Free) found = let absent = ap (option_and_then held) found in cc
      by_get (Some (Live r)) found = (r, found)

  -- the slot's record with another header
  abbrev pub with : Record H → H → Record H
  with r header = record { header = header; key = r.key }

  lent_writes : (chunks : List (Chunk H)) (slot : ℕ) (read : Chunk H) (header : H) (r : Record H)
      → slice_get chunks (slot / 512) ≡ Some read → slice_get read.cells (slot % 512) ≡ Some (Live r)
      → Writes chunks (set chunks (slot / 512) (chunk.with_header read (slot % 512) header)) slot
      (Live (with r header))
  lent_writes chunks slot read header r found holds =
      let key : unwrap_or (option_map (λ r. r.key) (held_at read.cells (slot % 512))) [] ≡ r.key =
      ap (λ o. unwrap_or (option_map (λ r. r.key) (option_and_then held o)) []) holds in
      rw key (Writes-set chunks slot read (Live (with r header)) found
      (slice_get_within read.cells (slot % 512) _ holds))

  -- what a new header of a live slot changes
  pub record Lent (chunks : List (Chunk H)) (slot : ℕ) (read : Chunk H) (header : H) : Type 0 where
    pub old : Record H
    pub was : cell_at chunks slot ≡ Some (Live old)
    pub writes : Writes chunks (set chunks (slot / 512) (chunk.with_header read (slot % 512) header)) slot
        (Live (with old header))

  pub Lent-read : (chunks : List (Chunk H)) (slot : ℕ) (read : Chunk H) (header : H)
      → IsRead chunks slot (slot % 512) read
      → IsSome (map.get (records_of chunks) slot) → Lent chunks slot read header
  Lent-read chunks slot read header is live =
      let holds = held_cell read.cells (slot % 512) (rw is.has at live) in
      record {
        old = holds.0;
        was = is.cell ∙ holds.1;
        writes =
            lent_writes chunks slot read header holds.0 is.found holds.1;
      }

  pub lent_records : (chunks : List (Chunk H)) (slot : ℕ) (read : Chunk H) (header : H)
      → Lent chunks slot read header
      → records_of (set chunks (slot / 512) (chunk.with_header read (slot % 512) header))
      ≡ map.insert (records_of chunks) slot (record {
        header = header;
        key =
            unwrap_or (option_map (λ r. r.key) (map.get (records_of chunks) slot)) [];
      })
  lent_records chunks slot read header lent =
      let key : unwrap_or (option_map (λ r. r.key) (map.get (records_of chunks) slot)) [] ≡ lent.old.key =
      ap (λ o. unwrap_or (option_map (λ r. r.key) o) []) (get-records_of chunks slot
      ∙ ap (option_and_then held) lent.was) in
      rw key (records_of-put chunks _ slot (with lent.old header) lent.writes)

  pub lent_kept : (chunks : List (Chunk H)) (spares : List Spare) (live slot : ℕ) (read : Chunk H) (header : H)
      → IsKept chunks spares live → Lent chunks slot read header
      → IsKept (set chunks (slot / 512) (chunk.with_header read (slot % 512) header)) spares live
  lent_kept chunks spares live slot read header kept lent =
      IsKept-lent chunks _ spares live slot lent.old _ kept lent.was refl lent.writes
