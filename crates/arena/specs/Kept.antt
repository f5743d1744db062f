-- How an arena keeps its slots in chunks. No public clause cites this module.
use Rattle.std.specs.Prelude.{
  ◌≡◌,
  ℕ,
  zero,
  suc,
  ◌+◌,
  ◌*◌,
  ◌/◌,
  ◌%◌,
  ◌<◌,
  ◌≤◌,
  true,
  List,
  [],
  ◌∷◌,
  ◌++◌,
  length,
  nat_eq,
  sum,
  slice_get,
  Option,
  Some,
  None,
  IsSome,
  option_map,
}
use Rattle.std.specs.List.{IsDistinct}
use Rattle.std.specs.Set.{is_member}
use Rattle.std.specs.Option.{option_and_then}
use Rattle.std.specs.FinMap as map
use Rattle.arena.specs.Arena.{Record, Records, size_of}
use Rattle.arena.specs.Entry.{Entry, Free, held}
use Rattle.arena.specs.Chunk.{Chunk}
use Rattle.arena.specs.Spares.{Spare, spare_at, counts_of}
use Rattle.arena.specs.declared.size.TheConstants.{SIZES}
use Rattle.arena.specs.declared.slot.TheConstants.{CHUNK_SLOTS, MAX_CHUNKS}

module _ {H : Type 0} where
  -- A slot is a number: `CHUNK_SLOTS` times that of its chunk, and its index there.
  abbrev pub cell_at : List (Chunk H) → ℕ → Option (Entry (Record H))
  cell_at chunks slot = option_and_then (λ c. slice_get c.cells (slot % CHUNK_SLOTS)) (slice_get chunks (slot / CHUNK_SLOTS))

  -- the size of a slot
  abbrev pub size_at : List (Chunk H) → ℕ → Option ℕ
  size_at chunks slot = option_map (λ c. c.size) (slice_get chunks (slot / CHUNK_SLOTS))

  abbrev pub record_in : List (Chunk H) → ℕ → Option (Record H)
  record_in chunks slot = option_and_then held (cell_at chunks slot)

  -- a slot with its record, if it is live
  abbrev pub entry_of : ℕ → Option (Record H) → List (ℕ × Record H)
  entry_of slot None = []
  entry_of slot (Some r) = (slot, r) ∷ []

  -- the live slots among the first n, with their records
  abbrev pub live_below : List (Chunk H) → ℕ → List (ℕ × Record H)
  live_below chunks zero = []
  live_below chunks (suc slot) = entry_of slot (record_in chunks slot) ++ live_below chunks slot

  abbrev pub records_of : List (Chunk H) → Records H
  records_of chunks = map.from_entries (live_below chunks (CHUNK_SLOTS * length chunks))

  abbrev pub IsFree : List (Chunk H) → ℕ → ℕ → Type 0
  IsFree chunks size slot = (size_at chunks slot ≡ Some size) × (cell_at chunks slot ≡ Some Free)

  -- a slot of the size, free or with a record
  abbrev pub IsOfSize : List (Chunk H) → ℕ → ℕ → Type 0
  IsOfSize chunks size slot = (size_at chunks slot ≡ Some size) × IsSome (cell_at chunks slot)

  -- what is kept of the spare slots of a size
  pub record IsSpare (chunks : List (Chunk H)) (size : ℕ) (s : Spare) : Type 0 where
    pub distinct : IsDistinct nat_eq s.slots
    pub free : (slot : ℕ) → is_member nat_eq s.slots slot ≡ true → IsFree chunks size slot
    -- all slots of the size are in a list that is no longer than the total
    pub all : List ℕ
    pub counted : length all ≤ s.total
    pub covers : (slot : ℕ) → IsOfSize chunks size slot → is_member nat_eq all slot ≡ true
    pub bounded : s.total ≤ CHUNK_SLOTS * length chunks

  -- what an arena keeps
  pub record IsKept (chunks : List (Chunk H)) (spares : List Spare) (live : ℕ) : Type 0 where
    -- slots can name them all
    pub few : length chunks ≤ MAX_CHUNKS
    pub ten : length spares ≡ SIZES
    pub lists : (size : ℕ) → size < SIZES → IsSpare chunks size (spare_at spares size)
    -- each record is in a slot of its key's size
    pub sized : (slot : ℕ) (r : Record H) → record_in chunks slot ≡ Some r
        → size_at chunks slot ≡ Some (size_of (length r.key))
    pub counted : live ≡ map.len (records_of chunks)
    pub bounded : live + sum (counts_of spares) ≤ CHUNK_SLOTS * length chunks
