-- The slot that is given, its chunk, and how the counts of spare slots change.
use Rattle.std.proofs.Common.{
  ◌≡◌,
  ◌≢◌,
  ℕ,
  ◌+◌,
  ◌/◌,
  ◌%◌,
  ◌<◌,
  ◌≤◌,
  List,
  [],
  ◌∷◌,
  length,
  set,
  get_or,
  slice_get,
  slice_index,
  Some,
  option_map,
  refl,
  sym,
  ap,
  ◌∙◌,
  arith,
  length-append,
}
use Rattle.std.proofs.lemmas.Option.{slice_get_within}
use Rattle.arena.specs.Arena.{sizes, size_of}
use Rattle.arena.specs.Chunk.{Chunk}
use Rattle.arena.specs.Spares.{Spare, spare_at, counts_of, with_slot, with_chunk}
use Rattle.arena.specs.Kept.{IsFree, IsKept}
use Rattle.arena.specs.Entry.{Free}
use Rattle.arena.proofs.Sizes.{size_fits}
use Rattle.arena.proofs.Lists.{spare_at-set_same, spare_at-set_other, count_of, length-with_row}
use Rattle.arena.proofs.Keeping.{given_free}
use Rattle.arena.proofs.Growing.{in_chunk}
use Rattle.arena.proofs.Reading.{IsRead-within}

count_set : (spares : List Spare) (size : ℕ) (s : Spare) → size < length spares
    → slice_index (counts_of (set spares size s)) size ≡ length s.slots
count_set spares size s within =
    count_of (set spares size s) size ∙ ap (λ x. length x.slots) (spare_at-set_same spares size s within)

-- the count of the size with one more slot
pub spare_more : (spares : List Spare) (size slot : ℕ) → size < length spares
    → slice_index (counts_of (set spares size (with_slot (spare_at spares size) slot))) size
    ≡ slice_index (counts_of spares) size + 1
spare_more spares size slot within =
    count_set spares size (with_slot (spare_at spares size) slot) within
    ∙ length-append (spare_at spares size).slots (slot ∷ []) ∙ ap (λ n. n + 1) (sym (count_of spares size))

-- and with those of a chunk
pub spare_grown : (spares : List Spare) (size first count : ℕ) → size < length spares
    → slice_index (counts_of (set spares size (with_chunk (spare_at spares size) first count))) size
    ≡ slice_index (counts_of spares) size + count
spare_grown spares size first count within =
    count_set spares size (with_chunk (spare_at spares size) first count) within
    ∙ length-with_row (spare_at spares size).slots first count
    ∙ ap (λ n. n + count) (sym (count_of spares size))

-- the other sizes keep theirs
pub spare_same : (spares : List Spare) (size other : ℕ) (s : Spare) → other ≢ size
    → slice_index (counts_of (set spares size s)) other ≡ slice_index (counts_of spares) other
spare_same spares size other s apart =
    count_of (set spares size s) other
    ∙ ap (λ x. length x.slots) (spare_at-set_other spares size other s apart) ∙ sym (count_of spares other)

-- a key that is not too long fits its size
pub key_fits : (size n : ℕ) → size ≡ size_of n → n ≤ 16384 → (size < 10) × (n ≤ slice_index sizes size)
key_fits size n is fits = rw is (size_fits n fits)

module _ {H : Type 0} where
  pub given_slot : (chunks : List (Chunk H)) (before after : List Spare) (live size slot : ℕ)
      → IsKept chunks before live → size < 10 → length after ≡ length before
      → before ≡ set after size (with_slot (spare_at after size) slot) → IsFree chunks size slot
  given_slot chunks before after live size slot kept below count is =
      let within : size < length after = omega (arith, kept.ten) in
      given_free chunks size slot (spare_at after size)
      (rw (← spare_at-set_same after size (with_slot (spare_at after size) slot) within, ← is)
      (kept.lists size below))

  -- the chunk of the slot that is given, as it was read
  pub record IsTop (chunks : List (Chunk H)) (size slot : ℕ) (read : Chunk H) : Type 0 where
    pub found : slice_get chunks (slot / 512) ≡ Some read
    pub own : read.size ≡ size
    pub within : slot % 512 < length read.cells

  pub IsTop-read : (chunks : List (Chunk H)) (size slot k : ℕ) (read : Chunk H)
      → IsFree chunks size slot → k ≡ slot / 512 → read ≡ get_or chunks k read
      → IsTop chunks size slot read
  IsTop-read chunks size slot k read free at_chunk is =
      let here =
      IsRead-within chunks slot k (slot % 512) read
      (in_chunk chunks slot size free.0) at_chunk refl is in
      let its = sym (ap (option_map (λ c. c.size)) here.found) ∙ free.0 in
      record {
        found = here.found;
        own = cc;
        within =
            slice_get_within read.cells (slot % 512) Free (sym here.cell ∙ free.1);
      }
