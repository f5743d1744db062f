-- A chunk, as its lengths, headers and bytes show it.
use Rattle.std.proofs.Common.{◌≡◌, ◌≢◌, ◌==◌, Bool, not, ℕ, ◌+◌, ◌-◌, ◌*◌, ◌<◌, ◌≤◌, List, [], length, set, slice_get, Some, IsSome, is_some, true, false, option_map, unwrap_or, slice_index, refl, sym, ap, ◌∙◌, arith, length-set, zero-mul}
use Rattle.std.proofs.lemmas.Bool.{eqb-false, eqb-true}
use Rattle.std.proofs.lemmas.Option.{slice_get_within}
use Rattle.arena.specs.Arena.{Record, sizes, slots_of}
use Rattle.arena.specs.Entry.{Entry, Free, Live, held_at}
use Rattle.arena.specs.Chunk.{Head, cells_of, entries_of, with_free, made_bytes, bytes_after_key, IsChunk, IsFresh}
use Rattle.arena.proofs.Lengths.{
  length-entries_of,
  found,
  live_found,
  free_found,
  entries_of-filled,
  entries_of-freed,
  entries_of-lent,
}
use Rattle.arena.proofs.Cells.{
  slot_within,
  IsSlot,
  IsSlot-within,
  IsMade-entries,
  record_of,
  live_entry,
  key_within,
  length-made_bytes,
  live_slot,
  none_beyond,
  none_in_free,
  filled,
  freed,
  lent,
  AreEntries-filled,
  AreEntries-freed,
  AreEntries-lent,
  AreEntries-new,
  IsFresh-new,
}

module _ {H : Type 0} where
  -- the slots that these lengths, headers and bytes show
  abbrev pub slots_in : List ℕ → List H → ℕ → ℕ → List ℕ → List (Entry (Record H))
  slots_in ls hs size width bytes = cells_of (with_free (slots_of size) (entries_of ls hs)) width bytes

  -- what is known of a live slot
  pub record IsLive (ls : List ℕ) (hs : List H) (size width : ℕ) (bytes : List ℕ) (i : ℕ) : Type 0 where
    pub head : Head H
    pub entry : slice_get (entries_of ls hs) i ≡ Some (Live head)
    pub cell : slice_get (slots_in ls hs size width bytes) i ≡ Some (Live (record_of head i width bytes))
    pub length_at : slice_get ls i ≡ Some head.length
    pub header_at : slice_get hs i ≡ Some head.header
    pub in_lengths : i < length ls
    pub in_headers : i < length hs

  pub live_at : (ls : List ℕ) (hs : List H) (size width : ℕ) (bytes : List ℕ) (i : ℕ)
      → IsSome (held_at (slots_in ls hs size width bytes) i) → IsLive ls hs size width bytes i
  live_at ls hs size width bytes i live =
      let entry = live_entry (entries_of ls hs) size width bytes i live in
      let both = found ls hs i entry.0 entry.1 in
      record {
        head = entry.0;
        entry = entry.1;
        cell = entry.2;
        length_at = both.0;
        header_at = both.1;
        in_lengths = slice_get_within ls i _ both.0;
        in_headers = slice_get_within hs i _ both.1;
      }

  pub slot_at : (ls : List ℕ) (hs : List H)
      (lengths_capacity headers_capacity bytes_capacity size width : ℕ) (bytes : List ℕ) (i : ℕ)
      → IsChunk ls hs lengths_capacity headers_capacity bytes_capacity size width bytes
      → i < length (slots_in ls hs size width bytes) → IsSlot size width i
  slot_at ls hs lengths_capacity headers_capacity bytes_capacity size width bytes i chunk within =
      IsSlot-within (entries_of ls hs) size width bytes i chunk.entries within

  -- a live slot lies within the bytes that a chunk may have
  pub live_within : (ls : List ℕ) (hs : List H)
      (lengths_capacity headers_capacity bytes_capacity size width : ℕ) (bytes : List ℕ) (i : ℕ)
      → IsChunk ls hs lengths_capacity headers_capacity bytes_capacity size width bytes
      → IsLive ls hs size width bytes i → i * width + width ≤ 16384
  live_within ls hs lengths_capacity headers_capacity bytes_capacity size width bytes i chunk live =
      let few = chunk.entries.few in
      let there = slice_get_within (entries_of ls hs) i _ live.entry in
      slot_within i (slots_of size) width (omega arith) chunk.entries.shared

  -- its key lies within those that it has
  pub key_inside : (ls : List ℕ) (hs : List H)
      (lengths_capacity headers_capacity bytes_capacity size width : ℕ) (bytes : List ℕ) (i : ℕ)
      → IsChunk ls hs lengths_capacity headers_capacity bytes_capacity size width bytes
      → (live : IsLive ls hs size width bytes i) → live.head.length ≤ length bytes - i * width
  key_inside ls hs lengths_capacity headers_capacity bytes_capacity size width bytes i chunk live =
      key_within (entries_of ls hs) size width bytes i live.head chunk.entries live.entry

  -- a key that fits its slot lies within the bytes, once they are made
  pub key_fits : (ls : List ℕ) (hs : List H)
      (lengths_capacity headers_capacity bytes_capacity size width : ℕ) (bytes : List ℕ) (i : ℕ) (key : List ℕ)
      → IsChunk ls hs lengths_capacity headers_capacity bytes_capacity size width bytes → IsSlot size width i
      → length key ≤ slice_index sizes size → i * width + length key ≤ length (made_bytes bytes)
  key_fits ls hs lengths_capacity headers_capacity bytes_capacity size width bytes i key chunk slot fits =
      omega (
        arith,
        slot.bytes,
        chunk.entries.wide,
        length-made_bytes (with_free (slots_of size) (entries_of ls hs)) bytes chunk.entries.room,
      )

  -- lengths and headers that are pushed for free slots change nothing
  pub record AreMade (ls made_ls : List ℕ) (hs made_hs : List H)
      (lengths_capacity headers_capacity bytes_capacity size width : ℕ) (bytes : List ℕ) : Type 0 where
    pub chunk : IsChunk made_ls made_hs lengths_capacity headers_capacity bytes_capacity size width bytes
    pub slots : slots_in made_ls made_hs size width bytes ≡ slots_in ls hs size width bytes

  pub AreMade-slots : (ls made_ls : List ℕ) (hs made_hs : List H)
      (lengths_capacity headers_capacity bytes_capacity more_lengths more_headers more_bytes size width : ℕ)
      (bytes : List ℕ) (i : ℕ)
      → IsChunk ls hs lengths_capacity headers_capacity bytes_capacity size width bytes
      → i < length (slots_in ls hs size width bytes) → length made_hs ≡ length made_ls
      → ((count : ℕ) → i < count
      → with_free count (entries_of made_ls made_hs) ≡ with_free count (entries_of ls hs))
      → ((count : ℕ) → i < count → length ls ≤ count → length made_ls ≤ count)
      → lengths_capacity ≤ more_lengths → headers_capacity ≤ more_headers → bytes_capacity ≤ more_bytes
      → AreMade ls made_ls hs made_hs more_lengths more_headers more_bytes size width bytes
  AreMade-slots ls made_ls hs made_hs lengths_capacity headers_capacity bytes_capacity more_lengths more_headers more_bytes
      size width bytes i chunk within paired free few lengths_more headers_more bytes_more =
      let made =
      IsMade-entries (entries_of ls hs) (entries_of made_ls made_hs) size width bytes i chunk.entries within free
      (λ count below kept. omega (
        arith,
        length-entries_of ls hs chunk.paired,
        length-entries_of made_ls made_hs paired,
        few count below (omega (arith, length-entries_of ls hs chunk.paired)),
      )) in
      record {
        chunk = record {
          paired = paired;
          lengths_room = omega (arith, chunk.lengths_room, lengths_more);
          headers_room = omega (arith, chunk.headers_room, headers_more);
          bytes_room = omega (arith, chunk.bytes_room, bytes_more);
          entries = made.chunk;
        };
        slots = made.cells;
      }

  -- no key is as long as the mark of a free slot
  key_short : (ls : List ℕ) (hs : List H)
      (lengths_capacity headers_capacity bytes_capacity size width : ℕ) (bytes : List ℕ) (n : ℕ)
      → IsChunk ls hs lengths_capacity headers_capacity bytes_capacity size width bytes → 0 < length ls
      → n ≤ slice_index sizes size → n ≢ 65535
  key_short ls hs lengths_capacity headers_capacity bytes_capacity size width bytes n chunk some fits =
      let within : 0 < slots_of size =
      omega (arith, chunk.entries.few, length-entries_of ls hs chunk.paired, some) in
      λ is. omega (
        arith,
        is,
        fits,
        chunk.entries.wide,
        slot_within 0 (slots_of size) width within chunk.entries.shared,
        zero-mul width,
      )

  pub IsChunk-filled : (ls : List ℕ) (hs : List H)
      (lengths_capacity headers_capacity bytes_capacity size width : ℕ) (bytes : List ℕ) (i : ℕ) (header : H) (key : List ℕ)
      → IsChunk ls hs lengths_capacity headers_capacity bytes_capacity size width bytes → i < length ls
      → length key ≤ slice_index sizes size
      → IsChunk (set ls i (length key)) (set hs i header) lengths_capacity headers_capacity bytes_capacity size width
      (bytes_after_key (i * width) key bytes)
  IsChunk-filled ls hs lengths_capacity headers_capacity bytes_capacity size width bytes i header key chunk there fits =
      let other = key_short ls hs _ _ _ size width bytes (length key) chunk (omega (arith, there)) fits in
      record {
        paired = omega (arith, chunk.paired, length-set ls i (length key), length-set hs i header);
        lengths_room = chunk.lengths_room;
        headers_room = chunk.headers_room;
        bytes_room = chunk.bytes_room;
        entries = rw (entries_of-filled ls hs i (length key) header other)
            (AreEntries-filled (entries_of ls hs) size width bytes i header key chunk.entries
            (omega (arith, there, length-entries_of ls hs chunk.paired)) fits);
      }

  -- a slot that is filled has the record
  pub slots_in-filled : (ls : List ℕ) (hs : List H)
      (lengths_capacity headers_capacity bytes_capacity size width : ℕ) (bytes : List ℕ) (i : ℕ) (header : H) (key : List ℕ)
      → IsChunk ls hs lengths_capacity headers_capacity bytes_capacity size width bytes → i < length ls
      → length key ≤ slice_index sizes size
      → slots_in (set ls i (length key)) (set hs i header) size width (bytes_after_key (i * width) key bytes)
      ≡ set (slots_in ls hs size width bytes) i (Live (record { header = header; key = key }))
  slots_in-filled ls hs lengths_capacity headers_capacity bytes_capacity size width bytes i header key chunk there fits =
      let other = key_short ls hs _ _ _ size width bytes (length key) chunk (omega (arith, there)) fits in
      ap (λ es. cells_of (with_free (slots_of size) es) width (bytes_after_key (i * width) key bytes))
      (entries_of-filled ls hs i (length key) header other)
      ∙ filled (entries_of ls hs) size width bytes i header key chunk.entries
      (omega (arith, there, length-entries_of ls hs chunk.paired)) fits

  pub IsChunk-freed : (ls : List ℕ) (hs : List H)
      (lengths_capacity headers_capacity bytes_capacity size width : ℕ) (bytes : List ℕ) (i : ℕ)
      → IsChunk ls hs lengths_capacity headers_capacity bytes_capacity size width bytes → i < length ls
      → IsChunk (set ls i 65535) hs lengths_capacity headers_capacity bytes_capacity size width bytes
  IsChunk-freed ls hs lengths_capacity headers_capacity bytes_capacity size width bytes i chunk there = record {
    paired = omega (arith, chunk.paired, length-set ls i 65535);
    lengths_room = chunk.lengths_room;
    headers_room = chunk.headers_room;
    bytes_room = chunk.bytes_room;
    entries = rw (entries_of-freed ls hs i) (AreEntries-freed (entries_of ls hs) size width bytes i chunk.entries
        (omega (arith, there, length-entries_of ls hs chunk.paired)));
  }

  -- a slot that is freed is free
  pub slots_in-freed : (ls : List ℕ) (hs : List H) (size width : ℕ) (bytes : List ℕ) (i : ℕ)
      → length hs ≡ length ls → i < length ls
      → slots_in (set ls i 65535) hs size width bytes ≡ set (slots_in ls hs size width bytes) i Free
  slots_in-freed ls hs size width bytes i paired there =
      ap (λ es. cells_of (with_free (slots_of size) es) width bytes) (entries_of-freed ls hs i)
      ∙ freed (slots_of size) (entries_of ls hs) width bytes i (omega (arith, there, length-entries_of ls hs paired))

  pub IsChunk-lent : (ls : List ℕ) (hs : List H)
      (lengths_capacity headers_capacity bytes_capacity size width : ℕ) (bytes : List ℕ) (i : ℕ) (header : H)
      → IsChunk ls hs lengths_capacity headers_capacity bytes_capacity size width bytes → IsLive ls hs size width bytes i
      → IsChunk ls (set hs i header) lengths_capacity headers_capacity bytes_capacity size width bytes
  IsChunk-lent ls hs lengths_capacity headers_capacity bytes_capacity size width bytes i header chunk live = record {
    paired = omega (arith, chunk.paired, length-set hs i header);
    lengths_room = chunk.lengths_room;
    headers_room = chunk.headers_room;
    bytes_room = chunk.bytes_room;
    entries = rw (entries_of-lent ls hs i live.head header live.entry)
        (AreEntries-lent (entries_of ls hs) size width bytes i live.head header chunk.entries live.entry);
  }

  -- a live slot with another header keeps its key
  pub slots_in-lent : (ls : List ℕ) (hs : List H) (size width : ℕ) (bytes : List ℕ) (i : ℕ) (header : H)
      → IsLive ls hs size width bytes i
      → slots_in ls (set hs i header) size width bytes
      ≡ set (slots_in ls hs size width bytes) i
      (Live (record {
        header = header;
        key = unwrap_or (option_map (λ r. r.key) (held_at (slots_in ls hs size width bytes) i)) [];
      }))
  slots_in-lent ls hs size width bytes i header live =
      ap (λ es. cells_of (with_free (slots_of size) es) width bytes)
      (entries_of-lent ls hs i live.head header live.entry)
      ∙ lent (slots_of size) (entries_of ls hs) width bytes i live.head header live.entry live.cell

  pub IsChunk-new : (ls : List ℕ) (hs : List H) (lengths_capacity headers_capacity bytes_capacity size width : ℕ) (bytes : List ℕ)
      → ls ≡ [] → hs ≡ [] → size < 10 → width ≡ slice_index sizes size
      → slots_of size ≤ lengths_capacity → slots_of size ≤ headers_capacity → 16384 ≤ bytes_capacity
      → slots_of size * width ≡ 16384 → bytes ≡ []
      → IsChunk ls hs lengths_capacity headers_capacity bytes_capacity size width bytes
  IsChunk-new ls hs lengths_capacity headers_capacity bytes_capacity size width bytes no_lengths no_headers sized wide
      lengths_room headers_room bytes_room shared no_bytes =
      record {
        paired = rw (no_lengths, no_headers) refl;
        lengths_room = lengths_room;
        headers_room = headers_room;
        bytes_room = bytes_room;
        entries =
            AreEntries-new (entries_of ls hs) size width bytes (rw no_lengths refl) sized wide shared no_bytes;
      }

  pub IsFresh-slots : (ls : List ℕ) (hs : List H) (size width : ℕ) (bytes : List ℕ) → ls ≡ []
      → IsFresh (slots_in ls hs size width bytes) (slots_of size)
  IsFresh-slots ls hs size width bytes none = IsFresh-new (entries_of ls hs) width bytes (slots_of size) (rw none refl)

  is_live-by : (free : Bool) (ls : List ℕ) (hs : List H) (size width : ℕ) (bytes : List ℕ) (i n : ℕ)
      → ((n == 65535) ≡ free) → length hs ≡ length ls → slice_get ls i ≡ Some n
      → not free ≡ is_some (held_at (slots_in ls hs size width bytes) i)
  is_live-by true ls hs size width bytes i n marked paired is =
      sym (none_in_free (slots_of size) (entries_of ls hs) width bytes i
      (free_found ls hs i paired (is ∙ ap Some (eqb-true n 65535 marked))))
  is_live-by false ls hs size width bytes i n marked paired is =
      let entry = live_found ls hs i n paired is (eqb-false n 65535 marked) in
      sym (live_slot (slots_of size) (entries_of ls hs) width bytes i entry.0 entry.1)

  -- a slot with a length is live, unless that is the mark of a free one
  pub is_live-length : (ls : List ℕ) (hs : List H) (size width : ℕ) (bytes : List ℕ) (i n : ℕ)
      → length hs ≡ length ls → slice_get ls i ≡ Some n
      → not (n == 65535) ≡ is_some (held_at (slots_in ls hs size width bytes) i)
  is_live-length ls hs size width bytes i n paired is =
      is_live-by (n == 65535) ls hs size width bytes i n refl paired is

  -- after the lengths no slot is live
  pub none_after : (ls : List ℕ) (hs : List H) (size width : ℕ) (bytes : List ℕ) (i : ℕ)
      → length hs ≡ length ls → length ls ≤ i
      → is_some (held_at (slots_in ls hs size width bytes) i) ≡ false
  none_after ls hs size width bytes i paired following =
      none_beyond (slots_of size) (entries_of ls hs) width bytes i
      (omega (arith, following, length-entries_of ls hs paired))
