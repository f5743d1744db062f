-- The slots of a chunk, as its entries and bytes show them.
use Rattle.std.proofs.Common.{◌≡◌, inl, inr, ℕ, zero, suc, ◌+◌, ◌-◌, ◌*◌, ◌<◌, ◌≤◌, List, [], ◌∷◌, ◌++◌, length, take, drop, set, slice_get, Some, IsSome, is_some, false, option_map, unwrap_or, slice_index, refl, sym, ap, ◌∙◌, add_assoc, zero-mul, mul-le-mul_right, arith, length-drop, length-append, length-set}
use Rattle.std.proofs.Math.Path.{ap₂}
use Rattle.std.proofs.lemmas.List.{
  drop-drop,
  take-append-le,
  take-take,
  take_at,
  drop-append-le,
  drop-take,
  length-take-le,
  length-replicate,
}
use Rattle.std.proofs.lemmas.Option.{slice_get_within}
use Rattle.std.proofs.lemmas.Slice.{drop-append-drop}
use Rattle.std.specs.Option.{option_and_then}
use Rattle.arena.specs.Arena.{Record, sizes, slots_of}
use Rattle.arena.specs.Entry.{Entry, Free, Live, held, held_at, IsFree}
use Rattle.arena.specs.Chunk.{Head, cell_of, cells_of, with_free, with_key, made_bytes, bytes_after_key, Fits, AllFit, HasBytes, AreEntries, IsFresh}
use Rattle.arena.proofs.Entries.{length-with_free, with_free-set, with_free-there, with_free-live, with_free-beyond}

next_slot : (i width : ℕ) → width + i * width ≡ suc i * width
next_slot i width = grind arith

-- a slot lies within the bytes
pub slot_within : (i n width : ℕ) → i < n → n * width ≡ 16384 → i * width + width ≤ 16384
slot_within i n width below shared =
    omega (arith, mul-le-mul_right {m = suc i} {n = n} width below, next_slot i width)

-- what holds of a slot
pub record IsSlot (size width i : ℕ) : Type 0 where
  pub index : i < slots_of size
  pub bytes : i * width + width ≤ 16384

length-with_key : (from : ℕ) (key bytes : List ℕ) → from + length key ≤ length bytes
    → length (with_key from key bytes) ≡ length bytes
length-with_key from key bytes room =
    omega (
      arith,
      length-append (take from bytes) (key ++ drop (from + length key) bytes),
      length-append key (drop (from + length key) bytes),
      length-take-le from bytes (omega arith),
      length-drop (from + length key) bytes,
    )

-- what lies before the key stays
take-with_key : (n from : ℕ) (key bytes : List ℕ) → n ≤ from → from ≤ length bytes
    → take n (with_key from key bytes) ≡ take n bytes
take-with_key n from key bytes below room =
    take-append-le n (take from bytes) _ (omega (arith, length-take-le from bytes room))
    ∙ take-take n from bytes below

drop-with_key : (n m : ℕ) (key bytes : List ℕ) → n + m ≤ length bytes
    → drop n (with_key (n + m) key bytes) ≡ with_key m key (drop n bytes)
drop-with_key n m key bytes room =
    drop-append-le n (take (n + m) bytes) _ (omega (arith, length-take-le (n + m) bytes room))
    ∙ ap (λ xs. xs ++ (key ++ drop (n + m + length key) bytes)) (drop-take n m bytes)
    ∙ ap (λ xs. take m (drop n bytes) ++ (key ++ xs)) (ap (λ k. drop k bytes) (add_assoc n m (length key))
    ∙ sym (drop-drop (m + length key) n bytes))

take_none : (n : ℕ) (bytes other : List ℕ) → n ≤ 0 → take n bytes ≡ take n other
take_none zero bytes other none = refl
take_none (suc n) bytes other none = absurd (omega arith)

module _ {H : Type 0} where
  pub length-cells_of : (es : List (Entry (Head H))) (width : ℕ) (bytes : List ℕ)
      → length (cells_of es width bytes) ≡ length es
  length-cells_of [] width bytes = refl
  length-cells_of (e ∷ es) width bytes = ap suc (length-cells_of es width (drop width bytes))

  -- the record of a live entry
  abbrev pub record_of : Head H → ℕ → ℕ → List ℕ → Record H
  record_of head i width bytes =
      record { header = head.header; key = take head.length (drop (i * width) bytes) }

  live_in : (es : List (Entry (Head H))) (width : ℕ) (bytes : List ℕ) (i : ℕ)
      → IsSome (held_at (cells_of es width bytes) i)
      → (head : Head H) × (slice_get es i ≡ Some (Live head))
      × (slice_get (cells_of es width bytes) i ≡ Some (Live (record_of head i width bytes)))
  live_in [] width bytes i live = cc
  live_in (Free ∷ es) width bytes zero live = cc
  live_in (Live h ∷ es) width bytes zero live = (
    h,
    refl,
    ap (λ n. Some (Live (record { header = h.header; key = take h.length (drop n bytes) })))
        (sym (zero-mul width)),
  )
  live_in (e ∷ es) width bytes (suc i) live =
      let later = live_in es width (drop width bytes) i live in (
        later.0,
        later.1,
        later.2
            ∙ ap (λ bs. Some (Live (record { header = later.0.header; key = take later.0.length bs })))
            (drop-drop (i * width) width bytes ∙ ap (λ n. drop n bytes) (next_slot i width)),
      )

  -- a live slot has an entry
  pub live_entry : (es : List (Entry (Head H))) (size width : ℕ) (bytes : List ℕ) (i : ℕ)
      → IsSome (held_at (cells_of (with_free (slots_of size) es) width bytes) i)
      → (head : Head H) × (slice_get es i ≡ Some (Live head))
      × (slice_get (cells_of (with_free (slots_of size) es) width bytes) i ≡ Some (Live (record_of head i width bytes)))
  live_entry es size width bytes i live =
      let found = live_in (with_free (slots_of size) es) width bytes i live in
      (found.0, with_free-live (slots_of size) es i found.0 found.1, found.2)

  cells_of-freed : (es : List (Entry (Head H))) (width : ℕ) (bytes : List ℕ) (i : ℕ)
      → cells_of (set es i Free) width bytes ≡ set (cells_of es width bytes) i Free
  cells_of-freed [] width bytes i = refl
  cells_of-freed (e ∷ es) width bytes zero = refl
  cells_of-freed (e ∷ es) width bytes (suc i) =
      ap (λ cs. cell_of e bytes ∷ cs) (cells_of-freed es width (drop width bytes) i)

  cells_of-lent : (es : List (Entry (Head H))) (width : ℕ) (bytes : List ℕ) (i : ℕ) (head : Head H)
      → cells_of (set es i (Live head)) width bytes
      ≡ set (cells_of es width bytes) i (Live (record_of head i width bytes))
  cells_of-lent [] width bytes i head = refl
  cells_of-lent (e ∷ es) width bytes zero head =
      ap (λ n. Live (record { header = head.header; key = take head.length (drop n bytes) })
      ∷ cells_of es width (drop width bytes)) (sym (zero-mul width))
  cells_of-lent (e ∷ es) width bytes (suc i) head =
      ap (λ cs. cell_of e bytes ∷ cs) (cells_of-lent es width (drop width bytes) i head
      ∙ ap (λ bs. set (cells_of es width (drop width bytes)) i
      (Live (record { header = head.header; key = take head.length bs })))
      (drop-drop (i * width) width bytes ∙ ap (λ n. drop n bytes) (next_slot i width)))

  AllFit-set : (es : List (Entry (Head H))) (width i : ℕ) (e : Entry (Head H)) → AllFit es width
      → Fits e width → AllFit (set es i e) width
  AllFit-set [] width i e fit fits = fit
  AllFit-set (x ∷ es) width zero e fit fits = (fits, fit.1)
  AllFit-set (x ∷ es) width (suc i) e fit fits = (fit.0, AllFit-set es width i e fit.1 fits)

  fits_there : (es : List (Entry (Head H))) (width i : ℕ) (head : Head H) → AllFit es width
      → slice_get es i ≡ Some (Live head) → head.length ≤ width
  fits_there [] width i head fit is = cc
  fits_there (Free ∷ es) width zero head fit is = cc
  fits_there (Live h ∷ es) width zero head fit is = let same : h ≡ head = cc in rw (← same) fit.0
  fits_there (x ∷ es) width (suc i) head fit is = fits_there es width i head fit.1 is

  pub fits_at : (k : ℕ) (es : List (Entry (Head H))) (width i : ℕ) (head : Head H) → AllFit (with_free k es) width
      → slice_get es i ≡ Some (Live head) → head.length ≤ width
  fits_at k es width i head fit is =
      fits_there (with_free k es) width i head fit (with_free-there k es i (Live head) is)

  cell_of-before : (e : Entry (Head H)) (width from : ℕ) (key bytes : List ℕ) → Fits e width → width ≤ from
      → from ≤ length bytes → cell_of e (with_key from key bytes) ≡ cell_of e bytes
  cell_of-before Free width from key bytes fits below room = refl
  cell_of-before (Live h) width from key bytes fits below room =
      ap (λ k. Live (record { header = h.header; key = k }))
      (take-with_key h.length from key bytes (omega arith) room)

  -- a key written into a slot leaves the others as they are
  cells_of-filled : (es : List (Entry (Head H))) (width : ℕ) (bytes : List ℕ) (i from : ℕ) (header : H)
      (key : List ℕ)
      → from ≡ i * width → length key ≤ width → AllFit es width → from + width ≤ length bytes
      → cells_of (set es i (Live (record { header = header; length = length key }))) width
      (with_key from key bytes)
      ≡ set (cells_of es width bytes) i (Live (record { header = header; key = key }))
  cells_of-filled [] width bytes i from header key at fits fit room = refl
  cells_of-filled (e ∷ es) width bytes zero from header key at fits fit room =
      let begins : from ≡ 0 = grind arith in
      rw begins (ap₂ (λ k bs. Live (record { header = header; key = k }) ∷ cells_of es width bs)
      (take_at key _ (length key) refl)
      (drop-append-drop (0 + length key) bytes key width (omega arith) (omega arith)))
  cells_of-filled (e ∷ es) width bytes (suc i) from header key at fits fit room =
      let begins : from ≡ width + i * width = at ∙ sym (next_slot i width) in
      rw begins
      (ap₂ (λ c cs. c ∷ cs) (cell_of-before e width (width + i * width) key bytes fit.0 (omega arith)
      (omega arith))
      (ap (cells_of (set es i (Live (record { header = header; length = length key }))) width)
      (drop-with_key width (i * width) key bytes (omega arith))
      ∙ cells_of-filled es width (drop width bytes) i (i * width) header key refl fits fit.1
      (omega (arith, length-drop width bytes))))

  pub IsSlot-within : (es : List (Entry (Head H))) (size width : ℕ) (bytes : List ℕ) (i : ℕ)
      → AreEntries es size width bytes → i < length (cells_of (with_free (slots_of size) es) width bytes)
      → IsSlot size width i
  IsSlot-within es size width bytes i chunk within =
      let index : i < slots_of size =
      omega (
        arith,
        length-cells_of (with_free (slots_of size) es) width bytes,
        length-with_free (slots_of size) es chunk.few,
      ) in
      record { index = index; bytes = slot_within i (slots_of size) width index chunk.shared }

  -- entries that are made change nothing
  pub record IsMade (es made : List (Entry (Head H))) (size width : ℕ) (bytes : List ℕ) : Type 0 where
    pub chunk : AreEntries made size width bytes
    pub cells : cells_of (with_free (slots_of size) made) width bytes
        ≡ cells_of (with_free (slots_of size) es) width bytes

  pub IsMade-entries : (es made : List (Entry (Head H))) (size width : ℕ) (bytes : List ℕ) (i : ℕ)
      → AreEntries es size width bytes → i < length (cells_of (with_free (slots_of size) es) width bytes)
      → ((count : ℕ) → i < count → with_free count made ≡ with_free count es)
      → ((count : ℕ) → i < count → length es ≤ count → length made ≤ count)
      → IsMade es made size width bytes
  IsMade-entries es made size width bytes i chunk within free few =
      let index = (IsSlot-within es size width bytes i chunk within).index in
      let same = free (slots_of size) index in
      record {
        chunk = record {
          sized = chunk.sized;
          wide = chunk.wide;
          few = few (slots_of size) index chunk.few;
          shared = chunk.shared;
          room = rw same chunk.room;
          fit = rw same chunk.fit;
        };
        cells = ap (λ xs. cells_of xs width bytes) same;
      }

  -- if every key is empty, the bytes say nothing
  cells_of-empty : (es : List (Entry (Head H))) (width : ℕ) (bytes other : List ℕ) → AllFit es 0
      → cells_of es width bytes ≡ cells_of es width other
  cells_of-empty [] width bytes other empty = refl
  cells_of-empty (Free ∷ es) width bytes other empty =
      ap (λ cs. Free ∷ cs) (cells_of-empty es width (drop width bytes) (drop width other) empty.1)
  cells_of-empty (Live h ∷ es) width bytes other empty =
      ap₂ (λ k cs. Live (record { header = h.header; key = k }) ∷ cs) (take_none h.length bytes other empty.0)
      (cells_of-empty es width (drop width bytes) (drop width other) empty.1)

  -- the bytes that are made where there are none change nothing
  pub length-made_bytes : (es : List (Entry (Head H))) (bytes : List ℕ) → HasBytes es bytes
      → length (made_bytes bytes) ≡ 16384
  length-made_bytes es [] room = length-replicate {A = ℕ} 16384 0
  length-made_bytes es (b ∷ bytes) (inl room) = room
  length-made_bytes es (b ∷ bytes) (inr empty) = let none = empty.0 in cc

  cells_of-made_bytes : (es : List (Entry (Head H))) (width : ℕ) (bytes : List ℕ) → HasBytes es bytes
      → cells_of es width (made_bytes bytes) ≡ cells_of es width bytes
  cells_of-made_bytes es width [] (inl room) = absurd (omega arith)
  cells_of-made_bytes es width [] (inr empty) = cells_of-empty es width (made_bytes []) [] empty.1
  cells_of-made_bytes es width (b ∷ bytes) room = refl

  HasBytes-set : (es : List (Entry (Head H))) (bytes : List ℕ) (i : ℕ) (e : Entry (Head H)) → HasBytes es bytes
      → (AllFit es 0 → Fits e 0) → HasBytes (set es i e) bytes
  HasBytes-set es bytes i e (inl room) fits = inl room
  HasBytes-set es bytes i e (inr empty) fits = inr (empty.0, AllFit-set es 0 i e empty.1 (fits empty.1))

  -- a chunk's entries with one of them written
  AreEntries-set : (es : List (Entry (Head H))) (size width : ℕ) (bytes after : List ℕ) (i : ℕ)
      (e : Entry (Head H))
      → AreEntries es size width bytes → i < length es → Fits e width
      → HasBytes (set (with_free (slots_of size) es) i e) after → AreEntries (set es i e) size width after
  AreEntries-set es size width bytes after i e chunk there fits room =
      record {
        sized = chunk.sized;
        wide = chunk.wide;
        few = omega (arith, length-set es i e, chunk.few);
        shared = chunk.shared;
        room = rw (with_free-set (slots_of size) es i e there) room;
        fit = rw (with_free-set (slots_of size) es i e there)
            (AllFit-set (with_free (slots_of size) es) width i e chunk.fit fits);
      }

  pub AreEntries-filled : (es : List (Entry (Head H))) (size width : ℕ) (bytes : List ℕ) (i : ℕ) (header : H)
      (key : List ℕ)
      → AreEntries es size width bytes → i < length es → length key ≤ slice_index sizes size
      → AreEntries (set es i (Live (record { header = header; length = length key }))) size width
      (bytes_after_key (i * width) key bytes)
  AreEntries-filled es size width bytes i header [] chunk there fits =
      AreEntries-set es size width bytes bytes i _ chunk there (omega arith)
      (HasBytes-set (with_free (slots_of size) es) bytes i _ chunk.room (λ empty. omega arith))
  AreEntries-filled es size width bytes i header (b ∷ key) chunk there fits =
      let wide = chunk.wide in
      let made = length-made_bytes (with_free (slots_of size) es) bytes chunk.room in
      let inside = slot_within i (slots_of size) width (omega (arith, there, chunk.few)) chunk.shared in
      AreEntries-set es size width bytes _ i _ chunk there (omega arith)
      (inl (length-with_key (i * width) (b ∷ key) (made_bytes bytes) (omega (arith, inside)) ∙ made))

  pub filled : (es : List (Entry (Head H))) (size width : ℕ) (bytes : List ℕ) (i : ℕ) (header : H)
      (key : List ℕ)
      → AreEntries es size width bytes → i < length es → length key ≤ slice_index sizes size
      → cells_of (with_free (slots_of size) (set es i (Live (record { header = header; length = length key })))) width
      (bytes_after_key (i * width) key bytes)
      ≡ set (cells_of (with_free (slots_of size) es) width bytes) i (Live (record { header = header; key = key }))
  filled es size width bytes i header [] chunk there fits =
      ap (λ xs. cells_of xs width bytes) (with_free-set (slots_of size) es i _ there)
      ∙ cells_of-lent (with_free (slots_of size) es) width bytes i (record { header = header; length = 0 })
  filled es size width bytes i header (b ∷ key) chunk there fits =
      let wide = chunk.wide in
      let made = length-made_bytes (with_free (slots_of size) es) bytes chunk.room in
      let inside = slot_within i (slots_of size) width (omega (arith, there, chunk.few)) chunk.shared in
      ap (λ xs. cells_of xs width (bytes_after_key (i * width) (b ∷ key) bytes)) (with_free-set (slots_of size) es i _ there)
      ∙ cells_of-filled (with_free (slots_of size) es) width (made_bytes bytes) i (i * width) header (b ∷ key) refl
      (omega arith) chunk.fit (omega (arith, inside))
      ∙ ap (λ cs. set cs i (Live (record { header = header; key = b ∷ key })))
      (cells_of-made_bytes (with_free (slots_of size) es) width bytes chunk.room)

  pub AreEntries-freed : (es : List (Entry (Head H))) (size width : ℕ) (bytes : List ℕ) (i : ℕ)
      → AreEntries es size width bytes → i < length es → AreEntries (set es i Free) size width bytes
  AreEntries-freed es size width bytes i chunk there =
      AreEntries-set es size width bytes bytes i Free chunk there tt
      (HasBytes-set (with_free (slots_of size) es) bytes i Free chunk.room (λ empty. tt))

  pub freed : (k : ℕ) (es : List (Entry (Head H))) (width : ℕ) (bytes : List ℕ) (i : ℕ) → i < length es
      → cells_of (with_free k (set es i Free)) width bytes ≡ set (cells_of (with_free k es) width bytes) i Free
  freed k es width bytes i there =
      ap (λ xs. cells_of xs width bytes) (with_free-set k es i Free there)
      ∙ cells_of-freed (with_free k es) width bytes i

  pub AreEntries-lent : (es : List (Entry (Head H))) (size width : ℕ) (bytes : List ℕ) (i : ℕ) (head : Head H) (header : H)
      → AreEntries es size width bytes → slice_get es i ≡ Some (Live head)
      → AreEntries (set es i (Live (record { header = header; length = head.length }))) size width bytes
  AreEntries-lent es size width bytes i head header chunk is =
      AreEntries-set es size width bytes bytes i _ chunk (slice_get_within es i _ is)
      (fits_at (slots_of size) es width i head chunk.fit is)
      (HasBytes-set (with_free (slots_of size) es) bytes i _ chunk.room
      (λ empty. fits_at (slots_of size) es 0 i head empty is))

  -- the key of a live slot lies within the bytes
  pub key_within : (es : List (Entry (Head H))) (size width : ℕ) (bytes : List ℕ) (i : ℕ) (head : Head H)
      → AreEntries es size width bytes → slice_get es i ≡ Some (Live head)
      → head.length ≤ length bytes - i * width
  key_within es size width bytes i head chunk is = by_room chunk.room
    where
      by_room : HasBytes (with_free (slots_of size) es) bytes → head.length ≤ length bytes - i * width
      by_room (inl room) =
          let there = slice_get_within es i _ is in
          omega (
            arith,
            slot_within i (slots_of size) width (omega (arith, there, chunk.few)) chunk.shared,
            fits_at (slots_of size) es width i head chunk.fit is,
          )
      by_room (inr empty) = omega (arith, fits_at (slots_of size) es 0 i head empty.1 is)

  -- a live slot with another header keeps its key
  pub lent : (k : ℕ) (es : List (Entry (Head H))) (width : ℕ) (bytes : List ℕ) (i : ℕ) (head : Head H) (header : H)
      → slice_get es i ≡ Some (Live head)
      → slice_get (cells_of (with_free k es) width bytes) i ≡ Some (Live (record_of head i width bytes))
      → cells_of (with_free k (set es i (Live (record { header = header; length = head.length })))) width bytes
      ≡ set (cells_of (with_free k es) width bytes) i
      (Live (record {
        header = header;
        key =
            unwrap_or (option_map (λ r. r.key) (held_at (cells_of (with_free k es) width bytes) i)) [];
      }))
  lent k es width bytes i head header there is =
      let key : unwrap_or (option_map (λ r. r.key) (held_at (cells_of (with_free k es) width bytes) i)) []
      ≡ take head.length (drop (i * width) bytes) =
      ap (λ o. unwrap_or (option_map (λ r. r.key) (option_and_then held o)) []) is in
      ap (λ xs. cells_of xs width bytes) (with_free-set k es i _ (slice_get_within es i _ there))
      ∙ cells_of-lent (with_free k es) width bytes i (record { header = header; length = head.length })
      ∙ ap (λ k'. set (cells_of (with_free k es) width bytes) i (Live (record { header = header; key = k' }))) (sym key)

  -- a free entry is a free slot
  free_slot : (es : List (Entry (Head H))) (width : ℕ) (bytes : List ℕ) (i : ℕ)
      → slice_get es i ≡ Some Free → IsFree (cells_of es width bytes) i
  free_slot [] width bytes i is = cc
  free_slot (Free ∷ es) width bytes zero is = refl
  free_slot (Live h ∷ es) width bytes zero is = cc
  free_slot (e ∷ es) width bytes (suc i) is = free_slot es width (drop width bytes) i is

  AllFit-free : (es : List (Entry (Head H))) (k width : ℕ) → es ≡ [] → AllFit (with_free k es) width
  AllFit-free [] zero width none = tt
  AllFit-free [] (suc k) width none = (tt, AllFit-free [] k width refl)
  AllFit-free (e ∷ es) k width none = cc

  pub AreEntries-new : (es : List (Entry (Head H))) (size width : ℕ) (bytes : List ℕ)
      → es ≡ [] → size < 10 → width ≡ slice_index sizes size
      → slots_of size * width ≡ 16384 → bytes ≡ [] → AreEntries es size width bytes
  AreEntries-new es size width bytes none sized wide shared no_bytes =
      record {
        sized = sized;
        wide = wide;
        few = omega (arith, ap length none);
        shared = shared;
        room = inr (no_bytes, AllFit-free es (slots_of size) 0 none);
        fit = AllFit-free es (slots_of size) width none;
      }

  pub IsFresh-new : (es : List (Entry (Head H))) (width : ℕ) (bytes : List ℕ) (count : ℕ)
      → es ≡ [] → IsFresh (cells_of (with_free count es) width bytes) count
  IsFresh-new es width bytes count none =
      record {
        slots = length-cells_of (with_free count es) width bytes
            ∙ length-with_free count es (omega (arith, ap length none));
        free =
            λ k below. free_slot (with_free count es) width bytes k
            (with_free-beyond count es k (omega (arith, ap length none)) below);
      }

  -- a live entry is a live slot
  live_there : (es : List (Entry (Head H))) (width : ℕ) (bytes : List ℕ) (i : ℕ) (head : Head H)
      → slice_get es i ≡ Some (Live head) → IsSome (held_at (cells_of es width bytes) i)
  live_there [] width bytes i head is = cc
  live_there (Free ∷ es) width bytes zero head is = cc
  live_there (Live h ∷ es) width bytes zero head is = refl
  live_there (e ∷ es) width bytes (suc i) head is = live_there es width (drop width bytes) i head is

  pub live_slot : (k : ℕ) (es : List (Entry (Head H))) (width : ℕ) (bytes : List ℕ) (i : ℕ) (head : Head H)
      → slice_get es i ≡ Some (Live head) → IsSome (held_at (cells_of (with_free k es) width bytes) i)
  live_slot k es width bytes i head is =
      live_there (with_free k es) width bytes i head (with_free-there k es i (Live head) is)

module _ {H : Type 0} where
  none_past : (es : List (Entry (Head H))) (width : ℕ) (bytes : List ℕ) (i : ℕ) → length es ≤ i
      → is_some (held_at (cells_of es width bytes) i) ≡ false
  none_past [] width bytes i beyond = refl
  none_past (e ∷ es) width bytes zero beyond = absurd (omega arith)
  none_past (e ∷ es) width bytes (suc i) beyond = none_past es width (drop width bytes) i (omega arith)

  -- beyond the entries nothing is held
  pub none_beyond : (k : ℕ) (es : List (Entry (Head H))) (width : ℕ) (bytes : List ℕ) (i : ℕ) → length es ≤ i
      → is_some (held_at (cells_of (with_free k es) width bytes) i) ≡ false
  none_beyond zero es width bytes i beyond = none_past es width bytes i beyond
  none_beyond (suc k) [] width bytes zero beyond = refl
  none_beyond (suc k) [] width bytes (suc i) beyond = none_beyond k [] width (drop width bytes) i (omega arith)
  none_beyond (suc k) (e ∷ es) width bytes zero beyond = absurd (omega arith)
  none_beyond (suc k) (e ∷ es) width bytes (suc i) beyond =
      none_beyond k es width (drop width bytes) i (omega arith)

  -- nor in a slot that is free
  none_there : (es : List (Entry (Head H))) (width : ℕ) (bytes : List ℕ) (i : ℕ)
      → slice_get es i ≡ Some Free → is_some (held_at (cells_of es width bytes) i) ≡ false
  none_there [] width bytes i is = refl
  none_there (Free ∷ es) width bytes zero is = refl
  none_there (Live h ∷ es) width bytes zero is = cc
  none_there (e ∷ es) width bytes (suc i) is = none_there es width (drop width bytes) i is

  pub none_in_free : (k : ℕ) (es : List (Entry (Head H))) (width : ℕ) (bytes : List ℕ) (i : ℕ)
      → slice_get es i ≡ Some Free → is_some (held_at (cells_of (with_free k es) width bytes) i) ≡ false
  none_in_free k es width bytes i is =
      none_there (with_free k es) width bytes i (with_free-there k es i Free is)
