-- What a chunk is seen as: slots of one size, each free or with a record. No public clause cites this module.
use Rattle.std.specs.Prelude.{◌≡◌, ◌⊎◌, ℕ, zero, suc, ◌+◌, ◌*◌, ◌<◌, ◌≤◌, ◌==◌, if◌then◌else◌, List, [], ◌∷◌, ◌++◌, length, take, drop, replicate, slice_index}
use Rattle.arena.specs.Arena.{Record, sizes, slots_of}
use Rattle.arena.specs.Entry.{Entry, Free, Live, IsFree}
use Rattle.arena.specs.declared.chunk.TheConstants.{FREE}
use Rattle.arena.specs.declared.size.TheConstants.{CHUNK_BYTES, SIZES}

-- a chunk: the size of its slots, and what each of them holds
pub record Chunk (H : Type 0) : Type 0 where
  pub size : ℕ
  pub cells : List (Entry (Record H))

-- these entries, and free ones after them, n in total
abbrev pub with_free : {T : Type 0} → ℕ → List (Entry T) → List (Entry T)
with_free zero es = es
with_free (suc k) [] = Free ∷ with_free k []
with_free (suc k) (e ∷ es) = e ∷ with_free k es

-- of a live slot: its header, and how many of its bytes are the key
pub record Head (H : Type 0) : Type 0 where
  pub header : H
  pub length : ℕ

-- these bytes with a key written over them, from an index on
abbrev pub with_key : ℕ → List ℕ → List ℕ → List ℕ
with_key from key bytes = take from bytes ++ (key ++ drop (from + length key) bytes)

-- these bytes, or a chunk's zeros where there are none
abbrev pub made_bytes : List ℕ → List ℕ
made_bytes [] = replicate CHUNK_BYTES 0
made_bytes (b ∷ bytes) = b ∷ bytes

-- these bytes after a key is written from an index on: an empty key leaves them as they are, even if there are none
abbrev pub bytes_after_key : ℕ → List ℕ → List ℕ → List ℕ
bytes_after_key from [] bytes = bytes
bytes_after_key from (b ∷ key) bytes = with_key from (b ∷ key) (made_bytes bytes)

module _ {H : Type 0} where
  -- the entry of this length and this header
  abbrev pub entry_of : ℕ → H → Entry (Head H)
  entry_of n header = if n == FREE then Free else Live (record { header = header; length = n })

  -- the entries of these lengths, each with the header at its place
  abbrev pub entries_of : List ℕ → List H → List (Entry (Head H))
  entries_of [] headers = []
  entries_of (n ∷ lengths) [] = []
  entries_of (n ∷ lengths) (header ∷ headers) = entry_of n header ∷ entries_of lengths headers

  -- the slot of this entry, whose key bytes are the first of these
  abbrev pub cell_of : Entry (Head H) → List ℕ → Entry (Record H)
  cell_of Free bytes = Free
  cell_of (Live head) bytes = Live (record { header = head.header; key = take head.length bytes })

  -- the slots of these entries, each of this width in bytes
  abbrev pub cells_of : List (Entry (Head H)) → ℕ → List ℕ → List (Entry (Record H))
  cells_of [] width bytes = []
  cells_of (e ∷ es) width bytes = cell_of e bytes ∷ cells_of es width (drop width bytes)

  abbrev pub Fits : Entry (Head H) → ℕ → Type 0
  Fits Free width = Unit {0}
  Fits (Live head) width = head.length ≤ width

  -- no key is longer than its slot
  abbrev pub AllFit : List (Entry (Head H)) → ℕ → Type 0
  AllFit [] width = Unit {0}
  AllFit (e ∷ es) width = Fits e width × AllFit es width

  -- the bytes of the keys are there, or there are none and every key is empty
  abbrev pub HasBytes : List (Entry (Head H)) → List ℕ → Type 0
  HasBytes es bytes = (length bytes ≡ CHUNK_BYTES) ⊎ ((bytes ≡ []) × AllFit es 0)

  -- what a chunk keeps of its entries: all its slots share all its bytes
  pub record AreEntries (es : List (Entry (Head H))) (size width : ℕ) (bytes : List ℕ) : Type 0 where
    pub sized : size < SIZES
    pub wide : width ≡ slice_index sizes size
    pub few : length es ≤ slots_of size
    pub shared : slots_of size * width ≡ CHUNK_BYTES
    pub room : HasBytes (with_free (slots_of size) es) bytes
    pub fit : AllFit (with_free (slots_of size) es) width

  -- what a chunk keeps: each length has a header, and there is room for those of the slots that have none, and for the
  -- bytes
  pub record IsChunk (lengths : List ℕ) (headers : List H)
      (lengths_capacity headers_capacity bytes_capacity size width : ℕ) (bytes : List ℕ) : Type 0 where
    pub paired : length headers ≡ length lengths
    pub lengths_room : slots_of size ≤ lengths_capacity
    pub headers_room : slots_of size ≤ headers_capacity
    pub bytes_room : CHUNK_BYTES ≤ bytes_capacity
    pub entries : AreEntries (entries_of lengths headers) size width bytes

  -- there are n slots, and all are free
  pub record IsFresh (cells : List (Entry (Record H))) (count : ℕ) : Type 0 where
    pub slots : length cells ≡ count
    pub free : (k : ℕ) → k < count → IsFree cells k
