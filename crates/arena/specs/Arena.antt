-- What an arena is seen as: a map from live slots to records, and how many slots are spare.
use Rattle.std.specs.Prelude.{
  ℕ,
  ◌/◌,
  ◌==◌,
  ◌<◌,
  ◌≤◌,
  nat_lt,
  List,
  [],
  ◌∷◌,
  count_by,
  slice_index,
  Option,
  IsSome,
  option_map,
  unwrap_or,
  refl,
}
use Rattle.std.specs.Ordering.{nat_cmp}
use Rattle.std.specs.FinMap as map
use Rattle.std.specs.Coded.{Coded, code_by, coded×, coded_ℕ, coded_list}
use Rattle.arena.specs.declared.size.TheConstants.{CHUNK_BYTES, SIZES}

-- the ten sizes of slots: how many bytes their keys may have
abbrev pub sizes : List ℕ
sizes = 32 ∷ 64 ∷ 128 ∷ 256 ∷ 512 ∷ 1024 ∷ 2048 ∷ 4096 ∷ 8192 ∷ 16384 ∷ []

-- The index of the least size that a key of n bytes fits: the number of sizes that are too short for it.
abbrev pub size_of : ℕ → ℕ
size_of n = count_by (λ bytes. nat_lt bytes n) sizes

-- how many slots of the size a chunk has
abbrev pub slots_of : ℕ → ℕ
slots_of size = CHUNK_BYTES / slice_index sizes size

-- how many of the lengths are of the size
abbrev pub wanted_of : List ℕ → ℕ → ℕ
wanted_of lengths size = count_by (λ n. size_of n == size) lengths

-- a slot is spare for a record with a key of each of these lengths, given the number of spare slots of each size
abbrev pub HasRoomFor : (ℕ → ℕ) → List ℕ → Type 0
HasRoomFor spare lengths = (size : ℕ) → size < SIZES → wanted_of lengths size ≤ spare size

pub record Record (H : Type 0) : Type 0 where
  pub header : H
  pub key : List ℕ

-- a finite map from live slots to their records
abbrev pub Records : Type 0 → Type 0
Records H = map.FinMap nat_cmp (Record H)

-- an arena
pub record Arena (H : Type 0) : Type 0 where
  pub records : Records H
  -- for each of the ten sizes, how many slots may be given without taking memory
  pub spare : List ℕ

-- a record is stored as the pair of its fields
abbrev pub record_code : {H : Type 0} → Coded H → Coded (Record H)
record_code {H} code =
    code_by
    (H × List ℕ)
    (coded× code (coded_list coded_ℕ))
    (λ r. (r.header, r.key))
    (λ p. record { header = p.0; key = p.1 })
    (λ _. refl)

-- and so is an arena
abbrev pub arena_code : {H : Type 0} → Coded H → Coded (Arena H)
arena_code {H} code =
    code_by
    (Records H × List ℕ)
    (coded× (map.code coded_ℕ (record_code code)) (coded_list coded_ℕ))
    (λ a. (a.records, a.spare))
    (λ p. record { records = p.0; spare = p.1 })
    (λ _. refl)

module _ {H : Type 0} where
  -- the record of a slot, if it is live
  abbrev pub record_at : Arena H → ℕ → Option (Record H)
  record_at a slot = map.get a.records slot

  abbrev pub IsLive : Arena H → ℕ → Type 0
  IsLive a slot = IsSome (record_at a slot)

  abbrev pub header_at : Arena H → ℕ → Option H
  header_at a slot = option_map (λ r. r.header) (record_at a slot)

  abbrev pub key_at : Arena H → ℕ → Option (List ℕ)
  key_at a slot = option_map (λ r. r.key) (record_at a slot)

  -- how many slots of the size are spare
  abbrev pub spare_of : Arena H → ℕ → ℕ
  spare_of a size = slice_index a.spare size

  -- the arena with this header at a live slot
  abbrev pub with_header : Arena H → ℕ → H → Arena H
  with_header a slot header =
      let key = unwrap_or (key_at a slot) [] in
      record a { records = map.insert a.records slot (record { header = header; key = key }) }
