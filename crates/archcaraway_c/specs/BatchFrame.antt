-- The bytes that C gives as the frame of a batch. This project's own.
use Rattle.std.specs.Prelude.{◌≡◌, ◌<◌, ◌⊎◌, ℕ, List, length, take, Some}
use Rattle.keyspace.specs.declared.batch.Batch.{Batch}
use Rattle.wire.specs.declared.error.WireError.TheVariants as wire
use Rattle.wire.specs.Spelling.{SpellsBatch}
use Rattle.wire.specs.Reading.{batch_fault, version_at_front}
use Rattle.archcaraway_c.specs.declared.refusal.Refusal.{Refusal}
use Rattle.archcaraway_c.specs.declared.refusal.Refusal.TheVariants.{Stop, Wire, Version, Argument, Buffer, Behind}

-- the bytes are one frame, that of the batch
abbrev pub IsFrame : List ℕ → Batch → Type 0
IsFrame bytes batch = SpellsBatch (version_at_front bytes) bytes batch

-- Why the bytes aren't one frame of a batch: by the first fault that reading meets, or a frame is at the front and bytes follow
-- it. Memory may be refused instead.
abbrev pub IsNoFrame : List ℕ → Refusal → Type 0
IsNoFrame bytes (Wire fault) = (fault ≡ wire.Memory) ⊎ (batch_fault bytes ≡ Some fault)
IsNoFrame bytes Behind =
    (count : ℕ) × (count < length bytes) × ((batch : Batch) × SpellsBatch (version_at_front bytes) (take count bytes) batch)
IsNoFrame bytes (Stop s) = ⊥
IsNoFrame bytes Version = ⊥
IsNoFrame bytes Argument = ⊥
IsNoFrame bytes (Buffer needed) = ⊥
