-- What a file holds: the batches of one chain, by their numbers from 0.
use Rattle.std.specs.Prelude.{◌≡◌, ℕ, ◌<◌, ◌≤◌, ◌-◌, ℤ, negsuc, zero, suc, List, [], ◌++◌, length, All, Option, IfSome}
use Rattle.std.specs.Io.KnownBytes.{Appends}
use Rattle.keyspace.specs.declared.batch.Batch.{Batch}
use Rattle.wire.specs.Spelling.{SpellsBatch}
use Rattle.wire.specs.declared.version.WireVersion.TheVariants.{One}
use Rattle.workload_program.specs.Versions.{version_of}
use Rattle.workload_program.specs.Txns.{IsTxnOf}
use Rattle.workload_program.specs.declared.shape.Shape.{Shape}

-- the version that the batch of a number follows: that of the batch before, or -1
abbrev pub previous_of : Shape → ℕ → ℤ
previous_of shape zero = negsuc 0
previous_of shape (suc before) = version_of shape before

-- the batch of a number, with n transactions
pub record IsBatchOf (shape : Shape) (count number : ℕ) (batch : Batch) : Type 0 where
  pub version : batch.version ≡ version_of shape number
  pub previous : batch.previous ≡ previous_of shape number
  pub counted : length batch.txns ≡ count
  pub txns : All (IsTxnOf shape number) batch.txns
  -- the proxy has received the answer of eight batches before, or none
  pub received_none : number < 8 → batch.received ≡ negsuc 0
  pub received : 8 ≤ number → batch.received ≡ version_of shape (number - 8)

-- The bytes are the frames of the batches of all numbers below this one, in order, and nothing else.
abbrev pub AreFrames : Shape → ℕ → ℕ → List ℕ → Type 0
AreFrames shape count zero bytes = bytes ≡ []
AreFrames shape count (suc number) bytes =
    (front last : List ℕ) × (batch : Batch) × (bytes ≡ front ++ last) × AreFrames shape count number front
    × IsBatchOf shape count number batch × SpellsBatch One last batch

-- If the sink still reports its bytes, they grew by a prefix of the frames of some first batches, at most this number of batches.
abbrev pub BreaksOff : Shape → ℕ → ℕ → Option (List ℕ) → Option (List ℕ) → Type 0
BreaksOff shape count batches before after =
    IfSome after (λ _. (number : ℕ) × (number ≤ batches) × (bytes rest : List ℕ)
    × AreFrames shape count number (bytes ++ rest) × Appends before after bytes)
