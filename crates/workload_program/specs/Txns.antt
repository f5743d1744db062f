-- What the transactions of a file look like, by the shape. Which of these keys and snapshots are drawn isn't said.
use Rattle.std.specs.Prelude.{◌≡◌, ℕ, ◌+◌, ◌-◌, ◌%◌, ◌<◌, ◌≤◌, ℤ, List, [], ◌∷◌, ◌++◌, length, replicate, All, codes, false}
use Rattle.std.specs.Int.{w64, to_be_bytes}
use Rattle.keys.specs.declared.range.Range.{Range}
use Rattle.keyspace.specs.declared.txn.Txn.{Txn}
use Rattle.workload_program.specs.Versions.{version_of, keys_of, reads_of, writes_of}
use Rattle.workload_program.specs.declared.shape.Shape.{Shape}
use Rattle.workload_program.specs.declared.shape.Shape.TheVariants.{SkipListTest, Points}

-- the key of a number, of 16 bytes
abbrev pub numbered_key : ℕ → List ℕ
numbered_key number = codes "workload" ++ to_be_bytes w64 number

-- the key of a number, of 8 to 24 bytes: the number, and then dots, whose count follows from the number
abbrev pub point : ℕ → List ℕ
point number = to_be_bytes w64 number ++ replicate (number % 17) 46

-- the range has 1 to 10 numbered keys side by side, or is a single key
abbrev pub IsRangeOf : Shape → Range → Type 0
IsRangeOf SkipListTest range =
    (number width : ℕ) × (number < keys_of SkipListTest) × (1 ≤ width) × (width ≤ 10)
    × (range.begin ≡ numbered_key number) × (range.end ≡ numbered_key (number + width))
IsRangeOf Points range =
    (number : ℕ) × (number < keys_of Points) × (range.begin ≡ point number) × (range.end ≡ point number ++ 0 ∷ [])

-- a transaction reads as of n batches before its own
abbrev pub LooksBack : Shape → ℕ → Type 0
LooksBack SkipListTest back = back ≡ 50
LooksBack Points back = (1 ≤ back) × (back ≤ 8)

-- the snapshot of a transaction in the batch of a number: the version of a batch before it, or 0 where there are too few
abbrev pub IsSnapshotOf : Shape → ℕ → ℤ → Type 0
IsSnapshotOf shape number snapshot =
    (back : ℕ) × LooksBack shape back × (snapshot ≡ version_of shape (number - back))

-- a transaction in the batch of a number
pub record IsTxnOf (shape : Shape) (number : ℕ) (txn : Txn) : Type 0 where
  pub snapshot : IsSnapshotOf shape number txn.snapshot
  pub unmarked : txn.marked ≡ false
  pub read_count : length txn.reads ≡ reads_of shape
  pub write_count : length txn.writes ≡ writes_of shape
  pub reads : All (IsRangeOf shape) txn.reads
  pub writes : All (IsRangeOf shape) txn.writes
