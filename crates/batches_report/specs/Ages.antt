-- How old the snapshots were that were too old, and which window would have covered them. This project's own.
use Rattle.std.specs.Prelude.{◌↔◌, ℕ, ◌<◌, ℤ, ◌-ℤ◌, ◌≤ℤ◌, List, length, filter, map}
use Rattle.keyspace.specs.declared.txn.Txn.{Txn}
use Rattle.keyspace.specs.declared.batch.Batch.{Batch}
use Rattle.keyspace.specs.Judged.{IsTooOld, edge}
use Rattle.batches_report.specs.JudgedTxns.{JudgedTxn, is_too_old}

-- the versions from the snapshot of a transaction to its batch
abbrev pub age_of : JudgedTxn → ℤ
age_of j = j.version -ℤ j.txn.snapshot

-- the ages of the snapshots that were too old
abbrev pub ages_of : List JudgedTxn → List ℤ
ages_of js = map age_of (filter (λ j. is_too_old j.entry) js)

-- A transaction with a read range isn't too old exactly if the window covers the age of its snapshot.
abbrev pub WindowsCoverAges : Type 0
WindowsCoverAges = (window : ℤ) (b : Batch) (t : Txn) → 0 < length t.reads
    → ((b.version -ℤ t.snapshot) ≤ℤ window) ↔ (¬ IsTooOld (edge window b) t)
