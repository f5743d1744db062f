-- How a core starts at a version: as if one batch had been processed that wrote every key at it. This project's own.
use Rattle.std.specs.Prelude.{◌≡◌, ℕ, ◌<◌, ℤ, pos, negsuc, ◌≤ℤ◌, ◌<ℤ◌, false, List, [], ◌∷◌, ◌++◌, Contains}
use Rattle.std.proofs.Common.{zero-le}
use Rattle.std.proofs.Math.Dec.{lit≤, le→leb}
use lib.Signed.{le_z_yes, lt_z_yes}
use Rattle.keys.specs.declared.range.Range.{Range}
use Rattle.keys.specs.Range.{IsEmpty}
use Rattle.keyspace.specs.declared.txn.Txn.{Txn}
use Rattle.keyspace.specs.declared.batch.Batch.{Batch}
use Rattle.keyspace.specs.Processed.{version_of}
use Rattle.keyspace.specs.Writes.{writes}
use Rattle.keyspace.specs.Run.{Step, Take, run, answers, part}
use Rattle.conflict.specs.Unknown.{every_key, unknown_until}

-- The versions keep their limits.
pub natural_version : (n : ℕ) → pos 0 ≤ℤ pos n
natural_version n = le_z_yes (le→leb 0 n zero-le)

pub previous_below : (n : ℕ) → negsuc 0 <ℤ pos n
previous_below n = lt_z_yes tt

pub least_version : negsuc 0 ≤ℤ negsuc 0
least_version = le_z_yes tt

-- A transaction that reads nothing and writes every key.
abbrev pub opening_txn : Txn
opening_txn = record {
  snapshot = pos 0;
  marked = false;
  reads = [];
  writes = every_key ∷ [];
  natural = natural_version 0;
  few_reads = zero-le;
  few_writes = lit≤ tt;
}

-- The batch of that transaction, which follows -1 and has the version.
abbrev pub opening_batch : ℕ → Batch
opening_batch version = record {
  previous = negsuc 0;
  version = pos version;
  received = negsuc 0;
  txns = opening_txn ∷ [];
  natural = natural_version version;
  previous_from = least_version;
  rises = previous_below version;
  received_from = least_version;
  received_before = previous_below version;
  few = lit≤ tt;
}

-- The log of a core with this number of proxies that starts at the version. It is that batch, from the number after the
-- last proxy, so that no proxy sent it. At -1 it is empty.
abbrev pub opening_log : ℕ → ℤ → List Step
opening_log proxies (pos version) = Take proxies (opening_batch version) ∷ []
opening_log proxies (negsuc n) = []

-- The log of a resolver for this number of proxies that started at the version and then took these steps. It begins as if
-- one batch of no proxy had written every key at that version. From -1 on, these steps are all of it.
abbrev pub log_from : ℤ → ℕ → List Step → List Step
log_from version proxies steps = opening_log proxies version ++ steps

-- The reference resolver after that log: it is at the version, knows nothing of what was written up to it, and holds no
-- batch. No proxy has sent a batch or received an answer.
pub record StartsAt (window : ℤ) (proxies : ℕ) (version : ℤ) : Type 0 where
  pub at : version_of (run window (opening_log proxies version)).processed ≡ version
  pub unknown : writes (run window (opening_log proxies version)).processed ≡ unknown_until version
  pub none_held : (run window (opening_log proxies version)).held ≡ []
  pub none_sent : (proxy : ℕ) → proxy < proxies → part (opening_log proxies version) proxy ≡ []
  pub none_answered : (proxy : ℕ) → proxy < proxies → answers window (opening_log proxies version) proxy ≡ []

abbrev pub OpeningsStart : Type 0
OpeningsStart = (window : ℤ) (proxies : ℕ) (version : ℤ) → negsuc 0 ≤ℤ version → StartsAt window proxies version

-- The transaction reads nothing below the version: its snapshot is at or above it, or all its read ranges are empty.
abbrev pub ReadsFrom : ℤ → Txn → Type 0
ReadsFrom version t = (range : Range) → Contains t.reads range → ¬ IsEmpty range → version ≤ℤ t.snapshot
