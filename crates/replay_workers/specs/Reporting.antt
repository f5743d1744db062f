-- Which transactions report their read ranges in conflict: the batches that are resolved for those of a file. This project's own.
use Rattle.std.specs.Prelude.{◌≡◌, ℕ, ◌≤◌, true, List, map, Option}
use Rattle.std.specs.Io.KnownBytes.{IsAtEnd}
use Rattle.std.proofs.Common.{sym, subst}
use Rattle.std.proofs.lemmas.List.{length-map}
use Rattle.keyspace.specs.declared.batch.Batch.{Batch}
use Rattle.keyspace.specs.declared.batch.TheConstants.{MAX_TXNS}
use Rattle.keyspace.specs.declared.txn.Txn.{Txn}
use Rattle.wire.specs.declared.error.WireError.{WireError}
use Rattle.wire.specs.NextFrame.{TakesFrame}
use Rattle.replay_output.specs.declared.options.reports.Reports.{Reports}
use Rattle.replay_output.specs.declared.options.reports.Reports.TheVariants.{Asked, All}
use Rattle.wire.specs.Batches.{GivesEach, IsFaultAt}
use Rattle.replay_workers.specs.Worker.{SendsBatches}

-- the same transaction, which asks for its report
abbrev pub asking_txn : Txn → Txn
asking_txn txn = record txn { marked = true }

-- the same batch, whose transactions all ask for their reports
abbrev pub all_asking : Batch → Batch
all_asking batch = record batch {
  txns = map asking_txn batch.txns;
  few = subst (λ (n : ℕ). n ≤ MAX_TXNS) (sym (length-map batch.txns asking_txn)) batch.few;
}

-- the batch that is resolved for one of a file
abbrev pub resolved_for : Reports → Batch → Batch
resolved_for Asked batch = batch
resolved_for All batch = all_asking batch

-- The frame of a batch is at the front, and just that frame leaves. The batch that is given is the one resolved for it.
abbrev pub TakesResolved : Reports → Option (List ℕ) → Option (List ℕ) → Batch → Type 0
TakesResolved reports old new batch =
    (read : Batch) × TakesFrame old new read × (batch ≡ resolved_for reports read)

-- The frames of some batches are at the front, in order, and just those frames leave. These are the batches that are resolved for them.
abbrev pub TakesFrames : Reports → Option (List ℕ) → Option (List ℕ) → List Batch → Type 0
TakesFrames reports = GivesEach (TakesResolved reports)

-- what is sent of the frames at the front of the bytes
abbrev pub SendsFrames : Reports → Option (List ℕ) → List Batch → List Batch → Option WireError → Option Batch → Type 0
SendsFrames reports = SendsBatches (TakesResolved reports) IsAtEnd IsFaultAt
