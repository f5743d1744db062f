-- What the numbers of a report are, of all batches and replies. This project's own.
use Rattle.std.specs.Prelude.{◌≡◌, All, List, map}
use Rattle.keyspace.specs.declared.batch.Batch.{Batch}
use Rattle.keyspace.specs.declared.reply.Reply.{Reply}
use Rattle.batches_report.specs.Ages.{ages_of}
use Rattle.batches_report.specs.Answered.{AreLeft, batches_with_replies}
use Rattle.batches_report.specs.Heat.{IsHeatOf}
use Rattle.batches_report.specs.JudgedTxns.{Fits, JudgedTxn, txns_in}
use Rattle.batches_report.specs.Rows.{row_of}
use Rattle.batches_report.specs.declared.txn_tally.TxnTally.{TxnTally}
use Rattle.batches_report.specs.declared.tally.Tally.{Tally}

-- these transactions were counted
pub record Counts (js : List JudgedTxn) (tally : TxnTally) : Type 0 where
  pub ages : tally.ages.items ≡ ages_of js
  pub heat : IsHeatOf js tally.heat

-- The tally has the batches that have replies, and nothing of any other.
pub record IsTally (replies : List Reply) (batches : List Batch) (tally : Tally) : Type 0 where
  pub left : AreLeft replies (map (λ b. b.version) batches) tally.left
  pub fit : All Fits (batches_with_replies replies batches)
  pub rows : tally.rows.items ≡ map (λ a. row_of a.batch a.reply) (batches_with_replies replies batches)
  pub txns : Counts (txns_in (batches_with_replies replies batches)) tally.txns
