-- Lemmas for callers: what must hold of a value's fields follows from the facts that its type carries and from the types of its numbers.
use Rattle.std.proofs.Common.{List, [], ◌∷◌, map}
use Rattle.std.specs.List.{All, AllByRecursion}
use Rattle.std.specs.Int.{w64}
use Rattle.std.specs.Int.RustNames.{FitsSigned}
use Rattle.std.proofs.lemmas.List.{length-map}
use Rattle.std.proofs.lemmas.List.Elements.{All-head, All-tail}
use Rattle.keyspace.specs.Places.{ArePlaces}
use Rattle.keys.specs.declared.range.Range.{Range}
use Rattle.keyspace.specs.declared.txn.Txn.{Txn}
use Rattle.keyspace.specs.declared.batch.Batch.{Batch}
use Rattle.keyspace.specs.declared.reply.Entry.{Entry}
use Rattle.keyspace.specs.declared.reply.Reply.{Reply}
use Rattle.wire.specs.Fields.{range_fields, txn_fields, batch_fields, entry_fields, reply_fields}
use Rattle.wire.specs.Spelling.{RangeHolds, TxnHolds, BatchHolds, EntryHolds, ReplyHolds}
use Rattle.wire.proofs.PlaceLists.{few_places}

ranges_hold : (ranges : List Range) → AllByRecursion RangeHolds (map range_fields ranges)
ranges_hold [] = tt
ranges_hold (range ∷ ranges) = (
  record {
    begin = range.begin_is_key;
    end = range.end_is_key;
    ordered = range.ordered;
  },
  ranges_hold ranges,
)

txn_holds : (txn : Txn) → FitsSigned w64 txn.snapshot → TxnHolds (txn_fields txn)
txn_holds txn fits = record {
  snapshot_fits = fits;
  snapshot = txn.natural;
  few_reads = rw length-map txn.few_reads;
  few_writes = rw length-map txn.few_writes;
  reads = ranges_hold txn.reads;
  writes = ranges_hold txn.writes;
}

txns_hold : (txns : List Txn) → All (λ txn. FitsSigned w64 txn.snapshot) txns
    → AllByRecursion TxnHolds (map txn_fields txns)
txns_hold [] fit = tt
txns_hold (txn ∷ txns) fit = (
  txn_holds txn (All-head (λ txn. FitsSigned w64 txn.snapshot) txn txns fit),
  txns_hold txns (All-tail (λ txn. FitsSigned w64 txn.snapshot) txn txns fit),
)

pub batch_holds : (batch : Batch) → FitsSigned w64 batch.previous → FitsSigned w64 batch.version
    → FitsSigned w64 batch.received → All (λ txn. FitsSigned w64 txn.snapshot) batch.txns
    → BatchHolds (batch_fields batch)
batch_holds batch previous version received fit = record {
  previous_fits = previous;
  version_fits = version;
  received_fits = received;
  previous = batch.previous_from;
  version = batch.natural;
  rises = batch.rises;
  received = batch.received_from;
  received_before = batch.received_before;
  few = rw length-map batch.few;
  txns = txns_hold batch.txns fit;
}

entries_hold : (entries : List Entry) → All (λ entry. ArePlaces entry.places) entries
    → AllByRecursion EntryHolds (map entry_fields entries)
entries_hold [] places = tt
entries_hold (entry ∷ entries) places =
    let here : ArePlaces entry.places = All-head (λ entry. ArePlaces entry.places) entry entries places in (
      record { few = few_places entry.places here; only_conflict = entry.only_conflict; places = here },
      entries_hold entries (All-tail (λ entry. ArePlaces entry.places) entry entries places),
    )

pub reply_holds : (reply : Reply) → FitsSigned w64 reply.version
    → All (λ entry. ArePlaces entry.places) reply.entries → ReplyHolds (reply_fields reply)
reply_holds reply version places = record {
  version_fits = version;
  version = reply.natural;
  few = rw length-map reply.few;
  entries = entries_hold reply.entries places;
}
