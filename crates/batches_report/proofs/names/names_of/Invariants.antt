use Rattle.std.proofs.Common.{map, take, string_bytes}
use Rattle.batches_report.specs.Names.{AreEachOnce, names_at}
use Rattle.batches_report.proofs.names.names_of.Given as goal

abbrev pub invariant-loop-place : goal.invariant-loop-place
invariant-loop-place l = AreEachOnce (names_at l.txn (take l.place-index l.places)) (map string_bytes l.names.items)
