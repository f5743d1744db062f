use Rattle.std.proofs.Common.{◌≡◌, ◌++◌, map, take}
use Rattle.std.specs.Int.{w64}
use Rattle.std.specs.Int.RustNames.{FitsSigned}
use Rattle.std.specs.List.{All}
use Rattle.keyspace.specs.storage.Fields.{txn_fields}
use Rattle.json_lines.specs.Written.{all_tokens, txn_json}
use Rattle.json_lines.proofs.batch_writer.each_txn.Given as goal

abbrev pub invariant-loop-index : goal.invariant-loop-index
invariant-loop-index l =
    (l.writer.tokens ≡ l.fn.writer.tokens ++ all_tokens txn_json (map txn_fields (take l.index l.txns)))
    × (l.writer.before ≡ l.fn.writer.before)
    × All (λ txn. FitsSigned w64 txn.snapshot) (take l.index l.txns)
