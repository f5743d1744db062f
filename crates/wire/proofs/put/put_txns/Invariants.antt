use Rattle.std.proofs.Common.{◌≡◌, ◌++◌, map, take}
use Rattle.std.specs.Int.{w64}
use Rattle.std.specs.Int.RustNames.{FitsSigned}
use Rattle.std.specs.List.{All, flat_map}
use Rattle.wire.specs.Fields.{txn_fields}
use Rattle.wire.specs.Spelling.{txn_text}
use Rattle.wire.proofs.put.put_txns.Given as goal

abbrev pub invariant-loop-index : goal.invariant-loop-index
invariant-loop-index l =
    (l.out.items ≡ l.fn.out.items ++ flat_map (txn_text l.version) (map txn_fields (take l.index l.txns)))
    × All (λ txn. FitsSigned w64 txn.snapshot) (take l.index l.txns)
