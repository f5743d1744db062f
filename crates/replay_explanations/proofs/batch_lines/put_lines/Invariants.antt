use Rattle.std.proofs.Common.{◌≡◌, ◌++◌, take}
use Rattle.replay_explanations.specs.Lines.{lines_from}
use Rattle.replay_explanations.proofs.batch_lines.put_lines.Given as goal

-- the lines of the transactions so far
abbrev pub invariant-loop-txn : goal.invariant-loop-txn
invariant-loop-txn l =
    l.out.items
    ≡ l.fn.out.items
    ++ lines_from l.form l.history.window l.history.kept l.batch 0 (take l.txn l.batch.txns) (take l.txn l.entries)
