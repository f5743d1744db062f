use Rattle.std.proofs.Common.{◌≡◌, ◌++◌, slice_get}
use Rattle.std.specs.List.{flat_map}
use Rattle.explanations.specs.Explains.{explaining_newest}
use Rattle.replay_explanations.specs.Lines.{indices_from, read_line}
use Rattle.replay_explanations.proofs.batch_lines.put_all.Given as goal

-- the lines of the read ranges so far
abbrev pub invariant-loop-read : goal.invariant-loop-read
invariant-loop-read l =
    l.out.items
    ≡ l.fn.out.items
    ++ flat_map (λ i. read_line l.form l.version l.txn i (slice_get l.reads i) (explaining_newest l.history.kept l.txn i))
    (indices_from 0 l.read)
