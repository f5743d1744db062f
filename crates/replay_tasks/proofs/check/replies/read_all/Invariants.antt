use Rattle.std.proofs.Common.{◌≡◌, ◌+◌, map, vec_items}
use Rattle.std.specs.Prelude.{vec_len}
use Rattle.std.specs.Vec.Iter.{into_iter_items, into_iter_len}
use Rattle.replay_tasks.proofs.ReadingReplies.{ReadSoFar}
use Rattle.replay_tasks.proofs.check.replies.read_all.Given as goal

abbrev pub invariant-loop-reader : goal.invariant-loop-reader
invariant-loop-reader g l = record {
  read :
      ReadSoFar (map g.S.Source.remaining l.fn.readers.items) (map g.S.Source.remaining (into_iter_items l.reader-iterator))
      (map vec_items l.recorded.items);
  passed : vec_len l.recorded + into_iter_len l.reader-iterator ≡ vec_len l.fn.readers;
}
