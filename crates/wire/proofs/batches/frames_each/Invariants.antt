use Rattle.std.proofs.Common.{◌≡◌, ◌≤◌, ◌+◌, ◌++◌}
use Rattle.std.specs.Prelude.{None, map, vec_len, vec_capacity}
use Rattle.std.specs.List.{All}
use Rattle.std.specs.Vec.Iter.{into_iter_items, into_iter_len}
use Rattle.wire.specs.Frames.{frames_reader, refusal_of}
use Rattle.wire.proofs.batches.frames_each.Given as goal

abbrev pub invariant-loop-reader : goal.invariant-loop-reader
invariant-loop-reader g l = record {
  readers : map frames_reader l.each.items ++ into_iter_items l.reader-iterator ≡ l.fn.readers.items;
  fresh : All (λ frames. refusal_of frames ≡ None) l.each.items;
  room : vec_len l.each + into_iter_len l.reader-iterator ≤ vec_capacity l.each;
}
