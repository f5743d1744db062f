use Rattle.std.proofs.Common.{◌≡◌, ◌≤◌, ◌+◌, ◌++◌, ℕ, List, length, take}
use Rattle.std.specs.Prelude.{Option, map, vec_capacity, vec_items, vec_len}
use Rattle.std.specs.List.{All, AllZip}
use Rattle.std.specs.Vec.Iter.{into_iter_items, into_iter_len}
use Rattle.serial.specs.Shards.{shards}
use Rattle.replay_sharded.specs.Files.{AreClipsOf, AreFresh, ReadTheFiles}
use Rattle.replay_sharded.proofs.readers.clips_of_shards.Given as goal

abbrev pub invariant-loop-own : goal.invariant-loop-own
invariant-loop-own g l = record {
  clips :
      (files : List (Option (List ℕ))) → All (ReadTheFiles g.S.Source.remaining files) (map vec_items l.fn.readers.items)
      → AllZip (AreClipsOf g.S.Source.remaining files) (take (vec_len l.each) (shards l.fn.points)) (map vec_items l.each.items);
  rest :
      (files : List (Option (List ℕ))) → All (ReadTheFiles g.S.Source.remaining files) (map vec_items l.fn.readers.items)
      → All (ReadTheFiles g.S.Source.remaining files) (map vec_items (into_iter_items l.own-iterator));
  fresh : All AreFresh (map vec_items l.each.items);
  as_many : map vec_len l.each.items ++ map vec_len (into_iter_items l.own-iterator) ≡ map vec_len l.fn.readers.items;
  count : vec_len l.each + into_iter_len l.own-iterator ≡ length (shards l.fn.points);
  room : vec_len l.each + into_iter_len l.own-iterator ≤ vec_capacity l.each;
}
