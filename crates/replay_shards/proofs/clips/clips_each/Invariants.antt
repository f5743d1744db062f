use Rattle.std.proofs.Common.{◌≡◌, ◌++◌, [], map}
use Rattle.std.specs.Prelude.{None, slice_get}
use Rattle.std.specs.List.{All}
use Rattle.std.specs.Vec.Iter.{into_iter_items}
use Rattle.serial.specs.Shards.{shards}
use Rattle.replay_shards.specs.Clips.{bytes_left, refusal_of_clips, shard_of_clips}
use Rattle.replay_shards.proofs.clips.clips_each.Given as goal

abbrev pub invariant-loop-reader : goal.invariant-loop-reader
invariant-loop-reader g l = record {
  readers :
      map (bytes_left g.S.Source.remaining) l.each.items ++ map g.S.Source.remaining (into_iter_items l.reader-iterator)
      ≡ map g.S.Source.remaining l.fn.readers.items;
  shard : All (λ own. shard_of_clips own ≡ slice_get (shards l.points.value) l.shard) l.each.items;
  fresh : All (λ own. refusal_of_clips own ≡ None) l.each.items;
  none : All (λ own. own.notes.items ≡ []) l.each.items;
}
