use Rattle.std.proofs.Common.{◌≡◌, ◌++◌, List, map, vec_items}
use Rattle.std.specs.Prelude.{ℕ, Option}
use Rattle.std.specs.List.{AllZip}
use Rattle.std.specs.Vec.Iter.{into_iter_items}
use Rattle.replay_shards.specs.Sampling.{AreFirstOf}
use Rattle.replay_shards.proofs.sampled_points.samples_each.Given as goal

abbrev pub invariant-loop-reader : goal.invariant-loop-reader
invariant-loop-reader g l =
    (front : List (Option (List ℕ)))
    × (front ++ map g.S.Source.remaining (into_iter_items l.reader-iterator) ≡ map g.S.Source.remaining l.fn.readers.items)
    × AllZip AreFirstOf front (map vec_items l.samples.items)
