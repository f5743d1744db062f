use Rattle.std.proofs.Common.{◌<◌, take, All}
use Rattle.shards.proofs.callers.Combining.{IsUnion}
use Rattle.replay_shards.specs.Answers.{noted_each}
use Rattle.replay_shards.proofs.entries.united_places.Given as goal

abbrev pub invariant-loop-own : goal.invariant-loop-own
invariant-loop-own l = record {
  union : IsUnion l.index (noted_each (take l.own-index l.each)) l.places.items;
  below : All (λ read. read < 1024) l.places.items;
}
