use Rattle.std.proofs.Common.{take}
use Rattle.std.specs.List.{AllZip}
use Rattle.serial.specs.Shards.{shards}
use Rattle.shards.specs.Numbered.{AreNumbered}
use Rattle.shards.proofs.read_numbers.number_all.Given as goal

abbrev pub invariant-loop-shard : goal.invariant-loop-shard
invariant-loop-shard l = AllZip (λ shard reads. AreNumbered shard l.batch reads) (take l.shard (shards l.points)) l.all.items
