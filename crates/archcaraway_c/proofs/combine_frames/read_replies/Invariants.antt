use Rattle.std.proofs.Common.{◌≡◌, ◌++◌, map}
use Rattle.std.specs.Vec.Iter.{into_iter_items}
use Rattle.archcaraway_c.specs.ShardFrames.{AreRead}
use Rattle.archcaraway_c.proofs.combine_frames.read_replies.Given as goal

abbrev pub invariant-loop-reads : goal.invariant-loop-reads
invariant-loop-reads l = record {
  replies : AreRead l.fn.bytes (map (λ s. s.reply) l.each.items) l.rest;
  reads : map (λ s. s.reads) l.each.items ++ into_iter_items l.reads-iterator ≡ l.fn.all.items;
}
