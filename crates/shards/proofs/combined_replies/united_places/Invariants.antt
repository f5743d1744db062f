use Rattle.std.proofs.Common.{◌<◌, take, All}
use Rattle.shards.proofs.Reports.{IsUnion}
use Rattle.shards.proofs.combined_replies.united_places.Given as goal

abbrev pub invariant-loop-reply : goal.invariant-loop-reply
invariant-loop-reply l = record {
  union : IsUnion l.index (take l.reply-index l.each) l.places.items;
  below : All (λ read. read < 1024) l.places.items;
}
