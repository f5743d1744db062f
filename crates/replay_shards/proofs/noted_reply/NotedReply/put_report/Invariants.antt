use Rattle.std.proofs.Common.{◌≡◌, ◌<◌, ◌++◌, map, take, get_or, All}
use Rattle.replay_shards.proofs.noted_reply.NotedReply.put_report.Given as goal

abbrev pub invariant-loop-place : goal.invariant-loop-place
invariant-loop-place l = record {
  found : l.found.items ≡ l.initial.found.items ++ map (λ place. get_or l.indices place 0) (take l.place-index l.place-items);
  below : All (λ read. read < 1024) l.found.items;
}
