use Rattle.std.proofs.Common.{take}
use Rattle.shards.proofs.Leasts.{IsLeastSoFar}
use Rattle.shards.proofs.combined_replies.least_verdict.Given as goal

abbrev pub invariant-loop-reply : goal.invariant-loop-reply
invariant-loop-reply l = IsLeastSoFar (take l.reply-index l.each) l.index l.least
