use Rattle.checking.proofs.Matched.{HasMatched}
use Rattle.checking.proofs.reply_match.match_sorted.Given as goal

abbrev pub invariant-loop-reply : goal.invariant-loop-reply
invariant-loop-reply l =
    HasMatched l.expected l.recorded l.reply-index l.rest l.differences.items l.unexpected.items
