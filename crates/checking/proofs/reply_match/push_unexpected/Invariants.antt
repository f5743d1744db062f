use Rattle.std.proofs.Common.{◌≡◌, ◌++◌, map, take}
use Rattle.checking.specs.Difference.{unexpected_reply}
use Rattle.checking.proofs.reply_match.push_unexpected.Given as goal

abbrev pub invariant-loop-reply : goal.invariant-loop-reply
invariant-loop-reply l =
    l.unexpected_ones.items ≡ l.initial.unexpected_ones.items ++ map unexpected_reply (take l.reply-index l.replies)
