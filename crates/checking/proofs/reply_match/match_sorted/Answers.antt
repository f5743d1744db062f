use Rattle.std.proofs.Common.{arith}
use Rattle.checking.proofs.Matched.{matched_none, matched_turn, after_front}
use Rattle.checking.proofs.reply_match.match_sorted.Goals as goal

pub loop-reply-init : goal.loop-reply-init
loop-reply-init c =
    rw (c.new-differences.ensures.items, c.new-unexpected.ensures.items)
    (matched_none c.args.expected.now c.args.recorded.now c.requires.expected c.requires.recorded)

pub match_first-requires-clause-from : goal.match_first-requires-clause-from
match_first-requires-clause-from c =
    (after_front c.reply-item.result.version c.loop-reply.rest.now c.split_at.result.1.now c.count_before.result
    c.count_before.ensures.before c.split_at.ensures.back c.loop-reply.invariant.rises).0

pub match_first-requires-clause-rise : goal.match_first-requires-clause-rise
match_first-requires-clause-rise c =
    (after_front c.reply-item.result.version c.loop-reply.rest.now c.split_at.result.1.now c.count_before.result
    c.count_before.ensures.before c.split_at.ensures.back c.loop-reply.invariant.rises).1

pub loop-reply-preserved : goal.loop-reply-preserved
loop-reply-preserved c =
    matched_turn c.args.expected.now c.args.recorded.now c.loop-reply.rest.now c.in_ok-rest.rest.now c.split_at.result.0.now
    c.split_at.result.1.now c.loop-reply.reply-index c.count_before.result c.loop-reply.differences.items
    c.match_first.new.differences.items c.loop-reply.unexpected.items c.push_unexpected.new.unexpected_ones.items
    c.reply-item.result (omega arith) c.reply-item.is c.count_before.ensures.before c.split_at.ensures.front
    c.split_at.ensures.back c.in_ok-push_unexpected.ensures.pushed c.loop-reply.invariant c.in_ok-rest.ensures.rises
    c.in_ok-rest.ensures.matched
