use Rattle.std.proofs.Common.{List, refl, sym, subst, take, take_all}
use Rattle.std.proofs.lemmas.Option.{slice_get_read}
use Rattle.shards.specs.declared.shard_reply.ShardReply.{ShardReply}
use Rattle.shards.proofs.Leasts.{IsLeastSoFar, take_next, least_more, least_all}
use Rattle.shards.proofs.combined_replies.least_verdict.Goals as goal

pub loop-reply-preserved : goal.loop-reply-preserved
loop-reply-preserved c =
    let each = c.args.each.now in
    let i = c.loop-reply.reply-index in
    let s = c.reply-item.result in
    let at = slice_get_read each _ i s refl c.loop-reply-test.true c.reply-item.is in
    subst (λ (front : List ShardReply). IsLeastSoFar front c.args.index c.lesser-least.result) (sym (take_next each i s at))
    (least_more (take i each) c.args.index c.loop-reply.least c.lesser-least.result s c.entry.result.now c.entry.ensures.entry
    c.lesser-least.ensures.one c.lesser-least.ensures.first c.lesser-least.ensures.second c.loop-reply.invariant)

pub returns : goal.returns
returns c =
    let each = c.args.each.now in
    record {
      least = least_all each c.args.index c.loop-reply.least c.requires.some
          (subst (λ (front : List ShardReply). IsLeastSoFar front c.args.index c.loop-reply.least)
          (take_all c.loop-reply.reply-index each c.loop-reply-test.false) c.loop-reply.invariant);
    }
