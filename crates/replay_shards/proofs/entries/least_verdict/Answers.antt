use Rattle.std.proofs.Common.{◌<◌, List, refl, sym, subst, take, take_all}
use Rattle.std.proofs.lemmas.Option.{slice_get_read}
use Rattle.shards.specs.Combined.{FitsAt}
use Rattle.shards.specs.declared.shard_reply.ShardReply.{ShardReply}
use Rattle.shards.proofs.callers.Combining.{IsLeastSoFar, least_more, least_all}
use Rattle.replay_shards.specs.declared.noted_reply.NotedReply.{NotedReply}
use Rattle.replay_shards.specs.Answers.{noted_in, noted_each}
use Rattle.replay_shards.proofs.NotedLists.{each_next, of_one, as_long}
use Rattle.replay_shards.proofs.entries.least_verdict.Goals as goal

pub entry-requires : goal.entry-requires
entry-requires c =
    let each = c.args.each.now in
    let i = c.loop-own.own-index in
    let own = c.own-item.result in
    let at = slice_get_read each _ i own refl c.loop-own-test.true c.own-item.is in
    record { within = (of_one (FitsAt c.args.index) each i own at c.requires.fit).entry }

pub loop-own-preserved : goal.loop-own-preserved
loop-own-preserved c =
    let each = c.args.each.now in
    let i = c.loop-own.own-index in
    let own = c.own-item.result in
    let at = slice_get_read each _ i own refl c.loop-own-test.true c.own-item.is in
    subst (λ (front : List ShardReply). IsLeastSoFar front c.args.index c.lesser-least.result) (sym (each_next each i own at))
    (least_more (noted_each (take i each)) c.args.index c.loop-own.least c.lesser-least.result (noted_in own) c.entry.result.now
    c.entry.ensures.entry c.lesser-least.ensures.one c.lesser-least.ensures.first c.lesser-least.ensures.second c.loop-own.invariant)

pub returns : goal.returns
returns c =
    let each = c.args.each.now in
    record {
      least = least_all (noted_each each) c.args.index c.loop-own.least
          (subst (λ n. 0 < n) (sym (as_long each)) c.requires.some)
          (subst (λ (front : List NotedReply). IsLeastSoFar (noted_each front) c.args.index c.loop-own.least)
          (take_all c.loop-own.own-index each c.loop-own-test.false) c.loop-own.invariant);
    }
