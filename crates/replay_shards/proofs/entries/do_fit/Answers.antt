use Rattle.std.proofs.Common.{◌≡◌, true, false, List, refl, sym, subst, take, take_all, All}
use Rattle.std.proofs.lemmas.List.Elements.{All-push}
use Rattle.std.proofs.lemmas.Option.{slice_get_read}
use Rattle.shards.specs.declared.shard_reply.ShardReply.{ShardReply}
use Rattle.replay_shards.specs.declared.noted_reply.NotedReply.{NotedReply}
use Rattle.replay_shards.specs.Answers.{FitsIn, noted_in, noted_each}
use Rattle.replay_shards.proofs.NotedLists.{each_next, of_one}
use Rattle.replay_shards.proofs.entries.do_fit.Goals as goal

pub returns-then-not-fits : goal.returns-then-not-fits
returns-then-not-fits c =
    let each = c.args.each.now in
    let i = c.loop-own.own-index in
    let own = c.own-item.result in
    let at = slice_get_read each _ i own refl c.loop-own-test.true c.own-item.is in
    record {
      fit = (
        λ no. absurd (let e : false ≡ true = no in cc),
        λ all. c.if-not-fits.ensures.fits.1 (of_one (FitsIn c.args.count) each i own at all),
      );
    }

pub loop-own-preserved : goal.loop-own-preserved
loop-own-preserved c =
    let each = c.args.each.now in
    let i = c.loop-own.own-index in
    let own = c.own-item.result in
    let at = slice_get_read each _ i own refl c.loop-own-test.true c.own-item.is in
    subst (λ (front : List ShardReply). All (FitsIn c.args.count) front) (sym (each_next each i own at))
    (All-push (FitsIn c.args.count) (noted_each (take i each)) (noted_in own) c.loop-own.invariant (c.if-not-fits.ensures.fits.0 refl))

pub returns : goal.returns
returns c =
    let all = subst (λ (front : List NotedReply). All (FitsIn c.args.count) (noted_each front))
    (take_all c.loop-own.own-index c.args.each.now c.loop-own-test.false) c.loop-own.invariant in
    record { fit = (λ yes. all, λ every. refl) }
