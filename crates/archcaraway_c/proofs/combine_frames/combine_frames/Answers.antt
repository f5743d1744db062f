use Rattle.std.proofs.Common.{◌∙◌, ℕ, List, length, refl, subst, inl, inr}
use Rattle.std.proofs.lemmas.Slice.Zip.{AllZip-long}
use Rattle.serial.specs.Shards.{Shard, shards}
use Rattle.shards.specs.declared.shard_reply.ShardReply.{ShardReply}
use Rattle.shards.specs.Numbered.{AreNumbered}
use Rattle.shards.specs.Combined.{IsCombined}
use Rattle.archcaraway_c.specs.ShardFrames.{EachRefuses}
use Rattle.archcaraway_c.proofs.Combining.{replies_refused, each_refused, replied}
use Rattle.archcaraway_c.proofs.combine_frames.combine_frames.Goals as goal

pub returns-in-Err-clause-refused : goal.returns-in-Err-clause-refused
returns-in-Err-clause-refused c = inl c.in-Err.ensures.refused

pub returns-in-Err-number_all-clause-refused : goal.returns-in-Err-number_all-clause-refused
returns-in-Err-number_all-clause-refused c = inl (inl refl)

pub returns-in-Err-read_replies-clause-refused : goal.returns-in-Err-read_replies-clause-refused
returns-in-Err-read_replies-clause-refused c =
    let points = c.args.points.now in
    let batch = c.in-Ok.batch in
    let all = c.in-Ok-number_all.all in
    let R = λ (shard : Shard) (reads : List (List ℕ)). AreNumbered shard batch reads in
    let count = AllZip-long R (shards points) all.items c.in-Ok-number_all.ensures.numbered in
    replies_refused points c.args.frame.now c.args.replies.now (length c.args.buffer.now) batch _ c.in-Err-read_replies.refusal
    c.in-Ok.ensures.frame (all.ok.0 ∙ count) c.in-Err-read_replies.ensures.refused

pub returns-in-Err-combine_each-clause-refused : goal.returns-in-Err-combine_each-clause-refused
returns-in-Err-combine_each-clause-refused c =
    let points = c.args.points.now in
    let batch = c.in-Ok.batch in
    let each = c.in-Ok-read_replies.each.items in
    let to = replied points batch c.args.replies.now c.in-Ok-number_all.all.items each c.in-Ok-number_all.ensures.numbered
    c.in-Ok-read_replies.ensures.reads c.in-Ok-read_replies.ensures.replies in
    each_refused points c.args.frame.now c.args.replies.now (length c.args.buffer.now) batch each c.in-Err-combine_each.refusal
    c.in-Ok.ensures.frame to
    (subst (λ (all : List ShardReply). EachRefuses batch all c.in-Err-combine_each.refusal) c.deref.ensures.value
    c.in-Err-combine_each.ensures.refused)

pub returns-clause-refused : goal.returns-clause-refused
returns-clause-refused c =
    let points = c.args.points.now in
    let batch = c.in-Ok.batch in
    let each = c.in-Ok-read_replies.each.items in
    let reply = c.in-Ok-combine_each.reply in
    inr (
      reply,
      record {
        batch = batch;
        each = each;
        asked = c.in-Ok.ensures.frame;
        replied = replied points batch c.args.replies.now c.in-Ok-number_all.all.items each c.in-Ok-number_all.ensures.numbered
            c.in-Ok-read_replies.ensures.reads c.in-Ok-read_replies.ensures.replies;
        combined = subst (λ (all : List ShardReply). IsCombined batch all reply) c.deref.ensures.value c.in-Ok-combine_each.ensures.combined;
      },
      c.in-Err-write_reply.ensures.refused,
    )

pub returns-in-Ok-write_reply-clause-combined : goal.returns-in-Ok-write_reply-clause-combined
returns-in-Ok-write_reply-clause-combined c =
    let points = c.args.points.now in
    let batch = c.in-Ok.batch in
    let each = c.in-Ok-read_replies.each.items in
    let reply = c.in-Ok-combine_each.reply in (
      reply,
      record {
        batch = batch;
        each = each;
        asked = c.in-Ok.ensures.frame;
        replied = replied points batch c.args.replies.now c.in-Ok-number_all.all.items each c.in-Ok-number_all.ensures.numbered
            c.in-Ok-read_replies.ensures.reads c.in-Ok-read_replies.ensures.replies;
        combined = subst (λ (all : List ShardReply). IsCombined batch all reply) c.deref.ensures.value c.in-Ok-combine_each.ensures.combined;
      },
      c.in-Ok-write_reply.ensures.spelled,
    )
