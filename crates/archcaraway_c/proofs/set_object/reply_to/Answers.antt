use Rattle.std.proofs.Common.{◌≡◌, ◌++◌, refl, sym, ◌∙◌, inr, subst}
use Rattle.keyspace.specs.declared.reply.Reply.{Reply}
use Rattle.keyspace.specs.Writes.{committed_ranges, writes_of}
use Rattle.keyspace.specs.Judged.{edge}
use Rattle.keyspace.proofs.callers.Judging.{only_judge}
use Rattle.conflict.specs.declared.error.SetStop.TheVariants.{Memory, ArenaFull}
use Rattle.conflict.specs.ConflictSet.{with_edge, stop_after, HasRoomToWrite}
use Rattle.archcaraway_c.proofs.ReplyLength.{reply_within}
use Rattle.archcaraway_c.proofs.WhenFull.{met_after}
use Rattle.archcaraway_c.proofs.set_object.reply_to.Goals as goal

pub returns-in-Ok-encode_reply-clause-short : goal.returns-in-Ok-encode_reply-clause-short
returns-in-Ok-encode_reply-clause-short c =
    let ws = c.requires.remembers.0 in
    let covers = c.requires.remembers.1.covers in
    reply_within _ ws c.args.batch.now c.in-Ok.reply c.in-Ok-encode_reply.frame.items
    (c.in-Ok.ensures.resolves.map.judged ws covers) c.in-Ok-encode_reply.ensures.spelled

pub returns-in-Ok-encode_reply-clause-remembers : goal.returns-in-Ok-encode_reply-clause-remembers
returns-in-Ok-encode_reply-clause-remembers c =
    let ws = c.requires.remembers.0 in
    let before = c.requires.remembers.1 in (
      ws ++ writes_of c.args.batch.now c.in-Ok.reply,
      record {
        covers = c.in-Ok.ensures.resolves.map.covers ws before.covers;
        rooted = c.in-Ok.ensures.resolves.map.rooted ws before.rooted;
      },
    )

pub returns-clause-remembers : goal.returns-clause-remembers
returns-clause-remembers c =
    let ws = c.requires.remembers.0 in
    let before = c.requires.remembers.1 in (
      ws ++ writes_of c.args.batch.now c.in-Ok.reply,
      record {
        covers = c.in-Ok.ensures.resolves.map.covers ws before.covers;
        rooted = c.in-Ok.ensures.resolves.map.rooted ws before.rooted;
      },
    )

pub returns-in-Ok-encode_reply-clause-replies : goal.returns-in-Ok-encode_reply-clause-replies
returns-in-Ok-encode_reply-clause-replies c =
    let resolves = c.in-Ok.ensures.resolves in
    record {
      reply = c.in-Ok.reply;
      answered = c.in-Ok-encode_reply.ensures.spelled;
      judged = resolves.map.judged;
      continues = record {
        resolved = resolves.resolved;
        window = resolves.window;
        limit = resolves.map.limit;
        stop = resolves.continues.1;
        covers = resolves.map.covers;
      };
    }

pub returns-in-Err-clause-refused : goal.returns-in-Err-clause-refused
returns-in-Err-clause-refused c = λ refuse full.
    let is : c.in-Err.stop ≡ ArenaFull = cc full in
    c.in-Err.ensures.stops.refused refuse is

pub returns-in-Err-clause-remembers : goal.returns-in-Err-clause-remembers
returns-in-Err-clause-remembers c =
    let ws = c.requires.remembers.0 in
    let before = c.requires.remembers.1 in
    let fails = c.in-Err.ensures.stops.map c.requires.continues in
    (ws, record { covers = fails.covers ws before.covers; rooted = fails.rooted ws before.rooted })

pub returns-in-Err-clause-stops : goal.returns-in-Err-clause-stops
returns-in-Err-clause-stops c =
    let old = c.args.set.now in
    let w = c.args.when_full in
    let met = c.in-Err.stop in
    let stops = c.in-Err.ensures.stops in
    let map = stops.map c.requires.continues in
    record {
      met_now = met_after w met old c.resolve_when.new.self old.stop (stop_after w met) c.requires.continues refl
          stops.refused;
      window = stops.window;
      limit = map.limit;
      full = λ is ws reply before judged. (map.full is ws reply before.covers before.rooted judged).over;
      no_room = λ is ws reply before judged. (map.full is ws reply before.covers before.rooted judged).no_room;
      memory = λ is ws reply before judged. map.memory is ws reply before.covers judged;
    }

-- There was room, since the batch was judged and written.
pub returns-clause-stops : goal.returns-clause-stops
returns-clause-stops c =
    let old = c.args.set.now in
    let batch = c.args.batch.now in
    record {
      met_now = met_after c.args.when_full Memory old c.resolve_when.new.self old.stop (stop_after c.args.when_full Memory)
          c.requires.continues refl (λ refuse full. absurd cc);
      window = c.in-Ok.ensures.resolves.window;
      limit = c.in-Ok.ensures.resolves.map.limit;
      full = λ is. absurd cc;
      no_room = λ is. absurd cc;
      memory = λ is ws reply before judged.
          let same : c.in-Ok.reply ≡ reply =
          only_judge old.window ws batch c.in-Ok.reply (c.in-Ok.ensures.resolves.map.judged ws before.covers)
          ∙ sym (only_judge old.window ws batch reply judged) in
          inr (subst (λ (r : Reply). HasRoomToWrite (with_edge (edge old.window batch) old.map) (committed_ranges batch.txns r.entries))
          same c.in-Ok.ensures.resolves.map.room);
    }
