use Rattle.std.proofs.Common.{ℕ, List, Option, refl, subst, ◌∙◌}
use Rattle.std.specs.Prelude.{IfSome}
use Rattle.std.specs.Io.KnownBytes.{Consumes}
use Rattle.keyspace.specs.declared.reply.Reply.{Reply}
use Rattle.wire.specs.Spelling.{SpellsReply}
use Rattle.batches_tasks.proofs.TalliedSoFar.{no_replies, one_reply_more}
use Rattle.batches_tasks.proofs.frame_tally.tally_replies.Goals as goal

pub loop-number-init : goal.loop-number-init
loop-number-init g c = (no_replies (g.R.Source.remaining c.args.reader.now) c.args.tally.now, refl)

pub loop-number-preserved : goal.loop-number-preserved
loop-number-preserved g c =
    let left = g.R.Source.remaining c.args.reader.now in
    let now = g.R.Source.remaining c.loop-number.reader in
    let next = g.R.Source.remaining c.next_reply.new.reader in
    let frame = c.next_reply.new.frame.items in
    let taken = subst (λ (found : Option Reply). IfSome found (λ r. Consumes now next frame × SpellsReply frame r)) c.in-Some.is
    c.in_ok-reply.ensures.taken in (
      one_reply_more left now next c.args.tally.now c.loop-number.tally c.add_reply.new.self c.loop-number.number
          frame c.in-Some.reply c.loop-number.invariant.0 taken.0 taken.1 c.in_ok-add_reply.ensures.added,
      c.in_ok-reply.ensures.ok ∙ c.loop-number.invariant.1,
    )
