use Rattle.std.proofs.Common.{sym, subst}
use Rattle.std.specs.Prelude.{IfSome, Option}
use Rattle.std.proofs.lemmas.Result.{err_from_is_err_and}
use Rattle.keyspace.specs.declared.reply.Reply.{Reply}
use Rattle.wire.specs.NextReply.{TakesReply}
use Rattle.replay_tasks.specs.Replies.{TakesReplies}
use Rattle.replay_tasks.proofs.ReadingReplies.{takes_reply_also, fault_after}
use Rattle.replay_tasks.proofs.check.replies.read_file.Goals as goal

pub returns-in_err-reply-clause-fault : goal.returns-in_err-reply-clause-fault
returns-in_err-reply-clause-fault g c =
    let p = err_from_is_err_and c.from_residual.result c.from_residual.ensures.1 in
    rw (p.1, p.2)
    (fault_after (g.S.Source.remaining c.args.reader) (g.S.Source.remaining c.loop.reader) c.loop.replies.items
    c.in_err-reply.field-0.0 c.loop.invariant c.in_err-reply.ensures.fault)

pub loop-preserved : goal.loop-preserved
loop-preserved g c =
    let before = g.S.Source.remaining c.args.reader in
    let between = g.S.Source.remaining c.loop.reader in
    let now = g.S.Source.remaining c.read_reply.new.reader in
    let next = subst (λ (found : Option Reply). IfSome found (TakesReply between now)) c.in-Some.is c.in_ok-reply.ensures.reply in
    subst (TakesReplies before now) (sym c.in_ok-push.ensures.items)
    (takes_reply_also before between now c.loop.replies.items c.in-Some.reply c.loop.invariant next)
