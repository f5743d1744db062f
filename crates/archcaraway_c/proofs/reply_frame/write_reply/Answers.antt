use Rattle.std.proofs.Common.{ℕ, List, length, Some, refl, sym, subst, ◌∙◌}
use Rattle.keyspace.specs.declared.answer.Answer.TheVariants as answer
use Rattle.wire.specs.Spelling.{SpellsReply}
use Rattle.archcaraway_c.specs.declared.refusal.Refusal.{Refusal}
use Rattle.archcaraway_c.specs.Given.{WriteRefuses}
use Rattle.archcaraway_c.proofs.reply_frame.write_reply.Goals as goal

pub returns-clause-refused : goal.returns-clause-refused
returns-clause-refused c =
    let reply = c.args.reply.now in
    let small = c.in-Err-write_frame.ensures.small in
    subst (λ (r : Refusal). WriteRefuses (Some (answer.Reply reply)) (length c.args.buffer.now) r) (sym small.0) (
      small.1,
      (
        reply,
        c.deref.result.now,
        refl,
        subst (λ (bytes : List ℕ). SpellsReply bytes reply) (sym c.deref.ensures.value) c.in-Ok.ensures.spelled,
        refl,
      ),
    )

pub returns-in-Ok-write_frame-clause-spelled : goal.returns-in-Ok-write_frame-clause-spelled
returns-in-Ok-write_frame-clause-spelled c =
    subst (λ (bytes : List ℕ). SpellsReply bytes c.args.reply.now) (sym (c.in-Ok-write_frame.ensures.written ∙ c.deref.ensures.value))
    c.in-Ok.ensures.spelled
