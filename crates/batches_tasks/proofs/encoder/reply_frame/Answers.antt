use Rattle.std.proofs.Common.{Err, inl, inr, refl, ap, sym, subst}
use Rattle.batches_tasks.specs.Failing.{IsFailureOfLine}
use Rattle.batches_arguments.specs.declared.kind.Kind.TheVariants.{Replies}
use Rattle.batches_tasks.proofs.encoder.reply_frame.Goals as goal

pub returns-in-Ok-clause-fails : goal.returns-in-Ok-clause-fails
returns-in-Ok-clause-fails c =
    elim c.of_long.ensures.which [
      | inl long ↦ subst (IsFailureOfLine Replies c.args.number c.args.line.now) (sym long.1)
          (refl, (c.in-Ok.reply, c.in-Ok.ensures.reply, c.in-Err-encode_reply.ensures.long.0 (ap Err long.0)))
      | inr other ↦ subst (IsFailureOfLine Replies c.args.number c.args.line.now) (sym other.1) tt
    ]
