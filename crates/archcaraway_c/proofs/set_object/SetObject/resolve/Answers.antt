use Rattle.std.proofs.Common.{rules, arith, ◌∙◌, ℕ, List, length, inl, inr, refl, sym, subst}
use Rattle.archcaraway_c.specs.SetObject.{Replies, SetRefuses}
use Rattle.archcaraway_c.specs.declared.refusal.Refusal.{Refusal}
use Rattle.archcaraway_c.proofs.WhenFull.{kept_or_stopped}
use Rattle.archcaraway_c.proofs.set_object.SetObject.resolve.Goals as goal

pub returns-then-is_late-clause-refused : goal.returns-then-is_late-clause-refused
returns-then-is_late-clause-refused c = (search rules, (c.in-Ok.batch, c.in-Ok.ensures.frame, search rules), refl)

pub returns-clause-refused : goal.returns-clause-refused
returns-clause-refused c =
    let s = c.in-Err-reply.ensures.stops in
    subst (λ (r : Refusal). SetRefuses c.args.when_full c.args.self.now c.reply.new.self c.args.frame.now (length c.args.answer.now) r)
    (sym s.1)
    (inr (
      search rules,
      record {
        batch = c.in-Ok.batch;
        asked = c.in-Ok.ensures.frame;
        rising = search rules;
        fits = omega (arith, c.if-answer-most.false, c.most_reply_length-most.ensures.most);
        met = s.0;
        stop_is = refl;
        at_batch = s.2;
      },
    ))

pub returns-in-Ok-reply-clause-resolved : goal.returns-in-Ok-reply-clause-resolved
returns-in-Ok-reply-clause-resolved c = record {
  batch = c.in-Ok.batch;
  asked = c.in-Ok.ensures.frame;
  replies = subst (λ (bytes : List ℕ). Replies c.args.self.now c.reply.new.self c.in-Ok.batch bytes)
      (sym (c.put_frame.ensures.written ∙ c.deref.ensures.value)) c.in-Ok-reply.ensures.replies;
}

pub returns-clause-kept : goal.returns-clause-kept
returns-clause-kept c =
    let s = c.in-Err-reply.ensures.stops in
    elim (kept_or_stopped c.args.when_full s.0 c.args.self.now c.reply.new.self s.2.met_now) [
      | inl same ↦ inl same
      | inr stopped ↦ inr (s.0, stopped, s.1)
    ]
