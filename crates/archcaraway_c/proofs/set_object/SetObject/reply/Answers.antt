use Rattle.std.proofs.Common.{rules, ◌≡◌, Err, None, ◌∙◌, ap, subst}
use Rattle.conflict.specs.ConflictSet.{SetState}
use Rattle.archcaraway_c.specs.SetObject.{Replies, StopsAt}
use Rattle.archcaraway_c.proofs.WhenFull.{met_after, parts_after}
use Rattle.archcaraway_c.proofs.set_object.SetObject.reply.Goals as goal

pub returns-in-Ok-clause-replies : goal.returns-in-Ok-clause-replies
returns-in-Ok-clause-replies c =
    let r = c.in-Ok.ensures.replies in
    subst (λ (set : SetState). Replies set (record c.reply_to.new.set { stop = c.self.inside.stop })
    c.args.batch.now c.in-Ok.reply.items) c.self.view_is
    (record {
      reply = r.reply;
      answered = r.answered;
      judged = r.judged;
      continues = record {
        resolved = r.continues.resolved;
        window = r.continues.window;
        limit = r.continues.limit;
        stop = ap (λ (set : SetState). set.stop) c.self.view_is ∙ c.requires.continues;
        covers = r.continues.covers;
      };
    })

pub returns-in-Err-clause-stops : goal.returns-in-Err-clause-stops
returns-in-Err-clause-stops c =
    let stop = c.in-Err.stop in
    let w = c.args.when_full in
    let none : c.self.inside.stop ≡ None = ap (λ (set : SetState). set.stop) c.self.view_is ∙ c.requires.continues in
    let s = c.in-Err.ensures.stops in (
      stop,
      search rules,
      subst (λ (set : SetState). StopsAt w set (record c.reply_to.new.set { stop = c.stop_for-self-inside.result }) c.args.batch.now stop)
          c.self.view_is
          (record {
            met_now = met_after w stop c.self.inside.set c.reply_to.new.set c.self.inside.stop c.stop_for-self-inside.result none
                c.stop_for-self-inside.ensures.stop (λ refuse full. c.in-Err.ensures.refused refuse (ap Err full));
            window = s.window;
            limit = s.limit;
            full = λ is ws reply before judged.
                s.full is ws reply (record { covers = before.covers; rooted = before.rooted }) judged;
            no_room = λ is ws reply before judged.
                s.no_room is ws reply (record { covers = before.covers; rooted = before.rooted }) judged;
            memory = λ is ws reply before judged.
                s.memory is ws reply (record { covers = before.covers; rooted = before.rooted }) judged;
          }),
    )

pub invariant_of-self-in-Err : goal.invariant_of-self-in-Err
invariant_of-self-in-Err c =
    let none : c.self.inside.stop ≡ None = ap (λ (set : SetState). set.stop) c.self.view_is ∙ c.requires.continues in
    parts_after c.args.when_full c.in-Err.stop c.self.inside.set c.reply_to.new.set _ c.self.inside.stop c.stop_for-self-inside.result
    c.self.invariant none c.stop_for-self-inside.ensures.stop (λ refuse full. c.in-Err.ensures.refused refuse (ap Err full))
    c.in-Err.ensures.remembers
