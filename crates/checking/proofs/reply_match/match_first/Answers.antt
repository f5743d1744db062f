use Rattle.std.proofs.Common.{[], ◌∷◌, ◌++◌, ◌∙◌, ap, of_z, w64}
use Rattle.checking.specs.declared.difference.Difference.{Difference}
use Rattle.checking.proofs.Matched.{missed_empty, missed_first}
use Rattle.checking.proofs.reply_match.match_first.Goals as goal
use Rattle.checking.proofs.reply_match.match_first.Goals.{in_default-via-in-Some+else-found-reply, in_default-via-in_default}

pub returns-in_ok-push-in_default-clause-matched :
    goal.returns-in_ok-push-in_default-clause-matched
returns-in_ok-push-in_default-clause-matched c =
    let reported = c.in_ok-push-in_default.ensures.items
    ∙ ap (λ (d : Difference). c.args.differences.now.items ++ d ∷ []) c.missing.ensures.missing in
    elim c.in_default.branch [
      | in_default-via-in-Some+else-found-reply w ↦
          missed_first c.args.reply.now c.args.recorded.now w.in-Some.found.now w.in-Some.others.now c.args.differences.now.items
          c.push.new.self.items w.in-Some.ensures.cases.0 c.requires.from c.requires.rise (λ same. w.if-found-reply.false (ap (of_z w64) same)) reported
      | in_default-via-in_default w ↦
          missed_empty c.args.reply.now c.args.recorded.now c.args.differences.now.items c.push.new.self.items
          w.in_default.ensures.cases reported
    ]
