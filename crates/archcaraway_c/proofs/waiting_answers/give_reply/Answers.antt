use Rattle.std.proofs.Common.{rules, refl}
use Rattle.archcaraway_c.proofs.waiting_answers.give_reply.Goals as goal

pub returns-in-Ok-clause-reported : goal.returns-in-Ok-clause-reported
returns-in-Ok-clause-reported c = (c.args.reply.now, refl, search rules, c.in-Ok.ensures.within, c.in-Ok.ensures.spelled)
