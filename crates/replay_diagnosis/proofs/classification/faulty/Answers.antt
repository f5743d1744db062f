use Rattle.std.proofs.Common.{refl, rules}
use Rattle.replay_diagnosis.proofs.FrontLengths.{ends_early}
use Rattle.replay_diagnosis.proofs.classification.faulty.Goals as goal

pub returns-then-front-settled-clause-finding : goal.returns-then-front-settled-clause-finding
returns-then-front-settled-clause-finding c = (
  refl,
  ends_early c.args.front.now c.frame_length-settled.result c.frame_length-settled.ensures.exact c.requires.some (search rules),
  search rules,
)
