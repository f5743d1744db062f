use Rattle.std.proofs.Common.{inr, map}
use Rattle.std.specs.Prelude.{string_bytes}
use Rattle.replay_program.proofs.program.environment.run_in.Goals as goal

pub returns-in-Ok-clause-mistaken : goal.returns-in-Ok-clause-mistaken
returns-in-Ok-clause-mistaken g c = λ is. inr (map string_bytes c.deref.result.now, c.run.ensures.mistaken is)
