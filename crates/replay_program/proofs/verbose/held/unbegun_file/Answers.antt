use Rattle.std.proofs.Common.{List, ℕ, Option, subst}
use Rattle.replay_diagnosis.specs.Content.{ContainsBatches}
use Rattle.replay_program.proofs.Saying.{weaker}
use Rattle.replay_program.proofs.verbose.held.unbegun_file.Goals as goal

pub returns-in-Ok : goal.returns-in-Ok
returns-in-Ok g c = record {
  batches = weaker c.examine_unbegun.result
      (λ batches contains.
      let are = subst (λ (left : Option (List ℕ)). ContainsBatches left batches) c.in-Ok.ensures.contents contains in
      (are.batches, (are.bytes, are.frames, are.read), are.least))
      c.examine_unbegun.ensures.batches;
}
