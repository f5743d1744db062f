use Rattle.std.proofs.Common.{sym, subst}
use Rattle.std.specs.Prelude.{IfSome, Option}
use Rattle.keyspace.specs.declared.batch.Batch.{Batch}
use Rattle.wire.specs.Frames.{frames_reader}
use Rattle.wire.specs.NextFrame.{TakesFrame}
use Rattle.replay_shards.specs.Sampling.{AreTaken}
use Rattle.replay_shards.proofs.Samples.{taken_more}
use Rattle.replay_shards.proofs.sampled_points.first_batches.Goals as goal

pub loop-count-preserved : goal.loop-count-preserved
loop-count-preserved g c =
    let before = g.S.Source.remaining c.args.reader in
    let between = g.S.Source.remaining (frames_reader c.loop-count.frames) in
    let now = g.S.Source.remaining (frames_reader c.next.new.self) in
    let next = subst (λ (found : Option Batch). IfSome found (TakesFrame between now)) c.in-Ok-Some.field-0-is c.in-Ok-Some.ensures.batch in
    subst (AreTaken before now) (sym c.in_ok-push.ensures.items)
    (taken_more before between now c.loop-count.batches.items c.in-Ok-Some.batch c.loop-count.invariant next)
