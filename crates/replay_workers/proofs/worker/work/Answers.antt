use Rattle.std.proofs.Common.{ap, subst}
use Rattle.std.specs.Io.KnownBytes.{IsAtEnd}
use Rattle.std.specs.Prelude.{Option, List, ℕ}
use Rattle.wire.specs.declared.frames.Frames.{Frames}
use Rattle.wire.specs.Frames.{frames_reader}
use Rattle.wire.specs.NextFrame.{TakesFrame}
use Rattle.wire.specs.Batches.{IsFaultAt}
use Rattle.replay_workers.specs.Worker.{HasWorked}
use Rattle.replay_workers.proofs.Seen.{worked_seen}
use Rattle.replay_workers.proofs.worker.work.Goals as goal

pub returns-clause-worked : goal.returns-clause-worked
returns-clause-worked g c =
    let view = λ (frames : Frames g.row.S.Denot). g.S.Source.remaining (frames_reader frames) in
    let assignment = c.args.assignment in
    subst (λ (bytes : Option (List ℕ)). HasWorked assignment.style assignment.proxy bytes c.args.client c.work_over.result)
    (ap g.S.Source.remaining c.read_frames-frames.ensures.reader)
    (worked_seen view (λ old new. TakesFrame (view old) (view new)) TakesFrame IsAtEnd IsFaultAt (λ _ _ _ takes. takes) _ assignment.style assignment.proxy c.read_frames-frames.result c.args.client
    c.work_over.result c.work_over.ensures.worked)
