use Rattle.std.proofs.Common.{◌≡◌}
use Rattle.batches_tasks.specs.Clipping.{BecomesClip}
use Rattle.batches_tasks.proofs.Turning.{SoFar}
use Rattle.batches_tasks.proofs.clipper.clip_frames.Given as goal

abbrev pub invariant-loop-number : goal.invariant-loop-number
invariant-loop-number g l =
    SoFar (BecomesClip l.points l.shard) (g.R.Source.remaining l.fn.reader) (g.R.Source.remaining l.reader)
    (g.W.Sink.given l.fn.writer) (g.W.Sink.given l.writer) l.number
    × (g.W.Sink.failures l.writer ≡ g.W.Sink.failures l.fn.writer)
    × (g.R.Source.failures l.reader ≡ g.R.Source.failures l.fn.reader)
