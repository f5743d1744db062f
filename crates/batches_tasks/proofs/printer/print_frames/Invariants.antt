use Rattle.std.proofs.Common.{◌≡◌, None}
use Rattle.batches_tasks.specs.Lines.{IsPrinted}
use Rattle.batches_tasks.specs.ErrorText.{ReportsText, progress_length}
use Rattle.batches_tasks.proofs.Turning.{SoFar}
use Rattle.batches_tasks.proofs.printer.print_frames.Given as goal

abbrev pub invariant-loop-number : goal.invariant-loop-number
invariant-loop-number g l =
    SoFar (IsPrinted l.kind l.form) (g.R.Source.remaining l.fn.reader) (g.R.Source.remaining l.reader) (g.W.Sink.given l.fn.writer)
    (g.W.Sink.given l.writer) l.number
    × (g.W.Sink.failures l.writer ≡ g.W.Sink.failures l.fn.writer)
    × (g.R.Source.failures l.reader ≡ g.R.Source.failures l.fn.reader)
    × (progress_length l.progress ≡ progress_length l.fn.progress)
    × ReportsText (g.E.Sink.given l.fn.error) (g.E.Sink.given l.error) (g.E.Sink.failures l.fn.error) (g.E.Sink.failures l.error)
    × (progress_length l.fn.progress ≡ None → l.error ≡ l.fn.error)
