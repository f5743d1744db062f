use Rattle.std.proofs.Common.{ap, refl, sym, subst, List, ℕ}
use Rattle.std.specs.Io.KnownBytes.{IsAtEnd}
use Rattle.std.specs.Prelude.{Option}
use Rattle.wire.specs.declared.frames.Frames.{Frames}
use Rattle.wire.specs.Frames.{frames_reader}
use Rattle.wire.specs.NextFrame.{TakesFrame}
use Rattle.wire.specs.Batches.{IsFaultAt}
use Rattle.replay_output.specs.declared.options.reports.Reports.{Reports}
use Rattle.replay_output.specs.declared.options.reports.Reports.TheVariants.{Asked, All}
use Rattle.replay_workers.specs.declared.reporting_batches.AskingFrames.{AskingFrames}
use Rattle.replay_workers.specs.Asking.{asking_reader}
use Rattle.replay_workers.specs.Reporting.{SendsFrames, TakesResolved}
use Rattle.replay_workers.specs.Worker.{fault_of, unsent_of}
use Rattle.replay_workers.proofs.callers.Reading.{sends_seen}
use Rattle.replay_stream.proofs.sender.Sender.send_file.Goals as goal

pub returns-in-Asked-clause-sent : goal.returns-in-Asked-clause-sent
returns-in-Asked-clause-sent g c =
    let view = λ (frames : Frames g.row.S.Denot). g.S.Source.remaining (frames_reader frames) in
    let before = c.args.self.now.requests.sent in
    let now = c.send_batches.new.self.requests.sent in
    let fault = fault_of c.send_batches.result in
    let unsent = unsent_of c.send_batches.result in
    subst (λ (reports : Reports). SendsFrames reports (g.S.Source.remaining c.args.reader) before now fault unsent) (sym c.in-Asked.is)
    (subst (λ (bytes : Option (List ℕ)). SendsFrames Asked bytes before now fault unsent)
    (ap g.S.Source.remaining c.read_frames-frames.ensures.reader)
    (sends_seen view (λ old new. TakesFrame (view old) (view new)) (TakesResolved Asked) (λ old new batch takes. (batch, takes, refl))
    IsAtEnd IsFaultAt c.read_frames-frames.result before now fault unsent c.send_batches.ensures.sent))

pub returns-in-All-clause-sent : goal.returns-in-All-clause-sent
returns-in-All-clause-sent g c =
    let view = λ (frames : AskingFrames g.row.S.Denot). g.S.Source.remaining (asking_reader frames) in
    let before = c.args.self.now.requests.sent in
    let now = c.send_batches-in-All.new.self.requests.sent in
    let fault = fault_of c.send_batches-in-All.result in
    let unsent = unsent_of c.send_batches-in-All.result in
    subst (λ (reports : Reports). SendsFrames reports (g.S.Source.remaining c.args.reader) before now fault unsent) (sym c.in-All.is)
    (subst (λ (bytes : Option (List ℕ)). SendsFrames All bytes before now fault unsent)
    (ap g.S.Source.remaining c.read_asking-asking.ensures.reader)
    (sends_seen view (λ old new. TakesResolved All (view old) (view new)) (TakesResolved All) (λ old new batch takes. takes)
    IsAtEnd IsFaultAt c.read_asking-asking.result before now fault unsent c.send_batches-in-All.ensures.sent))
