use Rattle.std.proofs.Common.{List, ℕ, Option, subst}
use Rattle.std.specs.Prelude.{IfNone, IfSome}
use Rattle.std.specs.Io.KnownBytes.{Consumes, IsAtEnd}
use Rattle.keyspace.specs.declared.batch.Batch.{Batch}
use Rattle.wire.specs.NextFrame.{IsFrameOf}
use Rattle.replay_diagnosis.proofs.FramesRead.{contains, frames_more, no_frames}
use Rattle.replay_diagnosis.proofs.unbegun.examine_unbegun.Goals as goal

pub loop-init : goal.loop-init
loop-init g c = (1, 0, no_frames (g.R.Source.remaining c.args.reader.now) c.none-batches.result c.none-batches.ensures.none)

pub loop-preserved : goal.loop-preserved
loop-preserved g c =
    let now = g.R.Source.remaining c.loop.reader in
    let next = g.R.Source.remaining c.next_batch.new.reader in
    let frame = c.next_batch.new.frame.items in
    let taken = subst (λ (found : Option Batch). IfSome found (λ b. Consumes now next frame × IsFrameOf frame b)) c.in-Some.is
    c.in-Ok.ensures.taken in
    frames_more (g.R.Source.remaining c.args.reader.now) now next c.loop.batches c.add.new.self frame c.in-Some.batch c.loop.invariant
    taken.0 taken.1 c.add.ensures.added

pub returns-in-None : goal.returns-in-None
returns-in-None g c =
    let left = g.R.Source.remaining c.args.reader.now in
    let now = g.R.Source.remaining c.loop.reader in
    let next = g.R.Source.remaining c.next_batch.new.reader in
    let end = subst (λ (found : Option Batch). IfNone found (IsAtEnd now × IsAtEnd next)) c.in-None.is c.in-Ok.ensures.end in
    let so_far = c.loop.invariant in
    record { batches = contains left now so_far.0 so_far.1 c.loop.batches so_far.2 end.0 }
