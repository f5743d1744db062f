use Rattle.std.proofs.Common.{sym, subst}
use Rattle.std.specs.Prelude.{Option, IfSome}
use Rattle.keyspace.specs.declared.batch.Batch.{Batch}
use Rattle.wire.specs.Frames.{frames_reader}
use Rattle.wire.specs.NextFrame.{TakesFrame}
use Rattle.replay_shards.proofs.clips.ClipsBatches.next.Goals as goal

pub returns-in-Ok-clause-batch : goal.returns-in-Ok-clause-batch
returns-in-Ok-clause-batch g c =
    let remaining = g.S.Source.remaining in
    let old = remaining (frames_reader c.args.self.now.frames) in
    let new = remaining (frames_reader c.next_unordered.new.self) in
    let taken = subst (λ (found : Option Batch). IfSome found (TakesFrame old new)) c.in-Some.is c.in_ok-batch.ensures.batch in
    let noted = c.in-Ok.ensures.clip in
    record {
      batch = c.in-Some.batch;
      taken = subst (λ frames. TakesFrame old (remaining (frames_reader frames)) c.in-Some.batch) (sym c.in-Ok.ensures.frames) taken;
      clipped = record {
        shard = noted.shard;
        before = noted.before;
        after = noted.after;
        is_clip = noted.is_clip;
        notes = noted.notes;
      };
    }
