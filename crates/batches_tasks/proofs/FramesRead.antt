-- Frames that were read, one after another.
use Rattle.std.proofs.Common.{◌≡◌, ℕ, ◌+◌, List, [], ◌∷◌, ◌++◌, length, Option, refl, subst, arith}
use Rattle.std.proofs.lemmas.List.{length-append}
use Rattle.std.specs.Io.KnownBytes.{Consumes}
use Rattle.keyspace.specs.declared.batch.Batch.{Batch}
use Rattle.wire.specs.NextFrame.{IsFrameOf}
use Rattle.wire.specs.Upgrade.{AreFrames}
use Rattle.wire.proofs.callers.Frames.{frames_last}
use Rattle.wire.proofs.callers.Known.{consumes_none, consumes_then}
use Rattle.batches_tasks.specs.Counting.{StopsAfterFrames}
use Rattle.batches_tasks.specs.Failing.{FailsFrame}
use Rattle.batches_tasks.specs.declared.failure.Failure.{Failure}
use Rattle.batches_arguments.specs.declared.kind.Kind.TheVariants.{Batches}

-- the bytes that were read are the frames of these batches; and the number of the next frame, counted from 1
pub record FramesSoFar (left now : Option (List ℕ)) (number : ℕ) : Type 0 where
  pub bytes : List ℕ
  pub batches : List Batch
  pub frames : AreFrames bytes batches
  pub read : Consumes left now bytes
  pub counted : number ≡ length batches + 1

abbrev pub no_frames : (left : Option (List ℕ)) → FramesSoFar left left 1
no_frames left = record { bytes = []; batches = []; frames = refl; read = consumes_none left; counted = refl }

abbrev pub one_frame_more : (left now next : Option (List ℕ)) (number : ℕ) (part : List ℕ) (batch : Batch)
    → FramesSoFar left now number → Consumes now next part → IsFrameOf part batch → FramesSoFar left next (number + 1)
one_frame_more left now next number part batch so_far read is = record {
  bytes = so_far.bytes ++ part;
  batches = so_far.batches ++ batch ∷ [];
  frames = frames_last so_far.bytes part so_far.batches batch so_far.frames is;
  read = consumes_then left now next so_far.bytes part so_far.read read;
  counted = omega (arith, so_far.counted, length-append so_far.batches (batch ∷ []));
}

pub stops_after : (left now : Option (List ℕ)) (number : ℕ) (e : Failure) → FramesSoFar left now number
    → FailsFrame Batches number now e → StopsAfterFrames left e
stops_after left now number e so_far fails = record {
  now = now;
  bytes = so_far.bytes;
  batches = so_far.batches;
  frames = so_far.frames;
  read = so_far.read;
  fails = subst (λ (n : ℕ). FailsFrame Batches n now e) so_far.counted fails;
}
