-- Frames that were read, one after another.
use Rattle.std.proofs.Common.{◌≡◌, ℕ, ◌+◌, List, [], ◌∷◌, ◌++◌, length, Option, refl, subst, ◌∙◌, arith}
use Rattle.std.proofs.lemmas.List.{length-append}
use Rattle.std.specs.Io.KnownBytes.{Consumes, IsAtEnd}
use Rattle.keyspace.specs.declared.batch.Batch.{Batch}
use Rattle.wire.specs.NextFrame.{IsFrameOf}
use Rattle.wire.specs.Upgrade.{AreFrames}
use Rattle.wire.proofs.callers.Frames.{frames_last}
use Rattle.wire.proofs.callers.Known.{all_taken, consumes_none, consumes_then}
use Rattle.replay_diagnosis.specs.declared.position.Position.{Position}
use Rattle.replay_diagnosis.specs.declared.batches.FileBatches.{FileBatches}
use Rattle.replay_diagnosis.specs.declared.run_findings.Finding.{Finding}
use Rattle.replay_diagnosis.specs.Following.{HasLeast}
use Rattle.replay_diagnosis.specs.Content.{ContainsBatches, FoundIn, IsFindingAt, position_after}

-- the bytes that were read are the frames of these batches; and the position of the next frame
pub record FramesSoFar (left now : Option (List ℕ)) (number offset : ℕ) (found : FileBatches) : Type 0 where
  pub bytes : List ℕ
  pub batches : List Batch
  pub frames : AreFrames bytes batches
  pub read : Consumes left now bytes
  pub number_is : number ≡ length batches + 1
  pub offset_is : offset ≡ length bytes
  pub least : HasLeast batches found.least_previous

-- the same, wherever the next frame is
abbrev pub FramesUpTo : Option (List ℕ) → Option (List ℕ) → FileBatches → Type 0
FramesUpTo left now found = (number offset : ℕ) × FramesSoFar left now number offset found

pub no_frames : (left : Option (List ℕ)) (found : FileBatches) → HasLeast [] found.least_previous → FramesSoFar left left 1 0 found
no_frames left found least = record {
  bytes = [];
  batches = [];
  frames = refl;
  read = consumes_none left;
  number_is = refl;
  offset_is = refl;
  least = least;
}

pub one_frame_more : (left now next : Option (List ℕ)) (number offset len after : ℕ) (found more : FileBatches) (part : List ℕ) (batch : Batch)
    → FramesSoFar left now number offset found → Consumes now next part → IsFrameOf part batch → len ≡ length part
    → after ≡ offset + len
    → ((batches : List Batch) → HasLeast batches found.least_previous → HasLeast (batches ++ batch ∷ []) more.least_previous)
    → FramesSoFar left next (number + 1) after more
one_frame_more left now next number offset len after found more part batch so_far read is len_is after_is added = record {
  bytes = so_far.bytes ++ part;
  batches = so_far.batches ++ batch ∷ [];
  frames = frames_last so_far.bytes part so_far.batches batch so_far.frames is;
  read = consumes_then left now next so_far.bytes part so_far.read read;
  number_is = omega (arith, so_far.number_is, length-append so_far.batches (batch ∷ []));
  offset_is = omega (arith, so_far.offset_is, length-append so_far.bytes part, len_is, after_is);
  least = added so_far.batches so_far.least;
}

pub frames_more : (left now next : Option (List ℕ)) (found more : FileBatches) (part : List ℕ) (batch : Batch)
    → FramesUpTo left now found → Consumes now next part → IsFrameOf part batch
    → ((batches : List Batch) → HasLeast batches found.least_previous → HasLeast (batches ++ batch ∷ []) more.least_previous)
    → FramesUpTo left next more
frames_more left now next found more part batch so_far read is added =
    let number = so_far.0 in
    let offset = so_far.1 in (
      number + 1,
      offset + length part,
      one_frame_more left now next number offset (length part) (offset + length part) found more part batch so_far.2 read is refl refl
          added,
    )

pub contains : (left now : Option (List ℕ)) (number offset : ℕ) (found : FileBatches) → FramesSoFar left now number offset found
    → IsAtEnd now → ContainsBatches left found
contains left now number offset found so_far end = record {
  bytes = so_far.bytes;
  batches = so_far.batches;
  frames = so_far.frames;
  read = all_taken left now so_far.bytes so_far.read end;
  least = so_far.least;
}

pub found_in : (left now : Option (List ℕ)) (number offset : ℕ) (batches : FileBatches) (position : Position) (finding : Finding)
    → FramesSoFar left now number offset batches → position ≡ record { frame = number; offset = offset }
    → IsFindingAt position now finding → FoundIn left finding
found_in left now number offset batches position finding so_far at next =
    let number_is = so_far.number_is in
    let offset_is = so_far.offset_is in
    let same : record { frame = number; offset = offset } ≡ position_after so_far.bytes so_far.batches =
    λ i. record { frame = number_is i; offset = offset_is i } in
    record {
      now = now;
      bytes = so_far.bytes;
      batches = so_far.batches;
      frames = so_far.frames;
      read = so_far.read;
      next = subst (λ (p : Position). IsFindingAt p now finding) (at ∙ same) next;
    }
