-- Batches that were read so far, and counted or added.
use Rattle.std.proofs.Common.{◌≡◌, ℕ, ◌+◌, List, [], ◌∷◌, ◌++◌, length, Option, sym, ap, ◌∙◌, append_assoc, arith}
use Rattle.std.proofs.lemmas.List.{append-nil, length-append}
use Rattle.std.specs.Io.KnownBytes.{Consumes, IsAtEnd}
use Rattle.keyspace.specs.declared.batch.Batch.{Batch}
use Rattle.wire.specs.NextFrame.{IsFrameOf}
use Rattle.batches_tasks.specs.Counting.{Collects, Counts}
use Rattle.batches_tasks.specs.Stats.{stats_of}
use Rattle.batches_tasks.specs.declared.stats.Stats.{Stats}
use Rattle.wire.proofs.callers.Known.{all_taken}
use Rattle.batches_tasks.proofs.FramesRead.{FramesSoFar, no_frames, one_frame_more}

pub record CountedSoFar (left now : Option (List ℕ)) (old new : Stats) (number : ℕ) : Type 0 where
  pub so_far : FramesSoFar left now number
  pub counted : (n : ℕ) (others : List Batch) → old ≡ stats_of n others
      → new ≡ stats_of (n + length so_far.bytes) (others ++ so_far.batches)

pub none_counted : (left : Option (List ℕ)) (stats : Stats) → CountedSoFar left left stats stats 1
none_counted left stats = record {
  so_far = no_frames left;
  counted = λ n others is.
      let count : n ≡ n + 0 = omega arith in
      is ∙ (λ i. stats_of (count i) (sym (append-nil others) i));
}

pub one_counted : (left now next : Option (List ℕ)) (old stats new : Stats) (number len : ℕ) (part : List ℕ) (batch : Batch)
    → CountedSoFar left now old stats number → Consumes now next part → IsFrameOf part batch → len ≡ length part
    → ((n : ℕ) (others : List Batch) → stats ≡ stats_of n others → new ≡ stats_of (n + len) (others ++ batch ∷ []))
    → CountedSoFar left next old new (number + 1)
one_counted left now next old stats new number len part batch before read is is_len step =
    let so_far = before.so_far in record {
      so_far = one_frame_more left now next number part batch so_far read is;
      counted = λ n others from.
          let count : n + length so_far.bytes + len ≡ n + length (so_far.bytes ++ part) =
          omega (arith, length-append so_far.bytes part, is_len) in
          step (n + length so_far.bytes) (others ++ so_far.batches) (before.counted n others from)
          ∙ (λ i. stats_of (count i) (append_assoc others so_far.batches (batch ∷ []) i));
    }

pub all_counted : (left now : Option (List ℕ)) (old new : Stats) (number : ℕ) → CountedSoFar left now old new number
    → IsAtEnd now → Counts left old new
all_counted left now old new number before end =
    let so_far = before.so_far in record {
      bytes = so_far.bytes;
      batches = so_far.batches;
      frames = so_far.frames;
      read = all_taken left now so_far.bytes so_far.read end;
      counted = before.counted;
    }

pub record CollectedSoFar (left now : Option (List ℕ)) (old new : List Batch) (number : ℕ) : Type 0 where
  pub so_far : FramesSoFar left now number
  pub added : new ≡ old ++ so_far.batches

pub none_collected : (left : Option (List ℕ)) (old : List Batch) → CollectedSoFar left left old old 1
none_collected left old = record { so_far = no_frames left; added = sym (append-nil old) }

pub one_collected : (left now next : Option (List ℕ)) (old batches new : List Batch) (number : ℕ) (part : List ℕ) (batch : Batch)
    → CollectedSoFar left now old batches number → Consumes now next part → IsFrameOf part batch
    → new ≡ batches ++ batch ∷ [] → CollectedSoFar left next old new (number + 1)
one_collected left now next old batches new number part batch before read is pushed =
    let so_far = before.so_far in record {
      so_far = one_frame_more left now next number part batch so_far read is;
      added = pushed ∙ ap (λ (t : List Batch). t ++ batch ∷ []) before.added ∙ append_assoc old so_far.batches (batch ∷ []);
    }

pub all_collected : (left now : Option (List ℕ)) (old new : List Batch) (number : ℕ) → CollectedSoFar left now old new number
    → IsAtEnd now → Collects left old new
all_collected left now old new number before end =
    let so_far = before.so_far in record {
      bytes = so_far.bytes;
      batches = so_far.batches;
      frames = so_far.frames;
      read = all_taken left now so_far.bytes so_far.read end;
      added = before.added;
    }
