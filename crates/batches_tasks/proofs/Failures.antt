-- The failure of a line or a frame is that of the bytes left.
use Rattle.std.proofs.Common.{◌≡◌, ◌≢◌, ◌⊎◌, inl, inr, ℕ, ◌<◌, List, [], length, Option, Some, None, sym, subst, ◌∙◌}
use Rattle.std.specs.Prelude.{IfSome, IsSomeAnd, IsTrue, not, slice_get}
use Rattle.std.specs.Io.BufRead.{take_through}
use Rattle.std.specs.Io.KnownBytes.{Consumes, IsAtEnd}
use Rattle.keyspace.specs.declared.batch.Batch.{Batch}
use Rattle.serial.specs.Shards.{Shard, shards}
use Rattle.shards.specs.Clips.{IsBatchClip, IsClipped}
use Rattle.shards.specs.declared.clipped.Clipped.{Clipped}
use Rattle.wire.specs.declared.error.WireError.{WireError}
use Rattle.wire.specs.FrameLength.{frame_length}
use Rattle.wire.proofs.callers.Frames.{is_fault, is_reply_fault}
use Rattle.batches_tasks.specs.Lines.{is_blank}
use Rattle.batches_tasks.specs.Failing.{BeginsWithLine, FailsFrame, FailsLine, IsFailureOfFrame, IsFailureOfLine, IsFirstFault, IsRefusedAt, SpellsTooMuch, fault_of}
use Rattle.batches_tasks.specs.Clipping.{BeginsTooLong, ClipsTooLong, FailsClip, IsClipAt, IsFailureOfClip}
use Rattle.batches_tasks.specs.declared.failure.Failure.{Failure}
use Rattle.batches_tasks.specs.declared.failure.Failure.TheVariants as failure
use Rattle.batches_arguments.specs.declared.kind.Kind.{Kind}
use Rattle.batches_arguments.specs.declared.kind.Kind.TheVariants.{Batches, Replies}

first_fault : (kind : Kind) (fault : WireError) (left now : Option (List ℕ)) (frame : List ℕ) → Consumes left now frame
    → frame ≢ [] → (length frame < frame_length frame → IsAtEnd now) → fault_of kind frame ≡ Some fault
    → IfSome left (IsFirstFault kind fault)
first_fault Batches fault left now frame taken some end is = is_fault fault left now frame taken some end is
first_fault Replies fault left now frame taken some end is = is_reply_fault fault left now frame taken some end is

pub frame_fails : (kind : Kind) (number : ℕ) (left now : Option (List ℕ)) (frame : List ℕ) (e : Failure)
    → Consumes left now frame → frame ≢ [] → (length frame < frame_length frame → IsAtEnd now)
    → IsFailureOfFrame kind number frame e → FailsFrame kind number left e
frame_fails kind number left now frame (failure.Frame n fault) taken some end fails =
    (fails.0, first_fault kind fault left now frame taken some end fails.1)
frame_fails kind number left now frame (failure.Line n column refusal) taken some end fails = absurd fails
frame_fails kind number left now frame (failure.Long n) taken some end fails = absurd fails
frame_fails kind number left now frame (failure.LongClip n) taken some end fails = absurd fails
frame_fails kind number left now frame (failure.Point n refusal) taken some end fails = absurd fails
frame_fails kind number left now frame (failure.NotRising n) taken some end fails = absurd fails
frame_fails kind number left now frame failure.TooManyPoints taken some end fails = absurd fails
frame_fails kind number left now frame (failure.NoShard n) taken some end fails = absurd fails
frame_fails kind number left now frame failure.Resolvers taken some end fails = absurd fails
frame_fails kind number left now frame failure.Open taken some end fails = absurd fails
frame_fails kind number left now frame failure.Create taken some end fails = absurd fails
frame_fails kind number left now frame failure.AlsoRead taken some end fails = absurd fails
frame_fails kind number left now frame (failure.Report e) taken some end fails = absurd fails
frame_fails kind number left now frame failure.NotText taken some end fails = absurd fails
frame_fails kind number left now frame failure.Memory taken some end fails = tt
frame_fails kind number left now frame failure.Read taken some end fails = absurd fails
frame_fails kind number left now frame failure.Write taken some end fails = absurd fails

some_weaker : {A : Type 0} (P Q : A → Type 0) (found : Option A) → ((x : A) → P x → Q x) → IsSomeAnd found P → IsSomeAnd found Q
some_weaker P Q None weaker holds = absurd holds
some_weaker P Q (Some x) weaker holds = weaker x holds

pub clip_at : (points : List (List ℕ)) (number : ℕ) (batch : Batch) (clipped : Clipped)
    → IsSomeAnd (slice_get (shards points) number) (λ shard. IsClipped shard batch clipped) → IsClipAt points number batch clipped.batch
clip_at points number batch clipped holds =
    some_weaker (λ (shard : Shard). IsClipped shard batch clipped) (λ (shard : Shard). IsBatchClip shard batch clipped.batch)
    (slice_get (shards points) number) (λ shard is. is.batch) holds

too_long : (points : List (List ℕ)) (shard : ℕ) (left now : Option (List ℕ)) (frame : List ℕ) → Consumes left now frame
    → ClipsTooLong points shard frame → IfSome left (BeginsTooLong points shard)
too_long points shard None now frame taken clips = tt
too_long points shard (Some xs) None frame taken clips = absurd taken
too_long points shard (Some xs) (Some ys) frame taken clips = (frame, ys, taken, clips)

pub clip_fails : (points : List (List ℕ)) (shard number : ℕ) (left now : Option (List ℕ)) (frame : List ℕ) (e : Failure)
    → Consumes left now frame → frame ≢ [] → (length frame < frame_length frame → IsAtEnd now)
    → IsFailureOfClip points shard number frame e → FailsClip points shard number left e
clip_fails points shard number left now frame (failure.LongClip n) taken some end fails =
    (fails.0, too_long points shard left now frame taken fails.1)
clip_fails points shard number left now frame (failure.Frame n fault) taken some end fails =
    frame_fails Batches number left now frame (failure.Frame n fault) taken some end fails
clip_fails points shard number left now frame (failure.Line n column refusal) taken some end fails =
    frame_fails Batches number left now frame (failure.Line n column refusal) taken some end fails
clip_fails points shard number left now frame (failure.Long n) taken some end fails =
    frame_fails Batches number left now frame (failure.Long n) taken some end fails
clip_fails points shard number left now frame (failure.Point n refusal) taken some end fails =
    frame_fails Batches number left now frame (failure.Point n refusal) taken some end fails
clip_fails points shard number left now frame (failure.NotRising n) taken some end fails =
    frame_fails Batches number left now frame (failure.NotRising n) taken some end fails
clip_fails points shard number left now frame failure.TooManyPoints taken some end fails =
    frame_fails Batches number left now frame failure.TooManyPoints taken some end fails
clip_fails points shard number left now frame (failure.NoShard n) taken some end fails =
    frame_fails Batches number left now frame (failure.NoShard n) taken some end fails
clip_fails points shard number left now frame failure.Resolvers taken some end fails =
    frame_fails Batches number left now frame failure.Resolvers taken some end fails
clip_fails points shard number left now frame failure.Open taken some end fails =
    frame_fails Batches number left now frame failure.Open taken some end fails
clip_fails points shard number left now frame failure.Create taken some end fails =
    frame_fails Batches number left now frame failure.Create taken some end fails
clip_fails points shard number left now frame failure.AlsoRead taken some end fails =
    frame_fails Batches number left now frame failure.AlsoRead taken some end fails
clip_fails points shard number left now frame (failure.Report e) taken some end fails =
    frame_fails Batches number left now frame (failure.Report e) taken some end fails
clip_fails points shard number left now frame failure.NotText taken some end fails =
    frame_fails Batches number left now frame failure.NotText taken some end fails
clip_fails points shard number left now frame failure.Memory taken some end fails =
    frame_fails Batches number left now frame failure.Memory taken some end fails
clip_fails points shard number left now frame failure.Read taken some end fails =
    frame_fails Batches number left now frame failure.Read taken some end fails
clip_fails points shard number left now frame failure.Write taken some end fails =
    frame_fails Batches number left now frame failure.Write taken some end fails

begins : (Is : List ℕ → Type 0) (left : Option (List ℕ)) (line : List ℕ) → IfSome left (λ bytes. line ≡ take_through 10 bytes)
    → IsTrue (not (is_blank line)) → Is line → IfSome left (BeginsWithLine Is)
begins Is None line read some is = tt
begins Is (Some bytes) line read some is =
    subst (λ (l : List ℕ). IsTrue (not (is_blank l)) × Is l) read (some, is)

pub line_fails : (kind : Kind) (number : ℕ) (left : Option (List ℕ)) (line : List ℕ) (e : Failure)
    → IfSome left (λ bytes. line ≡ take_through 10 bytes) → IsTrue (not (is_blank line))
    → IsFailureOfLine kind number line e → FailsLine kind number left e
line_fails kind number left line (failure.Line n column refusal) read some fails =
    (fails.0, begins (IsRefusedAt kind column) left line read some fails.1)
line_fails kind number left line (failure.Long n) read some fails =
    (fails.0, begins (SpellsTooMuch kind) left line read some fails.1)
line_fails kind number left line (failure.Frame n fault) read some fails = absurd fails
line_fails kind number left line (failure.LongClip n) read some fails = absurd fails
line_fails kind number left line (failure.Point n refusal) read some fails = absurd fails
line_fails kind number left line (failure.NotRising n) read some fails = absurd fails
line_fails kind number left line failure.TooManyPoints read some fails = absurd fails
line_fails kind number left line (failure.NoShard n) read some fails = absurd fails
line_fails kind number left line failure.Resolvers read some fails = absurd fails
line_fails kind number left line failure.Open read some fails = absurd fails
line_fails kind number left line failure.Create read some fails = absurd fails
line_fails kind number left line failure.AlsoRead read some fails = absurd fails
line_fails kind number left line (failure.Report e) read some fails = absurd fails
line_fails kind number left line failure.NotText read some fails = absurd fails
line_fails kind number left line failure.Memory read some fails = tt
line_fails kind number left line failure.Read read some fails = absurd fails
line_fails kind number left line failure.Write read some fails = absurd fails

-- nothing is said of the line or the frame
pub line_unread : (kind : Kind) (number : ℕ) (left : Option (List ℕ)) (e : Failure) → (e ≡ failure.Memory) ⊎ (e ≡ failure.Read)
    → FailsLine kind number left e
line_unread kind number left e (inl is) = subst (FailsLine kind number left) (sym is) tt
line_unread kind number left e (inr is) = subst (FailsLine kind number left) (sym is) tt

pub frame_unread : (kind : Kind) (number : ℕ) (left : Option (List ℕ)) (e : Failure) → (e ≡ failure.Memory) ⊎ (e ≡ failure.Read)
    → FailsFrame kind number left e
frame_unread kind number left e (inl is) = subst (FailsFrame kind number left) (sym is) tt
frame_unread kind number left e (inr is) = subst (FailsFrame kind number left) (sym is) tt

pub not_write : (e : Failure) → (e ≡ failure.Memory) ⊎ (e ≡ failure.Read) → e ≢ failure.Write
not_write e (inl is) write = let bad : failure.Memory ≡ failure.Write = sym is ∙ write in cc
not_write e (inr is) write = let bad : failure.Read ≡ failure.Write = sym is ∙ write in cc
