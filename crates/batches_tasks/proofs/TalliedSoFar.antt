-- Replies and batches that were read so far, and added to a tally.
use Rattle.std.proofs.Common.{◌≡◌, ℕ, ◌+◌, List, [], ◌∷◌, ◌++◌, length, Option, refl, sym, ap, subst, ◌∙◌, append_assoc, arith}
use Rattle.std.proofs.lemmas.List.{append-nil, length-append}
use Rattle.std.specs.Io.KnownBytes.{Consumes, IsAtEnd}
use Rattle.keyspace.specs.declared.batch.Batch.{Batch}
use Rattle.keyspace.specs.declared.reply.Reply.{Reply}
use Rattle.wire.specs.NextFrame.{IsFrameOf}
use Rattle.wire.specs.Spelling.{SpellsReply}
use Rattle.wire.proofs.callers.Known.{all_taken, consumes_none, consumes_then}
use Rattle.batches_report.specs.Tallied.{IsTally}
use Rattle.batches_report.specs.declared.tally.Tally.{Tally}
use Rattle.batches_tasks.specs.Tallying.{AreReplyFrames, TalliesBatches, TalliesReplies}
use Rattle.batches_tasks.proofs.FramesRead.{FramesSoFar, no_frames, one_frame_more}

reply_frames_last : (bytes part : List ℕ) (replies : List Reply) (reply : Reply) → AreReplyFrames bytes replies → SpellsReply part reply
    → AreReplyFrames (bytes ++ part) (replies ++ reply ∷ [])
reply_frames_last bytes part [] reply frames is =
    (part, [], ap (λ (t : List ℕ). t ++ part) frames ∙ sym (append-nil part), is, refl)
reply_frames_last bytes part (first ∷ replies) reply frames is =
    let begin = frames.0 in
    let rest = frames.1 in (
      begin,
      rest ++ part,
      ap (λ (t : List ℕ). t ++ part) frames.2 ∙ append_assoc begin rest part,
      frames.3,
      reply_frames_last rest part replies reply frames.4 is,
    )

-- the bytes that were read are the frames of these replies, which were added; and the number of the next frame
pub record RepliesSoFar (left now : Option (List ℕ)) (old new : Tally) (number : ℕ) : Type 0 where
  pub bytes : List ℕ
  pub replies : List Reply
  pub frames : AreReplyFrames bytes replies
  pub read : Consumes left now bytes
  pub counted : number ≡ length replies + 1
  pub added : (others : List Reply) → IsTally others [] old → IsTally (others ++ replies) [] new

pub no_replies : (left : Option (List ℕ)) (tally : Tally) → RepliesSoFar left left tally tally 1
no_replies left tally = record {
  bytes = [];
  replies = [];
  frames = refl;
  read = consumes_none left;
  counted = refl;
  added = λ others is. subst (λ rs. IsTally rs [] tally) (sym (append-nil others)) is;
}

pub one_reply_more : (left now next : Option (List ℕ)) (old tally new : Tally) (number : ℕ) (part : List ℕ) (reply : Reply)
    → RepliesSoFar left now old tally number → Consumes now next part → SpellsReply part reply
    → ((others : List Reply) → IsTally others [] tally → IsTally (others ++ reply ∷ []) [] new)
    → RepliesSoFar left next old new (number + 1)
one_reply_more left now next old tally new number part reply before read is step = record {
  bytes = before.bytes ++ part;
  replies = before.replies ++ reply ∷ [];
  frames = reply_frames_last before.bytes part before.replies reply before.frames is;
  read = consumes_then left now next before.bytes part before.read read;
  counted = omega (arith, before.counted, length-append before.replies (reply ∷ []));
  added = λ others from. subst (λ rs. IsTally rs [] new) (append_assoc others before.replies (reply ∷ []))
      (step (others ++ before.replies) (before.added others from));
}

pub all_replies : (left now : Option (List ℕ)) (old new : Tally) (number count : ℕ) → RepliesSoFar left now old new number
    → IsAtEnd now → number ≡ count + 1 → TalliesReplies left old new count
all_replies left now old new number count before end is = record {
  bytes = before.bytes;
  replies = before.replies;
  frames = before.frames;
  read = all_taken left now before.bytes before.read end;
  count = omega (arith, before.counted, is);
  added = before.added;
}

-- the same of batches
pub record BatchesSoFar (left now : Option (List ℕ)) (old new : Tally) (number : ℕ) : Type 0 where
  pub so_far : FramesSoFar left now number
  pub added : (replies : List Reply) (others : List Batch) → IsTally replies others old
      → IsTally replies (others ++ so_far.batches) new

pub no_batches : (left : Option (List ℕ)) (tally : Tally) → BatchesSoFar left left tally tally 1
no_batches left tally = record {
  so_far = no_frames left;
  added = λ replies others is. subst (λ bs. IsTally replies bs tally) (sym (append-nil others)) is;
}

pub one_batch_more : (left now next : Option (List ℕ)) (old tally new : Tally) (number : ℕ) (part : List ℕ) (batch : Batch)
    → BatchesSoFar left now old tally number → Consumes now next part → IsFrameOf part batch
    → ((replies : List Reply) (others : List Batch) → IsTally replies others tally → IsTally replies (others ++ batch ∷ []) new)
    → BatchesSoFar left next old new (number + 1)
one_batch_more left now next old tally new number part batch before read is step =
    let so_far = before.so_far in record {
      so_far = one_frame_more left now next number part batch so_far read is;
      added = λ replies others from. subst (λ bs. IsTally replies bs new) (append_assoc others so_far.batches (batch ∷ []))
          (step replies (others ++ so_far.batches) (before.added replies others from));
    }

pub all_batches : (left now : Option (List ℕ)) (old new : Tally) (number count : ℕ) → BatchesSoFar left now old new number
    → IsAtEnd now → number ≡ count + 1 → TalliesBatches left old new count
all_batches left now old new number count before end is =
    let so_far = before.so_far in record {
      bytes = so_far.bytes;
      batches = so_far.batches;
      frames = so_far.frames;
      read = all_taken left now so_far.bytes so_far.read end;
      count = omega (arith, so_far.counted, is);
      added = before.added;
    }
