-- Reading the frames of replies, in sequence.
use Rattle.std.specs.Prelude.{◌≡◌, ◌≢◌, IfSome, ℕ, List, [], ◌∷◌, ◌++◌, length, Option, Some, slice_get}
use Rattle.std.specs.List.{AllZip}
use Rattle.std.proofs.Common.{refl, sym, ap, ◌∙◌, subst, append_assoc, append-nil}
use Rattle.keyspace.specs.declared.reply.Reply.{Reply}
use Rattle.wire.specs.declared.error.WireError.{WireError}
use Rattle.wire.specs.declared.error.WireError.TheVariants as wire
use Rattle.wire.specs.NextReply.{IsReplyFaultOf, TakesReply}
use Rattle.replay_tasks.specs.Replies.{HasReplyFault, IsReplyFile, TakesReplies}
use Rattle.replay_workers.proofs.callers.Lists.{AllZip-also}

-- one frame more
pub takes_reply_also : (old between new : Option (List ℕ)) (replies : List Reply) (reply : Reply)
    → TakesReplies old between replies → TakesReply between new reply → TakesReplies old new (replies ++ reply ∷ [])
takes_reply_also old between new [] reply taken next =
    (new, subst (λ (bytes : Option (List ℕ)). TakesReply bytes new reply) taken next, refl)
takes_reply_also old between new (first ∷ rest) reply taken next =
    (taken.0, taken.1, takes_reply_also taken.0 between new rest reply taken.2 next)

-- what stands after as many as there are in another list
at_seam : {X Y : Type 0} (R : X → Y → Type 0) (done : List X) (ys : List Y) (x : X) (rest : List X) → AllZip R done ys
    → slice_get (done ++ x ∷ rest) (length ys) ≡ Some x
at_seam R [] [] x rest all = refl
at_seam R [] (y ∷ ys) x rest all = absurd all
at_seam R (d ∷ done) [] x rest all = absurd all
at_seam R (d ∷ done) (y ∷ ys) x rest all = at_seam R done ys x rest all.1

-- the files that were read so far, and the ones that are left
pub record ReadSoFar (files left : List (Option (List ℕ))) (recorded : List (List Reply)) : Type 0 where
  pub done : List (Option (List ℕ))
  pub all : done ++ left ≡ files
  pub read : AllZip IsReplyFile done recorded

pub none_read : (files : List (Option (List ℕ))) → ReadSoFar files files []
none_read files = record { done = []; all = refl; read = tt }

pub one_read_more : (files rest : List (Option (List ℕ))) (recorded : List (List Reply)) (bytes : Option (List ℕ)) (replies : List Reply)
    → ReadSoFar files (bytes ∷ rest) recorded → IsReplyFile bytes replies → ReadSoFar files rest (recorded ++ replies ∷ [])
one_read_more files rest recorded bytes replies before is = record {
  done = before.done ++ bytes ∷ [];
  all = append_assoc before.done (bytes ∷ []) rest ∙ before.all;
  read = AllZip-also IsReplyFile before.done recorded bytes replies before.read is;
}

pub all_read : (files left : List (Option (List ℕ))) (recorded : List (List Reply)) → left ≡ [] → ReadSoFar files left recorded
    → AllZip IsReplyFile files recorded
all_read files left recorded none so_far =
    subst (λ (fs : List (Option (List ℕ))). AllZip IsReplyFile fs recorded)
    (sym (append-nil so_far.done) ∙ ap (λ (l : List (Option (List ℕ))). so_far.done ++ l) (sym none) ∙ so_far.all) so_far.read

pub place_of_next : (files rest : List (Option (List ℕ))) (recorded : List (List Reply)) (bytes : Option (List ℕ))
    → ReadSoFar files (bytes ∷ rest) recorded → slice_get files (length recorded) ≡ Some bytes
place_of_next files rest recorded bytes before =
    subst (λ (fs : List (Option (List ℕ))). slice_get fs (length recorded) ≡ Some bytes) before.all
    (at_seam IsReplyFile before.done recorded bytes rest before.read)

-- the frames of the replies read so far, and then a fault
pub fault_after : (bytes left : Option (List ℕ)) (replies : List Reply) (e : WireError) → TakesReplies bytes left replies
    → (e ≢ wire.Memory → e ≢ wire.Read → IfSome left (IsReplyFaultOf e)) → HasReplyFault bytes e
fault_after bytes left replies e taken first = record { replies = replies; left = left; taken = taken; first_fault = first }
