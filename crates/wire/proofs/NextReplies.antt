-- The part of the next frame of a reply that was read determines the content of the remaining bytes.
use Rattle.std.proofs.Common.{◌≡◌, ◌≢◌, ℕ, ◌+◌, ◌<◌, ◌≤◌, List, [], ◌++◌, length, take, inl, inr, Option, Some, None, Result, Ok, Err, sym, ap, subst, ◌∙◌, arith}
use Rattle.std.specs.Prelude.{IfSome}
use Rattle.std.specs.Io.KnownBytes.{Consumes, IsAtEnd}
use Rattle.std.proofs.lemmas.List.{append-nil, take_all}
use Rattle.std.proofs.lemmas.Bool.{cases_lt}
use Rattle.byteorder.specs.Endian.{big_number}
use Rattle.keyspace.specs.declared.reply.Reply.{Reply}
use Rattle.wire.specs.declared.error.WireError.{WireError}
use Rattle.wire.specs.Fields.{reply_fields}
use Rattle.wire.specs.Spelling.{SpellsReply}
use Rattle.wire.specs.FrameLength.{frame_length}
use Rattle.wire.specs.NextReply.{TakesReply, IsReplyFaultOf}
use Rattle.wire.specs.Reading.{◌>>=◌, reply_at, all_of, read_reply, reply_fault, refusal}
use Rattle.wire.proofs.Taken.{AreBytes}
use Rattle.wire.proofs.Replies.{reply_decoded}
use Rattle.wire.proofs.FrameLengths.{at_most_entire, same_body}
use Rattle.wire.proofs.NextFrames.{not_nil}

same_reply : (front rest : List ℕ) → (length front < frame_length front → rest ≡ [])
    → read_reply (front ++ rest) ≡ read_reply front
unfolding read_reply
same_reply front rest end =
    elim (cases_lt (length front) (frame_length front)) [
      | inl lt ↦ ap read_reply (ap (λ (x : List ℕ). front ++ x) (end lt) ∙ append-nil front)
      | inr le ↦ ap (λ (r : Result (List ℕ) WireError). r
          >>= λ body. all_of (reply_at body)) (same_body front rest le)
    ]

pub takes_reply : (old new : Option (List ℕ)) (held : List ℕ) (reply : Reply) (n : ℕ) → AreBytes held
    → Consumes old new held → length held ≤ frame_length held
    → read_reply held ≡ Ok (reply_fields reply) → n ≡ 4 + big_number 4 held → TakesReply old new reply
takes_reply old new held reply n fits taken within read used =
    let found = reply_decoded held (Ok (reply, n)) fits read used in
    let four : 4 ≤ length held = omega (arith, found.1) in
    let entire : take n held ≡ held = take_all n held (omega (arith, at_most_entire held four)) in
    (held, subst (λ (bytes : List ℕ). SpellsReply bytes reply) entire found.0, taken)

pub is_reply_fault : (e : WireError) (old new : Option (List ℕ)) (held : List ℕ)
    → Consumes old new held
    → held ≢ [] → (length held < frame_length held → IsAtEnd new) → reply_fault held ≡ Some e
    → IfSome old (IsReplyFaultOf e)
is_reply_fault e None new held taken some end fault = tt
is_reply_fault e (Some xs) None held taken some end fault = absurd taken
is_reply_fault e (Some xs) (Some ys) held taken some end fault =
    let same : reply_fault (held ++ ys) ≡ Some e = ap refusal (same_reply held ys end) ∙ fault in
    subst (λ (bytes : List ℕ). IsReplyFaultOf e bytes) (sym taken) (not_nil held ys some, same)
