-- What is found in the front of the bytes left is found in all of them, since the front settles it.
use Rattle.std.proofs.Common.{◌≡◌, ◌≢◌, ℕ, ◌<◌, ◌≤◌, List, [], ◌∷◌, ◌++◌, length, get_or, Option, Some, None, refl, sym, ap, subst, ◌∙◌, append_assoc, arith}
use Rattle.std.specs.Prelude.{IfSome}
use Rattle.std.specs.Io.KnownBytes.{Consumes, IsAtEnd}
use Rattle.std.proofs.lemmas.List.{append-nil, length-append}
use Rattle.wire.specs.declared.error.WireError.{WireError}
use Rattle.wire.specs.FrameLength.{frame_length}
use Rattle.wire.proofs.callers.Frames.{at_least_four, is_fault, is_reply_fault}
use Rattle.replay_diagnosis.specs.declared.position.Position.{Position}
use Rattle.replay_diagnosis.specs.declared.run_findings.Finding.{Finding}
use Rattle.replay_diagnosis.specs.declared.run_findings.Finding.TheVariants as found
use Rattle.replay_diagnosis.specs.Content.{BeginsAsJson, BeginsWithReply, EndsInFrame, HasNoBatch, IsFindingAt, IsNoFrame, IsNoJson}
use Rattle.replay_diagnosis.proofs.FrontLengths.{same_frame_length}

json : (left now : Option (List ℕ)) (front : List ℕ) → Consumes left now front → BeginsAsJson front → IfSome left BeginsAsJson
json None now front taken begins = tt
json (Some xs) None front taken begins = absurd taken
json (Some xs) (Some ys) front taken begins = (begins.0 ++ ys, taken ∙ ap (λ (t : List ℕ). t ++ ys) begins.1)

reply : (left now : Option (List ℕ)) (front : List ℕ) → Consumes left now front → BeginsWithReply front → IfSome left BeginsWithReply
reply None now front taken begins = tt
reply (Some xs) None front taken begins = absurd taken
reply (Some xs) (Some ys) front taken begins = (
  begins.0,
  begins.1,
  begins.2 ++ ys,
  taken ∙ ap (λ (t : List ℕ). t ++ ys) begins.3 ∙ append_assoc begins.1 begins.2 ys,
  begins.4,
)

no_batch : (left now : Option (List ℕ)) (front : List ℕ) → Consumes left now front → front ≢ []
    → (length front < frame_length front → IsAtEnd now) → HasNoBatch front → IfSome left HasNoBatch
no_batch None now front taken some end none = tt
no_batch (Some xs) None front taken some end none = absurd taken
no_batch (Some xs) (Some ys) front taken some end none =
    (none.0, is_fault none.0 (Some xs) (Some ys) front taken some end none.1.1)

-- the first byte is in the front
begins_in_front : (front rest : List ℕ) → front ≢ [] → BeginsAsJson (front ++ rest) → BeginsAsJson front
begins_in_front [] rest some begins = absurd (some refl)
begins_in_front (byte ∷ front) rest some begins =
    let same : byte ≡ 123 = ap (λ (t : List ℕ). get_or t 0 0) begins.1 in
    (front, ap (λ (b : ℕ). b ∷ front) same)

no_json : (position : Position) (left now : Option (List ℕ)) (front : List ℕ) → Consumes left now front → front ≢ []
    → IsNoJson position front → IfSome left (IsNoJson position)
no_json position None now front taken some none = tt
no_json position (Some xs) None front taken some none = absurd taken
no_json position (Some xs) (Some ys) front taken some none =
    λ start begins. none start (begins_in_front front ys some (subst BeginsAsJson taken begins))

ends : (missing : ℕ) (left now : Option (List ℕ)) (front : List ℕ) → Consumes left now front
    → (length front < frame_length front → IsAtEnd now) → EndsInFrame missing front → IfSome left (EndsInFrame missing)
ends missing None now front taken end in_frame = tt
ends missing (Some xs) None front taken end in_frame = absurd taken
ends missing (Some xs) (Some ys) front taken end in_frame =
    let few : length front < frame_length front = omega (arith, in_frame.some, in_frame.missing_is) in
    let all : xs ≡ front = taken ∙ ap (λ (t : List ℕ). front ++ t) (end few) ∙ append-nil front in
    subst (EndsInFrame missing) (sym all) in_frame

complete : (front rest : List ℕ) → frame_length front ≤ length front → frame_length (front ++ rest) ≤ length (front ++ rest)
complete front rest le =
    let four = at_least_four front in
    omega (arith, le, same_frame_length front rest (omega (arith, le, four)), length-append front rest)

no_frame : (fault : WireError) (left now : Option (List ℕ)) (front : List ℕ) → Consumes left now front → front ≢ []
    → (length front < frame_length front → IsAtEnd now) → IsNoFrame fault front → IfSome left (IsNoFrame fault)
no_frame fault None now front taken some end is = tt
no_frame fault (Some xs) None front taken some end is = absurd taken
no_frame fault (Some xs) (Some ys) front taken some end is = record {
  fault_is = is_fault fault (Some xs) (Some ys) front taken some end is.fault_is.1;
  complete = subst (λ (t : List ℕ). frame_length t ≤ length t) (sym taken) (complete front ys is.complete);
  no_reply = (is.no_reply.0, is_reply_fault is.no_reply.0 (Some xs) (Some ys) front taken some end is.no_reply.1.1);
}

pub settled : (position : Position) (left now : Option (List ℕ)) (front : List ℕ) (finding : Finding) → Consumes left now front
    → front ≢ [] → (length front < frame_length front → IsAtEnd now) → IsFindingAt position (Some front) finding
    → IsFindingAt position left finding
settled position left now front found.Memory taken some end is = tt
settled position left now front (found.Unreadable at) taken some end is = is
settled position left now front found.Json taken some end is =
    (is.0, json left now front taken is.1, no_batch left now front taken some end is.2)
settled position left now front (found.Reply at) taken some end is =
    (is.0, reply left now front taken is.1, no_batch left now front taken some end is.2)
settled position left now front (found.Truncated at missing) taken some end is =
    (is.0, ends missing left now front taken end is.1, no_json position left now front taken some is.2)
settled position left now front (found.NotAFrame at fault) taken some end is =
    (is.0, no_frame fault left now front taken some end is.1, no_json position left now front taken some is.2)
settled position left now front found.CannotOpen taken some end is = absurd is
settled position left now front found.StandardInput taken some end is = absurd is
