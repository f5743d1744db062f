-- What an upgrade has read and written so far.
use Rattle.std.proofs.Common.{◌≡◌, ◌⊎◌, inl, inr, ℕ, ◌+◌, ◌<◌, take, drop, List, [], ◌∷◌, ◌++◌, length, Option, Some, None, refl, sym, ap, subst, ◌∙◌, append_assoc, arith}
use Rattle.std.specs.Prelude.{IfSome}
use Rattle.std.specs.Io.KnownBytes.{Consumes, Appends, IsAtEnd}
use Rattle.std.proofs.lemmas.List.{append-nil, length-append, take-append-drop}
use Rattle.std.proofs.lemmas.List.Concat.{flat_map-append, flat_map-cons}
use Rattle.keyspace.specs.declared.batch.Batch.{Batch}
use Rattle.wire.specs.declared.error.WireError.{WireError}
use Rattle.wire.specs.declared.error.WireError.TheVariants.{Long, Memory}
use Rattle.wire.specs.declared.field.TheConstants.{MAX_BODY_LENGTH}
use Rattle.wire.specs.declared.version.WireVersion.TheVariants.{Two}
use Rattle.wire.specs.Fields.{batch_fields}
use Rattle.wire.specs.Spelling.{batch_body}
use Rattle.wire.specs.NextFrame.{IsFrameOf, TakesFrame, TakesPart}
use Rattle.wire.specs.Upgrade.{new_frame, new_frames, AreFrames, BeginWithFrames, ComesFrom, TakesFramesAndPart, Upgrades, StopsAt, BreaksOff}
use Rattle.wire.proofs.callers.Given.{appends_none, appends_then}
use Rattle.wire.proofs.callers.Known.{consumes_none, consumes_then}

-- a batch that was read and can't be encoded
pub outgrows : (old new : Option (List ℕ)) (batch : Batch) (e : WireError) → TakesFrame old new batch
    → (e ≡ Long) ⊎ (e ≡ Memory) → (e ≡ Long → MAX_BODY_LENGTH < length (batch_body Two (batch_fields batch)))
    → IfSome old (ComesFrom e)
outgrows None new batch e takes err long = tt
outgrows (Some xs) None batch e takes err long = absurd takes.2
outgrows (Some xs) (Some ys) batch e takes err long =
    λ not_memory not_read. elim err [
      | inl is_long ↦ inr (is_long, (batch, takes.0, ys, takes.2, takes.1, long is_long))
      | inr is_memory ↦ absurd (not_memory is_memory)
    ]

pub memory_comes : (now : Option (List ℕ)) → IfSome now (ComesFrom Memory)
memory_comes None = tt
memory_comes (Some xs) = λ not_memory not_read. absurd (not_memory refl)

-- what a failed write of a complete slice leaves
pub begun : (before after : Option (List ℕ)) (entire : List ℕ)
    → IfSome after (λ _. (n : ℕ) × Appends before after (take n entire))
    → IfSome after (λ _. (bytes rest : List ℕ) × (entire ≡ bytes ++ rest) × Appends before after bytes)
begun before None entire part = tt
begun before (Some zs) entire part =
    let n = part.0 in
    (take n entire, drop n entire, sym (take-append-drop n entire), part.1)

-- the frames of that many batches were taken, and their new frames were written
pub record SoFar (left now before after : Option (List ℕ)) (count : ℕ) : Type 0 where
  pub batches : List Batch
  pub counted : length batches ≡ count
  pub bytes : List ℕ
  pub frames : AreFrames bytes batches
  pub taken : Consumes left now bytes
  pub written : Appends before after (new_frames batches)

pub nothing_yet : (left before : Option (List ℕ)) → SoFar left left before before 0
nothing_yet left before = record {
  batches = [];
  counted = refl;
  bytes = [];
  frames = refl;
  taken = consumes_none left;
  written = appends_none before;
}

pub frames_last : (bytes first : List ℕ) (batches : List Batch) (batch : Batch) → AreFrames bytes batches
    → IsFrameOf first batch → AreFrames (bytes ++ first) (batches ++ batch ∷ [])
frames_last bytes first [] batch none is_frame =
    (first, [], ap (λ (x : List ℕ). x ++ first) none ∙ sym (append-nil first), is_frame, refl)
frames_last bytes first (b ∷ batches) batch frames is_frame =
    let front = frames.0 in
    let rest = frames.1 in
    let parts : bytes ++ first ≡ front ++ (rest ++ first) =
    ap (λ (x : List ℕ). x ++ first) frames.2 ∙ append_assoc front rest first in
    (front, rest ++ first, parts, frames.3, frames_last rest first batches batch frames.4 is_frame)

new_frames_more : (batches : List Batch) (batch : Batch)
    → new_frames (batches ++ batch ∷ []) ≡ new_frames batches ++ new_frame batch
new_frames_more batches batch =
    flat_map-append new_frame batches (batch ∷ [])
    ∙ ap (λ (x : List ℕ). new_frames batches ++ x) (flat_map-cons new_frame batch []
    ∙ append-nil (new_frame batch))

pub one_more : (left now next before after later : Option (List ℕ)) (count : ℕ) (batch : Batch)
    → SoFar left now before after count → TakesFrame now next batch → Appends after later (new_frame batch)
    → SoFar left next before later (count + 1)
one_more left now next before after later count batch so_far takes writes = record {
  batches = so_far.batches ++ batch ∷ [];
  counted = omega (arith, length-append so_far.batches (batch ∷ []), so_far.counted);
  bytes = so_far.bytes ++ takes.0;
  frames = frames_last so_far.bytes takes.0 so_far.batches batch so_far.frames takes.1;
  taken = consumes_then left now next so_far.bytes takes.0 so_far.taken takes.2;
  written = rw (new_frames_more so_far.batches batch)
      (appends_then before after later (new_frames so_far.batches) (new_frame batch) so_far.written writes);
}

all_frames : (left now : Option (List ℕ)) (bytes : List ℕ) (batches : List Batch) → AreFrames bytes batches
    → Consumes left now bytes → IsAtEnd now → IfSome left (λ xs. AreFrames xs batches)
all_frames None now bytes batches frames taken end = tt
all_frames (Some xs) None bytes batches frames taken end = absurd taken
all_frames (Some xs) (Some ys) bytes batches frames taken end =
    let entire : bytes ≡ xs = sym (taken ∙ ap (λ (x : List ℕ). bytes ++ x) end ∙ append-nil bytes) in
    subst (λ (x : List ℕ). AreFrames x batches) entire frames

begin_with : (left now : Option (List ℕ)) (bytes : List ℕ) (batches : List Batch) (Then : List ℕ → Type 0)
    → AreFrames bytes batches → Consumes left now bytes → IfSome now Then
    → IfSome left (BeginWithFrames batches Then)
begin_with None now bytes batches Then frames taken after = tt
begin_with (Some xs) None bytes batches Then frames taken after = absurd taken
begin_with (Some xs) (Some ys) bytes batches Then frames taken after = (bytes, ys, taken, frames, after)

pub ends : (left now before after : Option (List ℕ)) (count : ℕ) → SoFar left now before after count
    → IsAtEnd now
    → Upgrades left before after count
ends left now before after count so_far end = record {
  batches = so_far.batches;
  counted = so_far.counted;
  read = all_frames left now so_far.bytes so_far.batches so_far.frames so_far.taken end;
  written = so_far.written;
}

taken_with : (left now next : Option (List ℕ)) (bytes : List ℕ) (batches : List Batch) (e : WireError)
    → AreFrames bytes batches → Consumes left now bytes → TakesPart now next e → TakesFramesAndPart batches e left next
taken_with left now None bytes batches e frames taken part = tt
taken_with left now (Some zs) bytes batches e frames taken part =
    (bytes, part.0, frames, part.1, consumes_then left now (Some zs) bytes part.0 taken part.2)

pub stops : (left now next before after : Option (List ℕ)) (count : ℕ) (e : WireError)
    → SoFar left now before after count
    → IfSome now (ComesFrom e) → TakesPart now next e → StopsAt left next before after e
stops left now next before after count e so_far comes part = record {
  batches = so_far.batches;
  read = begin_with left now so_far.bytes so_far.batches (ComesFrom e) so_far.frames so_far.taken comes;
  taken = taken_with left now next so_far.bytes so_far.batches e so_far.frames so_far.taken part;
  written = so_far.written;
}

anything : (now : Option (List ℕ)) → IfSome now (λ _. Unit {0})
anything None = tt
anything (Some xs) = tt

break_here : (before after later : Option (List ℕ)) (entire new : List ℕ) → Appends before after entire
    → IfSome later (λ _. (bytes rest : List ℕ) × (new ≡ bytes ++ rest) × Appends after later bytes)
    → IfSome later (λ _. (bytes rest : List ℕ) × (entire ++ new ≡ bytes ++ rest) × Appends before later bytes)
break_here before after None entire new written part = tt
break_here before after (Some zs) entire new written part =
    let bytes = part.0 in
    let rest = part.1 in
    let parts : entire ++ new ≡ (entire ++ bytes) ++ rest =
    ap (λ (x : List ℕ). entire ++ x) part.2 ∙ sym (append_assoc entire bytes rest) in
    (entire ++ bytes, rest, parts, appends_then before after (Some zs) entire bytes written part.3)

-- the sink gives up within the frame of one batch more
pub breaks : (left now next before after later : Option (List ℕ)) (count : ℕ) (batch : Batch)
    → SoFar left now before after count → TakesFrame now next batch
    → IfSome later (λ _. (bytes rest : List ℕ) × (new_frame batch ≡ bytes ++ rest)
    × Appends after later bytes)
    → BreaksOff left before later
breaks left now next before after later count batch so_far takes part = record {
  batches = so_far.batches ++ batch ∷ [];
  read = begin_with left next (so_far.bytes ++ takes.0) (so_far.batches ++ batch ∷ []) (λ _. Unit {0})
      (frames_last so_far.bytes takes.0 so_far.batches batch so_far.frames takes.1)
      (consumes_then left now next so_far.bytes takes.0 so_far.taken takes.2) (anything next);
  written = rw (new_frames_more so_far.batches batch)
      (break_here before after later (new_frames so_far.batches) (new_frame batch) so_far.written part);
}
