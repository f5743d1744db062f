-- What a refusal leaves of the next frame.
use Rattle.std.proofs.Common.{◌≡◌, ◌≢◌, ◌⊎◌, inl, inr, ℕ, ◌+◌, ◌-◌, ◌<◌, ◌≤◌, List, [], ◌++◌, length, take, Option, Some, None, sym, ap, subst, ◌∙◌, arith}
use Rattle.std.specs.Io.KnownBytes.{Consumes}
use Rattle.std.proofs.lemmas.List.{length-append, take-append-le, take_all}
use Rattle.keyspace.specs.declared.batch.Batch.{Batch}
use Rattle.wire.specs.declared.error.WireError.{WireError}
use Rattle.wire.specs.declared.error.WireError.TheVariants.{Long, Memory, Read}
use Rattle.wire.specs.Fields.{batch_fields}
use Rattle.wire.specs.Spelling.{batch_body, frame}
use Rattle.wire.specs.Reading.{version_at_front}
use Rattle.wire.specs.Filling.{MovesInto, TakesFewer}
use Rattle.wire.specs.FrameLength.{frame_length}
use Rattle.wire.specs.NextFrame.{IsPartOfFrame, TakesPart, TakesFrame}
use Rattle.wire.proofs.FrameLengths.{short_length, at_least_four, same_length, settled_frame}
use Rattle.wire.proofs.callers.Known.{consumes_none, consumes_then}

less_than_frame : (e : WireError) (bytes : List ℕ) → length bytes < frame_length bytes → IsPartOfFrame e bytes
less_than_frame e bytes lt = record { within = omega (arith, lt); cut_short = λ is. lt }

-- the front of the frame wasn't read completely
pub cut_in_front : (e : WireError) (old new : Option (List ℕ)) → TakesFewer 4 old new → TakesPart old new e
cut_in_front e old None fewer = tt
cut_in_front e old (Some ys) fewer =
    let part = fewer.0 in
    (part, less_than_frame e part (omega (arith, short_length part fewer.1, fewer.1)), fewer.2)

-- more bytes leave the length that the front shows
pub longer_front : (old new : Option (List ℕ)) (front all : List ℕ) → MovesInto old new front all → 4 < frame_length front
    → frame_length all ≡ frame_length front
longer_front old new front all moved more =
    let fronts : take (length front) all ≡ front =
    ap (take (length front)) moved.1 ∙ take-append-le (length front) front moved.0 (omega arith)
    ∙ take_all (length front) front (omega arith) in
    same_length front all fronts more

-- the front was, and the frame wasn't
pub cut_after_front : (e : WireError) (old now new : Option (List ℕ)) (front : List ℕ) → Consumes old now front
    → 4 < frame_length front → TakesFewer (frame_length front - length front) now new → TakesPart old new e
cut_after_front e old now None front taken more fewer = tt
cut_after_front e old now (Some ys) front taken more fewer =
    let part = front ++ fewer.0 in
    let fronts : take (length front) part ≡ front =
    take-append-le (length front) front fewer.0 (omega arith) ∙ take_all (length front) front (omega arith) in
    let same : frame_length part ≡ frame_length front = same_length front part fronts more in
    let lt : length part < frame_length part = omega (arith, same, length-append front fewer.0, fewer.1) in
    (part, less_than_frame e part lt, consumes_then old now (Some ys) front fewer.0 taken fewer.2)

-- all that settles the frame was read, and reading didn't fail
pub held_part : (e : WireError) (old new : Option (List ℕ)) (held : List ℕ) → Consumes old new held
    → length held ≤ frame_length held → e ≢ Read → TakesPart old new e
held_part e old None held taken within not_read = tt
held_part e old (Some ys) held taken within not_read =
    (held, record { within = within; cut_short = λ is. absurd (not_read is) }, taken)

-- a batch was read
pub entire_part : (e : WireError) (old new : Option (List ℕ)) (batch : Batch) → TakesFrame old new batch
    → e ≢ Read → TakesPart old new e
entire_part e old new batch takes not_read =
    let bytes = takes.0 in
    let body = batch_body (version_at_front bytes) (batch_fields batch) in
    let settled : frame_length bytes ≡ length bytes =
    subst (λ (b : List ℕ). frame_length b ≡ length b) (sym takes.1.text) (settled_frame body takes.1.short) in
    held_part e old new bytes takes.2 (omega (arith, settled)) not_read

pub no_part : (e : WireError) (now : Option (List ℕ)) → TakesPart now now e
no_part e None = tt
no_part e (Some xs) = let four = at_least_four [] in
    ([], less_than_frame e [] (omega (arith, four)), consumes_none (Some xs))

pub not_read : (e : WireError) → (e ≡ Long) ⊎ (e ≡ Memory) → e ≢ Read
not_read e (inl is) read = let bad : Long ≡ Read = sym is ∙ read in cc
not_read e (inr is) read = let bad : Memory ≡ Read = sym is ∙ read in cc
