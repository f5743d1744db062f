-- The part of the next frame that was read determines the content of the remaining bytes.
use Rattle.std.proofs.Common.{◌≡◌, ◌≢◌, ℕ, ◌+◌, ◌<◌, ◌≤◌, List, [], ◌∷◌, ◌++◌, length, get_or, take, inl, inr, Option, Some, None, Ok, Err, refl, sym, ap, subst, ◌∙◌, arith}
use Rattle.std.specs.Prelude.{IfSome}
use Rattle.std.specs.Io.KnownBytes.{Consumes, IsAtEnd}
use Rattle.std.proofs.lemmas.List.{take_all, length-take, get_or_past}
use Rattle.std.proofs.lemmas.Bool.{cases_lt}
use Rattle.byteorder.specs.Endian.{big_number}
use Rattle.keyspace.specs.declared.batch.Batch.{Batch}
use Rattle.wire.specs.declared.error.WireError.{WireError}
use Rattle.wire.specs.declared.version.WireVersion.{WireVersion}
use Rattle.wire.specs.Fields.{batch_fields}
use Rattle.wire.specs.Spelling.{SpellsBatch}
use Rattle.wire.specs.FrameLength.{frame_length}
use Rattle.wire.specs.NextFrame.{TakesFrame, IsFaultOf}
use Rattle.wire.specs.Reading.{read_batch, batch_fault, refusal, version_at_front}
use Rattle.wire.proofs.Taken.{AreBytes}
use Rattle.wire.proofs.BatchFrames.{batch_is_spelled}
use Rattle.wire.proofs.FrameLengths.{at_most_entire, same_read}

-- what is held is no more than its first frame
pub entire_frame : (held bytes frame : List ℕ) → bytes ≡ held → frame ≡ take (4 + big_number 4 bytes) bytes
    → length frame ≡ 4 + big_number 4 bytes → length held ≤ frame_length held → frame ≡ held
entire_frame held bytes frame same front count within =
    let n = 4 + big_number 4 held in
    let is : frame ≡ take n held = front ∙ ap (λ (x : List ℕ). take (4 + big_number 4 x) x) same in
    let len : length frame ≡ n = count ∙ ap (λ (x : List ℕ). 4 + big_number 4 x) same in
    let taken : length frame ≤ length held = omega (arith, ap length is, length-take n held) in
    let four : 4 ≤ length held = omega (arith, taken, len) in
    is ∙ take_all n held (omega (arith, at_most_entire held four, within))

pub takes_frame : (old new : Option (List ℕ)) (held : List ℕ) (version : WireVersion) (batch : Batch)
    → AreBytes held
    → Consumes old new held → length held ≤ frame_length held
    → read_batch held ≡ Ok (version, batch_fields batch) → TakesFrame old new batch
takes_frame old new held version batch fits taken within read =
    let n = 4 + big_number 4 held in
    let found = batch_is_spelled held version batch n fits read refl in
    let four : 4 ≤ length held = omega (arith, found.1) in
    let entire : take n held ≡ held = take_all n held (omega (arith, at_most_entire held four)) in
    let spelled : SpellsBatch (version_at_front held) held batch =
    subst (λ (bytes : List ℕ). SpellsBatch (version_at_front held) bytes batch) entire found.0 in
    (held, spelled, taken)

pub not_nil : (held rest : List ℕ) → held ≢ [] → held ++ rest ≢ []
not_nil [] rest some e = some refl
not_nil (b ∷ held) rest some e = cc

pub is_fault : (e : WireError) (old new : Option (List ℕ)) (held : List ℕ)
    → Consumes old new held
    → held ≢ [] → (length held < frame_length held → IsAtEnd new) → batch_fault held ≡ Some e
    → IfSome old (IsFaultOf e)
is_fault e None new held taken some end fault = tt
is_fault e (Some xs) None held taken some end fault = absurd taken
is_fault e (Some xs) (Some ys) held taken some end fault =
    let same : batch_fault (held ++ ys) ≡ Some e = ap refusal (same_read held ys end) ∙ fault in
    subst (λ (bytes : List ℕ). IsFaultOf e bytes) (sym taken) (not_nil held ys some, same)

pub each_byte : (bytes : List ℕ) → ((i d : ℕ) → i < length bytes → get_or bytes i d < 256) → AreBytes bytes
each_byte bytes small i = elim (cases_lt i (length bytes)) [
  | inl lt ↦ small i 0 lt
  | inr le ↦ rw
      (get_or_past bytes i 0 le) (omega arith)
]
