-- How many bytes settle what a frame says, and how many of them are missing.
use Rattle.std.proofs.Common.{◌≡◌, ℕ, ◌+◌, ◌-◌, ◌<◌, ◌≤◌, List, ◌++◌, length, take, inl, inr, Some, refl, sym, ap, ◌∙◌, arith}
use Rattle.std.proofs.lemmas.Bool.{cases_lt, lt-ltb, le-ltb}
use Rattle.std.proofs.lemmas.List.{length-append, take-append-le, take_all}
use Rattle.byteorder.specs.Endian.{big_number}
use Rattle.byteorder.specs.Numbers.{big_from-take}
use Rattle.replay_diagnosis.specs.Content.{EndsInFrame}
use Rattle.wire.specs.declared.error.WireError.TheVariants.{Short}
use Rattle.wire.specs.FrameLength.{frame_length}
use Rattle.wire.specs.Reading.{body_at, batch_fault, read_batch}
use Rattle.wire.proofs.callers.Frames.{entire_length, long_length}

-- four bytes settle it
pub same_frame_length : (front rest : List ℕ) → 4 ≤ length front → frame_length (front ++ rest) ≡ frame_length front
unfolding frame_length
same_frame_length front rest le =
    let n = length front in
    let taken : take n (front ++ rest) ≡ front = take-append-le n front rest (omega arith) ∙ take_all n front (omega arith) in
    let number : big_number 4 (front ++ rest) ≡ big_number 4 front =
    sym (big_from-take 0 4 n (front ++ rest) le) ∙ ap (big_number 4) taken in
    let more : 4 ≤ length (front ++ rest) = omega (arith, length-append front rest) in
    let a = le-ltb _ _ le in
    let b = le-ltb _ _ more in
    rw (a, b, number) refl

-- bytes that end too early have that fault
pub short_fault : (bytes : List ℕ) → length bytes < frame_length bytes → batch_fault bytes ≡ Some Short
unfolding frame_length body_at read_batch
short_fault bytes lt =
    elim (cases_lt (length bytes) 4) [
      | inl few ↦ let a = lt-ltb _ _ few in rw a refl
      | inr le ↦
          let a = le-ltb _ _ le in
          elim (cases_lt 4194304 (big_number 4 bytes)) [
            | inl long ↦ let b = lt-ltb _ _ long in absurd (omega (arith, lt, le, long_length bytes le long))
            | inr low ↦
                let b = le-ltb _ _ low in
                let c : length bytes < 4 + big_number 4 bytes = omega (arith, lt, entire_length bytes le low) in
                let d = lt-ltb _ _ c in
                rw (a, b, d) refl
          ]
    ]

-- what a front that ends too early says
pub ends_early : (front : List ℕ) (settled : ℕ) → settled ≡ frame_length front → 0 < length front → length front < settled
    → EndsInFrame (settled - length front) front
ends_early front settled exact some lt = record {
  fault = ((λ none. omega (arith, some, ap length none)), short_fault front (omega (arith, lt, exact)));
  some = omega (arith, lt);
  missing_is = omega (arith, lt, exact);
}
