-- A frame that was read far enough is settled, whatever follows it.
use Rattle.std.proofs.Common.{◌≡◌, ℕ, ◌+◌, ◌^◌, ◌<◌, ◌≤◌, true, false, ltb, List, [], ◌++◌, length, take, drop, Result, refl, sym, ap, ◌∙◌, arith, inl, inr}
use Rattle.std.proofs.lemmas.Bool.{cases_lt, lt-ltb, le-ltb}
use Rattle.std.proofs.lemmas.List.{append-nil, length-append, length-take, drop-append-le, take_all, take-append-le, length-drop}
use Rattle.byteorder.specs.Endian.{big_number, big_bytes}
use Rattle.byteorder.specs.Numbers.{big_from-take, big_from-append, big_number-reads_back}
use Rattle.wire.specs.declared.error.WireError.{WireError}
use Rattle.wire.specs.FrameLength.{frame_length}
use Rattle.wire.specs.Spelling.{frame, IsShort}
use Rattle.wire.specs.Reading.{◌>>=◌, body_at, batch_at, all_of, read_batch}

-- the three cases of a front
pub short_length : (bytes : List ℕ) → length bytes < 4 → frame_length bytes ≡ 4
unfolding frame_length
short_length bytes lt = let a = lt-ltb _ _ lt in rw a refl

pub long_length : (bytes : List ℕ) → 4 ≤ length bytes → 4194304 < big_number 4 bytes → frame_length bytes ≡ 4
unfolding frame_length
long_length bytes le lt = let a = le-ltb _ _ le in let b = lt-ltb _ _ lt in rw (a, b) refl

pub entire_length : (bytes : List ℕ) → 4 ≤ length bytes → big_number 4 bytes ≤ 4194304
    → frame_length bytes ≡ 4 + big_number 4 bytes
unfolding frame_length
entire_length bytes le low = let a = le-ltb _ _ le in let b = le-ltb _ _ low in rw (a, b) refl

pub at_least_four : (bytes : List ℕ) → 4 ≤ frame_length bytes
at_least_four bytes =
    elim (cases_lt (length bytes) 4) [
      | inl lt ↦ omega (arith, short_length bytes lt)
      | inr le ↦ elim (cases_lt 4194304 (big_number 4 bytes)) [
        | inl lt ↦ omega (
          arith,
          long_length bytes le lt,
        )
        | inr low ↦ omega (arith, entire_length bytes le low)
      ]
    ]

pub at_most_entire : (bytes : List ℕ) → 4 ≤ length bytes → frame_length bytes ≤ 4 + big_number 4 bytes
at_most_entire bytes le =
    elim (cases_lt 4194304 (big_number 4 bytes)) [
      | inl lt ↦ omega (
        arith,
        long_length bytes le lt,
      )
      | inr low ↦ omega (arith, entire_length bytes le low)
    ]

-- more bytes don't change the length that the front shows
pub same_length : (front bytes : List ℕ) → take (length front) bytes ≡ front → 4 < frame_length front
    → frame_length bytes ≡ frame_length front
same_length front bytes e more =
    elim (cases_lt (length front) 4) [
      | inl lt ↦ absurd (omega (arith, short_length front lt))
      | inr le ↦ elim (cases_lt 4194304 (big_number 4 front)) [
        | inl lt ↦ absurd (omega (arith, long_length front le lt))
        | inr low ↦
            let number : big_number 4 bytes ≡ big_number 4 front =
            sym (big_from-take 0 4 (length front) bytes (omega arith)) ∙ ap (big_number 4) e in
            let there : 4 ≤ length bytes = omega (arith, length-take (length front) bytes, ap length e) in
            entire_length bytes there (omega arith) ∙ ap (λ (n : ℕ). 4 + n) number
            ∙ sym (entire_length front le low)
      ]
    ]

pub same_body : (front rest : List ℕ) → frame_length front ≤ length front
    → body_at (front ++ rest) ≡ body_at front
unfolding body_at
same_body front rest settled =
    let least = at_least_four front in
    let le : 4 ≤ length front = omega arith in
    let len = length-append front rest in
    let number : big_number 4 (front ++ rest) ≡ big_number 4 front = big_from-append 4 front rest le in
    let a : ltb (length (front ++ rest)) 4 ≡ false = le-ltb _ _ (omega arith) in
    let b : ltb (length front) 4 ≡ false = le-ltb _ _ le in
    elim (cases_lt 4194304 (big_number 4 front)) [
      | inl lt ↦ let d : ltb 4194304 (big_number 4 front) ≡ true = lt-ltb _ _ lt in rw (a, b, number, d) refl
      | inr low ↦
          let d : ltb 4194304 (big_number 4 front) ≡ false = le-ltb _ _ low in
          let entire : 4 + big_number 4 front ≤ length front = omega (arith, entire_length front le low) in
          let e : ltb (length (front ++ rest)) (4 + big_number 4 front) ≡ false = le-ltb _ _ (omega arith) in
          let f : ltb (length front) (4 + big_number 4 front) ≡ false = le-ltb _ _ entire in
          let after : drop 4 (front ++ rest) ≡ drop 4 front ++ rest = drop-append-le 4 front rest le in
          let body : take (big_number 4 front) (drop 4 front ++ rest) ≡ take (big_number 4 front)
          (drop 4 front) = take-append-le (big_number 4 front) (drop 4 front) rest
          (omega (arith, length-drop 4 front)) in
          rw (a, b, number, d, e, f, after, body) refl
    ]

pub same_read : (front rest : List ℕ) → (length front < frame_length front → rest ≡ [])
    → read_batch (front ++ rest) ≡ read_batch front
unfolding read_batch
same_read front rest end =
    elim (cases_lt (length front) (frame_length front)) [
      | inl lt ↦ ap read_batch (ap (λ (x : List ℕ). front ++ x) (end lt) ∙ append-nil front)
      | inr le ↦ ap (λ (r : Result (List ℕ) WireError). r
          >>= λ body. all_of (batch_at body)) (same_body front rest le)
    ]

-- a frame is as long as its front says
pub settled_frame : (body : List ℕ) → IsShort body → frame_length (frame body) ≡ length (frame body)
settled_frame body short =
    let n = length body in
    let small : n < 256 ^ 4 = omega arith in
    let number : big_number 4 (frame body) ≡ n = big_number-reads_back 4 n body small in
    let len : length (frame body) ≡ 4 + n = length-append (big_bytes 4 n) body in
    entire_length (frame body) (omega (arith, len)) (omega (arith, number)) ∙ ap (λ (l : ℕ). 4 + l) number ∙ sym len

-- bytes that begin with a frame, and are no longer than their front says, are that frame
pub entire_is_frame : (body bytes : List ℕ) (used : ℕ) → IsShort body → take used bytes ≡ frame body
    → used ≤ length bytes → length bytes ≤ frame_length bytes → take used bytes ≡ bytes
entire_is_frame body bytes used short text there within =
    let n = length body in
    let small : n < 256 ^ 4 = omega arith in
    let len : length (take used bytes) ≡ 4 + n = ap length text ∙ length-append (big_bytes 4 n) body in
    let is : used ≡ 4 + n = omega (arith, len, length-take used bytes) in
    let number : big_number 4 bytes ≡ n =
    sym (big_from-take 0 4 used bytes (omega arith)) ∙ ap (big_number 4) text ∙ big_number-reads_back 4 n body small in
    let most = at_most_entire bytes (omega arith) in
    take_all used bytes (omega (arith, most, number))
