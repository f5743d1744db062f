-- A number that is read is the number that is spelled there.
use Rattle.std.proofs.Common.{◌≡◌, ℕ, ℤ, ◌+◌, ◌^◌, ◌<◌, ◌≤◌, Bool, true, cond, ltb, List, [], ◌∷◌, ◌++◌, length, get_or, take, drop, Ok, Err, sym, ap, subst, ◌∙◌, append_assoc, arith, inl, inr}
use Rattle.std.specs.Int.{w64, cast_signed}
use Rattle.std.specs.Int.RustNames.{FitsSigned}
use Rattle.std.proofs.Math.Facts.{sfits_to_z}
use Rattle.std.proofs.lemmas.Bool.{cases_lt, ltb-false}
use Rattle.std.proofs.lemmas.Int.{of_z-to_z}
use Rattle.std.proofs.lemmas.List.{take-append-drop, length-take, get_or-drop, get_or-take, get_or_past}
use Rattle.std.proofs.lemmas.Nat.{be_bytes_2, be_bytes_4, be_bytes_8}
use Rattle.byteorder.specs.Endian.{big_number, big_bytes}
use Rattle.byteorder.specs.Numbers.{big_from-take, big_from-lt}
use Rattle.wire.specs.declared.error.WireError.TheVariants.{Cut, Version}
use Rattle.wire.specs.Spelling.{signed_text}
use Rattle.wire.specs.Reading.{number_at, signed_at, version_at}
use Rattle.wire.proofs.Steps.{bind_ok, passed_over, passed, ok_is}

abbrev pub AreBytes : List ℕ → Type 0
AreBytes bytes = (i : ℕ) → get_or bytes i 0 < 256

pub AreBytes-drop : (n : ℕ) (bytes : List ℕ) → AreBytes bytes → AreBytes (drop n bytes)
AreBytes-drop n bytes h i = rw get_or-drop (h (n + i))

pub AreBytes-take : (n : ℕ) (bytes : List ℕ) → AreBytes bytes → AreBytes (take n bytes)
AreBytes-take n bytes h i =
    elim (cases_lt i n) [
      | inl lt ↦ rw (get_or-take n bytes i 0 lt) (h i)
      | inr le ↦ rw (get_or_past (take n bytes) i 0 (omega (arith, length-take n bytes))) (omega arith)
    ]

-- what a reader took from the front
pub record Takes (bytes text rest : List ℕ) : Type 0 where
  pub parts : bytes ≡ text ++ rest
  pub rest_fits : AreBytes rest

pub Takes-then : {a x b y c : List ℕ} → Takes a x b → Takes b y c → Takes a (x ++ y) c
Takes-then {a} {x} {b} {y} {c} p q = record {
  parts = p.parts ∙ ap (λ (t : List ℕ). x ++ t) q.parts
      ∙ sym (append_assoc x y c);
  rest_fits = q.rest_fits;
}

-- the bytes of a number of n bytes are those that were read
abbrev pub ReadsBack : ℕ → Type 0
ReadsBack n = (bytes : List ℕ) → length bytes ≡ n → AreBytes bytes → big_bytes n (big_number n bytes) ≡ bytes

pub back_1 : ReadsBack 1
back_1 [] len fits = absurd (omega arith)
back_1 (b ∷ []) len fits = let small : b < 256 = fits 0 in ap (λ (x : ℕ). x ∷ []) (omega arith)
back_1 (b ∷ c ∷ bytes) len fits = absurd (omega arith)

pub back_2 : ReadsBack 2
back_2 bytes len fits = be_bytes_2 bytes _ len fits (omega arith)

pub back_4 : ReadsBack 4
back_4 bytes len fits = be_bytes_4 bytes _ len fits (omega arith)

pub back_8 : ReadsBack 8
back_8 bytes len fits = be_bytes_8 bytes _ len fits (omega arith)

pub number_takes : (n : ℕ) (back : ReadsBack n) (bytes : List ℕ) (x : ℕ) (rest : List ℕ) → AreBytes bytes
    → number_at n bytes ≡ Ok (x, rest) → Takes bytes (big_bytes n x) rest × (x < 256 ^ n)
number_takes n back bytes x rest fits e =
    let g = passed_over (ltb (length bytes) n) Cut (Ok (big_number n bytes, drop n bytes)) (x, rest) e in
    let long : n ≤ length bytes = ltb-false _ _ g.0 in
    let both = ok_is (big_number n bytes, drop n bytes) (x, rest) g.1 in
    let x-is : big_number n bytes ≡ x = ap (λ (p : ℕ × List ℕ). p.0) both in
    let rest-is : drop n bytes ≡ rest = ap (λ (p : ℕ × List ℕ). p.1) both in
    let front_len : length (take n bytes) ≡ n = omega (arith, length-take n bytes) in
    let same : big_number n (take n bytes) ≡ big_number n bytes = big_from-take 0 n n bytes (omega arith) in
    let front : big_bytes n x ≡ take n bytes =
    rw (← x-is, ← same) (back (take n bytes) front_len (AreBytes-take n bytes fits)) in (
      record {
        parts = rw (front, ← rest-is) (sym (take-append-drop n bytes));
        rest_fits = rw (← rest-is) (AreBytes-drop n bytes fits);
      },
      rw (← x-is) (big_from-lt 0 n bytes fits),
    )

pub signed_takes : (bytes : List ℕ) (z : ℤ) (rest : List ℕ) → AreBytes bytes → signed_at bytes ≡ Ok (z, rest)
    → Takes bytes (signed_text z) rest × FitsSigned w64 z
signed_takes bytes z rest fits e =
    let b = bind_ok (number_at 8 bytes) (λ n. Ok (cast_signed w64 n.0, n.1)) (z, rest) e in
    let t = number_takes 8 back_8 bytes b.0.0 b.0.1 fits b.1 in
    let small : b.0.0 < 2 ^ 64 = t.1 in
    let same : signed_text (cast_signed w64 b.0.0) ≡ big_bytes 8 b.0.0 =
    ap (big_bytes 8) (of_z-to_z w64 b.0.0 small) in
    subst (λ (p : ℤ × List ℕ). Takes bytes (signed_text p.0) p.1 × FitsSigned w64 p.0)
    (ok_is (cast_signed w64 b.0.0, b.0.1) (z, rest) b.2) (
      rw same t.0,
      sfits_to_z {w = w64} {n = b.0.0} (record { fits = small }),
    )

pub version_takes : (holds : ℤ → Bool) (bytes : List ℕ) (x : ℤ × List ℕ) → AreBytes bytes
    → version_at holds bytes ≡ Ok x → Takes bytes (signed_text x.0) x.1 × FitsSigned w64 x.0
    × (holds x.0 ≡ true)
unfolding version_at
version_takes holds bytes x fits e =
    let b = bind_ok (signed_at bytes) (λ version. cond (holds version.0) (Ok version) (Err Version)) x e in
    let g = passed (holds b.0.0) Version (Ok b.0) x b.2 in
    let t = signed_takes bytes b.0.0 b.0.1 fits b.1 in
    subst (λ (p : ℤ × List ℕ). Takes bytes (signed_text p.0) p.1 × FitsSigned w64 p.0 × (holds p.0 ≡ true))
    (ok_is b.0 x g.1) (t.0, t.1, g.0)
