-- The printed form of a key is ASCII.
use Rattle.std.proofs.Common.{◌≡◌, refl, ℕ, ◌/◌, ◌%◌, ◌<◌, ◌==◌, ltb, leb, List, [], ◌∷◌, inl, inr, sym, subst, arith, IsAscii, ltb-true, get_or, suc}
use Rattle.std.specs.Char.{digit_char}
use Rattle.std.proofs.lemmas.Bool.{cases_Bool, and_parts}
use Rattle.std.proofs.lemmas.List.Elements.{All-head, All-tail, All-nil, All-cons}
use Rattle.std.proofs.lemmas.Str.{IsAscii-append}
use Rattle.std.proofs.lemmas.Str.Ascii.{IsAscii-nil, IsAscii-cons}
use Rattle.keys.specs.Key.{IsBytes}
use Rattle.json_lines.specs.KeyForm.{backslash, is_printable, byte_form, key_form}

digit_small : (d : ℕ) → d < 16 → digit_char d < 128
digit_small d h = grind arith

byte_ascii : (b : ℕ) → b < 256 → IsAscii (byte_form b)
unfolding byte_form
byte_ascii b small =
    elim (cases_Bool (b == backslash)) [
      | inl is ↦
          let form : byte_form b ≡ 92 ∷ 92 ∷ [] = rw is refl in
          subst IsAscii (sym form) (IsAscii-cons 92 (92 ∷ []) (omega arith) (IsAscii-cons 92 [] (omega arith) IsAscii-nil))
      | inr other ↦ elim (cases_Bool (is_printable b)) [
        | inl shown ↦
            let form : byte_form b ≡ b ∷ [] = rw (other, shown) refl in
            let low : b < 127 = ltb-true b 127 (and_parts (leb 32 b) (ltb b 127) shown).1 in
            subst IsAscii (sym form) (IsAscii-cons b [] (omega (arith, low)) IsAscii-nil)
        | inr hidden ↦
            let h = digit_char (b / 16) in
            let l = digit_char (b % 16) in
            let form : byte_form b ≡ 92 ∷ 120 ∷ h ∷ l ∷ [] = rw (other, hidden) refl in
            subst IsAscii (sym form) (IsAscii-cons 92 (120 ∷ h ∷ l ∷ []) (omega arith) (IsAscii-cons 120 (h ∷ l ∷ []) (omega arith)
            (IsAscii-cons h (l ∷ []) (digit_small (b / 16) (omega arith))
            (IsAscii-cons l [] (digit_small (b % 16) (omega arith)) IsAscii-nil))))
      ]
    ]

pub form_ascii : (key : List ℕ) → IsBytes key → IsAscii (key_form key)
form_ascii [] h = IsAscii-nil
form_ascii (b ∷ bs) h =
    IsAscii-append (byte_form b) (key_form bs) (byte_ascii b (All-head (λ byte. byte < 256) b bs h))
    (form_ascii bs (All-tail (λ byte. byte < 256) b bs h))

-- what a slice of bytes holds
pub all_bytes : (key : List ℕ) → ((i : ℕ) → get_or key i 0 < 256) → IsBytes key
all_bytes [] h = All-nil (λ byte. byte < 256)
all_bytes (b ∷ bs) h = All-cons (λ byte. byte < 256) b bs (h 0) (all_bytes bs (λ i. h (suc i)))
