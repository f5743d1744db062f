-- The text of a key, byte by byte.
use Rattle.std.proofs.Common.{◌≡◌, ◌≢◌, ℕ, ◌+◌, ◌*◌, ◌<◌, cond, ◌&&◌, ◌==◌, List, [], ◌∷◌, ◌++◌, Option, Some, None, refl, sym, ap, ◌∙◌, arith, length}
use Rattle.std.specs.Char.{digit_value, is_digit}
use Rattle.std.proofs.lemmas.List.{nil_from_length}
use Rattle.json_lines.specs.KeyForm.{backslash, letter_x, is_printable, after_byte, after_backslash, after_x, spelled_from, spelled_key, number_at, escaped_at, byte_at}
use Rattle.json_lines.specs.Values.{◌>>=◌}
use Rattle.json_lines.proofs.Reading.{with_front, one_more, all_read, bind_cond}

-- a byte, and then the key of the rest
abbrev pub then_spelled : ℕ × List ℕ → Option (List ℕ)
then_spelled x = after_byte x.0 (spelled_key x.1)

number_step : (cs : List ℕ) → spelled_from after_x cs ≡ (number_at cs >>= then_spelled)
unfolding spelled_from
number_step [] = refl
number_step (a ∷ []) = refl
number_step (a ∷ b ∷ cs) =
    sym (bind_cond (is_digit a 16 && is_digit b 16) (Some (digit_value a * 16 + digit_value b, cs)) None then_spelled)

escaped_step : (cs : List ℕ) → spelled_from after_backslash cs ≡ (escaped_at cs >>= then_spelled)
unfolding spelled_from
escaped_step [] = refl
escaped_step (c ∷ cs) =
    ap (λ (o : Option (List ℕ)). cond (c == backslash) (after_byte backslash (spelled_key cs)) o)
    (ap (λ (o : Option (List ℕ)). cond (c == letter_x) o None) (number_step cs)
    ∙ sym (bind_cond (c == letter_x) (number_at cs) None then_spelled))
    ∙ sym (bind_cond (c == backslash) (Some (backslash, cs)) (cond (c == letter_x) (number_at cs) None) then_spelled)

-- a text that isn't empty spells the byte at its front, and then what the rest spells
pub spelled_step : (text : List ℕ) → text ≢ [] → spelled_key text ≡ (byte_at text >>= then_spelled)
unfolding spelled_from byte_at
spelled_step [] some = absurd (some refl)
spelled_step (c ∷ cs) some =
    ap (λ (o : Option (List ℕ)). cond (c == backslash) o (cond (is_printable c) (after_byte c (spelled_key cs)) None)) (escaped_step cs)
    ∙ ap (λ (o : Option (List ℕ)). cond (c == backslash) (escaped_at cs >>= then_spelled) o)
    (sym (bind_cond (is_printable c) (Some (c, cs)) None then_spelled))
    ∙ sym (bind_cond (c == backslash) (escaped_at cs) (cond (is_printable c) (Some (c, cs)) None) then_spelled)

some_left : (rest : List ℕ) → 0 < length rest → rest ≢ []
some_left rest some e = omega (arith, ap length e)

-- one more byte is read
pub key_on : (front rest after : List ℕ) (byte : ℕ) (total : Option (List ℕ)) → 0 < length rest → byte_at rest ≡ Some (byte, after)
    → with_front front (spelled_key rest) ≡ total → with_front (front ++ byte ∷ []) (spelled_key after) ≡ total
key_on front rest after byte total some read so_far =
    let step : with_front front (spelled_key rest) ≡ with_front (front ++ byte ∷ []) (spelled_key after) =
    ap (with_front front) (spelled_step rest (some_left rest some) ∙ ap (λ (o : Option (ℕ × List ℕ)). o >>= then_spelled) read)
    ∙ one_more front byte (spelled_key after) in
    sym step ∙ so_far

-- the front of what is left spells no byte
pub key_ends : (front rest : List ℕ) (total : Option (List ℕ)) → 0 < length rest → byte_at rest ≡ None
    → with_front front (spelled_key rest) ≡ total → total ≡ None
key_ends front rest total some none so_far =
    let step : with_front front (spelled_key rest) ≡ None =
    ap (with_front front) (spelled_step rest (some_left rest some) ∙ ap (λ (o : Option (ℕ × List ℕ)). o >>= then_spelled) none) in
    sym so_far ∙ step

-- nothing is left
pub key_done : (front rest : List ℕ) (total : Option (List ℕ)) → length rest ≡ 0 → with_front front (spelled_key rest) ≡ total
    → total ≡ Some front
unfolding spelled_from
key_done front rest total none so_far =
    let step : with_front front (spelled_key rest) ≡ Some front =
    ap (λ (left : List ℕ). with_front front (spelled_key left)) (nil_from_length rest none) ∙ all_read front in
    sym so_far ∙ step
