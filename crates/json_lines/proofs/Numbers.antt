-- Whole numbers, as `parse` finds them and as the definition tests them.
use Rattle.std.proofs.Common.{◌≡◌, ℕ, ℤ, true, cond, ◌&&◌, List, [], ◌∷◌, length, Option, Some, None, ok_or, inl, inr, refl, sym, ap, ◌∙◌, w64, MatchOption}
use Rattle.std.specs.Str.Parse.{AllDigits, IsNumeral, ParsesSigned, without_leading_sign, signed_digits_value}
use Rattle.std.specs.Char.{digit_value, is_digit}
use Rattle.std.specs.Int.RustNames.{FitsSigned}
use Rattle.std.specs.List.{list_all}
use Rattle.std.proofs.lemmas.Bool.{and_from, and_parts, lt-ltb, ltb-true, cases_Bool, false≢true}
use Rattle.json_lines.specs.Values.{◌>>=◌, is_integer, fits, integer_of}

digits_pass : (ds : List ℕ) → AllDigits 10 ds → list_all (λ c. is_digit c 10) ds ≡ true
digits_pass [] d = refl
digits_pass (c ∷ cs) d = and_from (is_digit c 10) _ (lt-ltb (digit_value c) 10 d.0) (digits_pass cs d.1)

pass_digits : (ds : List ℕ) → list_all (λ c. is_digit c 10) ds ≡ true → AllDigits 10 ds
pass_digits [] e = tt
pass_digits (c ∷ cs) e = let p = and_parts (is_digit c 10) _ e in (ltb-true (digit_value c) 10 p.0, pass_digits cs p.1)

-- what `parse` asks of a text
abbrev pub IsInteger : List ℕ → Type 0
IsInteger text = IsNumeral 10 (without_leading_sign text) × FitsSigned w64 (signed_digits_value 10 text)

pub passes : (text : List ℕ) → IsInteger text → (is_integer text && fits (signed_digits_value 10 text)) ≡ true
passes text h =
    and_from (is_integer text) (fits (signed_digits_value 10 text))
    (and_from _ _ (lt-ltb 0 (length (without_leading_sign text)) h.0.0) (digits_pass (without_leading_sign text) h.0.1))
    (lt-ltb _ _ h.1.sfits)

asked : (text : List ℕ) → (is_integer text && fits (signed_digits_value 10 text)) ≡ true → IsInteger text
asked text e =
    let p = and_parts (is_integer text) (fits (signed_digits_value 10 text)) e in
    let q = and_parts _ _ p.0 in
    ((ltb-true 0 (length (without_leading_sign text)) q.0, pass_digits (without_leading_sign text) q.1), record { sfits = ltb-true _ _ p.1 })

pub integer_is : (text : List ℕ) → IsInteger text → integer_of text ≡ Some (signed_digits_value 10 text)
unfolding integer_of
integer_is text h = ap (λ b. cond b (Some (signed_digits_value 10 text)) None) (passes text h)

integer_none : (text : List ℕ) → ¬ (IsInteger text) → integer_of text ≡ None
unfolding integer_of
integer_none text not_integer =
    elim (cases_Bool (is_integer text && fits (signed_digits_value 10 text))) [
      | inl ok ↦ absurd (not_integer (asked text ok))
      | inr fails ↦ ap (λ b. cond b (Some (signed_digits_value 10 text)) None) fails
    ]

-- `parse` returns the integer of the text
pub parsed : (o : Option (List ℕ)) (r : Option ℤ) → MatchOption o (r ≡ None) (λ s. ParsesSigned w64 10 s (ok_or r s))
    → (o >>= integer_of) ≡ r
parsed None r h = sym h
parsed (Some s) (Some n) h = integer_is s h.0 ∙ ap Some (sym h.1)
parsed (Some s) None h = integer_none s h

-- the definition says of each text what `parse` says of it
pub integer_parses : (text : List ℕ) → ParsesSigned w64 10 text (ok_or (integer_of text) text)
unfolding integer_of
integer_parses text =
    elim (cases_Bool (is_integer text && fits (signed_digits_value 10 text))) [
      | inl ok ↦ rw ok (asked text ok, refl)
      | inr fails ↦ rw fails (λ h. false≢true (sym fails ∙ passes text h))
    ]
