-- Keys as text, in the manner of FoundationDB's `printable`: printable ASCII is written as itself, `\\` for the backslash, and
-- `\xNN` for any byte, by two hexadecimal digits.
use Rattle.std.specs.Prelude.{ℕ, ◌+◌, ◌*◌, ◌/◌, ◌%◌, List, [], ◌∷◌, ◌++◌, codes, Bool, ◌&&◌, ◌==◌, nat_lt, nat_le, flat_map, Option, Some, None, option_map, if◌then◌else◌}
use Rattle.std.specs.Char.{digit_char, digit_value, is_digit}

abbrev pub backslash : ℕ
backslash = 92

abbrev pub letter_x : ℕ
letter_x = 120

-- printable ASCII, from the space to the tilde
abbrev pub is_printable : ℕ → Bool
is_printable byte = nat_le 32 byte && nat_lt byte 127

-- the text of a byte: its number only if it must be
unfoldable pub byte_form : ℕ → List ℕ
byte_form byte =
    if byte == backslash then backslash ∷ backslash ∷ []
    else if is_printable byte then byte ∷ []
    else backslash ∷ letter_x ∷ digit_char (byte / 16) ∷ digit_char (byte % 16) ∷ []

-- the printed form of a key
abbrev pub key_form : List ℕ → List ℕ
key_form key = flat_map byte_form key

-- the same, in quotes
abbrev pub quoted_key : List ℕ → List ℕ
quoted_key key = codes "\"" ++ key_form key ++ codes "\""

abbrev pub after_byte : ℕ → Option (List ℕ) → Option (List ℕ)
after_byte byte rest = option_map (λ key. byte ∷ key) rest

-- the position in the form of a byte at which a text begins
pub data Within : Type 0 where
  plain : Within
  after_backslash : Within
  after_x : Within

-- The key that a text spells, if it spells one. `\xNN` is read for any byte, its digits in either case.
unfoldable pub spelled_from : Within → List ℕ → Option (List ℕ)
spelled_from plain [] = Some []
spelled_from plain (c ∷ cs) =
    if c == backslash then spelled_from after_backslash cs
    else if is_printable c then after_byte c (spelled_from plain cs)
    else None
spelled_from after_backslash [] = None
spelled_from after_backslash (c ∷ cs) =
    if c == backslash then after_byte backslash (spelled_from plain cs)
    else if c == letter_x then spelled_from after_x cs
    else None
spelled_from after_x [] = None
spelled_from after_x (a ∷ []) = None
spelled_from after_x (a ∷ b ∷ cs) =
    if is_digit a 16 && is_digit b 16 then after_byte (digit_value a * 16 + digit_value b) (spelled_from plain cs)
    else None

abbrev pub spelled_key : List ℕ → Option (List ℕ)
spelled_key text = spelled_from plain text

-- the value of a hexadecimal digit
abbrev pub hex_value : ℕ → Option ℕ
hex_value c = if is_digit c 16 then Some (digit_value c) else None

-- the byte that two digits at the front spell, and what follows them
abbrev pub number_at : List ℕ → Option (ℕ × List ℕ)
number_at [] = None
number_at (a ∷ []) = None
number_at (a ∷ b ∷ cs) =
    if is_digit a 16 && is_digit b 16 then Some (digit_value a * 16 + digit_value b, cs) else None

-- the same after a backslash
abbrev pub escaped_at : List ℕ → Option (ℕ × List ℕ)
escaped_at [] = None
escaped_at (c ∷ cs) = if c == backslash then Some (backslash, cs) else if c == letter_x then number_at cs else None

-- the byte that the front of a text spells, and what follows it
unfoldable pub byte_at : List ℕ → Option (ℕ × List ℕ)
byte_at [] = None
byte_at (c ∷ cs) = if c == backslash then escaped_at cs else if is_printable c then Some (c, cs) else None
