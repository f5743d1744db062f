-- What JSON values say: integers, truth values, lists, and the members of an object.
use Rattle.std.specs.Prelude.{◌≡◌, ◌≢◌, Result, Ok, Err, ℕ, suc, ℤ, ◌^◌, List, [], ◌∷◌, length, Bool, true, false, ◌&&◌, ◌||◌, not, nat_lt, nat_le, Option, Some, None, option_and_then, if◌then◌else◌}
use Rattle.std.specs.List.{list_any, list_all}
use Rattle.std.specs.Str.{bytes_eq}
use Rattle.std.specs.Str.Parse.{signed_digits_value, without_leading_sign}
use Rattle.std.specs.Char.{is_digit}
use Rattle.json.specs.Json.{Json, null, boolean, number, string, array, object, Items, no_items, item, Members, no_members, member}
use Rattle.json.specs.Find.{get, as_number, as_array}
use lib.Signed.{mag}
use Rattle.json_lines.specs.declared.cause.Cause.TheVariants.{Memory}
use Rattle.json_lines.specs.declared.refusal.LineRefusal.{LineRefusal}

-- What was read is what the definition gives, seen by view; or it gives nothing, unless memory was refused.
abbrev pub Reads : {X Y : Type 0} → (X → Y) → Result X LineRefusal → Option Y → Type 0
Reads view (Ok x) reported = reported ≡ Some (view x)
Reads view (Err e) reported = e.cause ≢ Memory → reported ≡ None

infixl 10 ◌>>=◌
abbrev pub ◌>>=◌ : {A B : Type 0} → Option A → (A → Option B) → Option B
o >>= f = option_and_then f o

-- an optional sign and one digit or more, and nothing else: no point and no exponent
abbrev pub is_integer : List ℕ → Bool
is_integer text = nat_lt 0 (length (without_leading_sign text)) && list_all (λ c. is_digit c 10) (without_leading_sign text)

-- it fits 64 bits with a sign
abbrev pub fits : ℤ → Bool
fits n = nat_lt (mag n) (2 ^ 63)

-- the integer that a text spells
unfoldable pub integer_of : List ℕ → Option ℤ
integer_of text = if is_integer text && fits (signed_digits_value 10 text) then Some (signed_digits_value 10 text) else None

abbrev pub number_in : Json → Option ℤ
number_in j = as_number j >>= integer_of

-- each item read, in order
unfoldable pub each : {A : Type 0} → (Json → Option A) → Items → Option (List A)
each one no_items = Some []
each one (item j js) = do
  x ← one j
  xs ← each one js
  Some (x ∷ xs)

abbrev pub count : Items → ℕ
count no_items = 0
count (item j js) = suc (count js)

-- the items of an array of at most n of them
abbrev pub items_at_most : ℕ → Json → Option Items
items_at_most limit j = as_array j >>= λ js. if nat_le (count js) limit then Some js else None

-- an array of at most n items, each read
unfoldable pub list_in : {A : Type 0} → (Json → Option A) → ℕ → Json → Option (List A)
list_in one limit j = items_at_most limit j >>= each one

-- a member of that name is there
abbrev pub has_member : List ℕ → Members → Bool
has_member name no_members = false
has_member name (member k j ms) = bytes_eq k name || has_member name ms

-- each member has one of the names, and no two have the same
unfoldable pub are_among : List (List ℕ) → Members → Bool
are_among names no_members = true
are_among names (member k j ms) =
    list_any (bytes_eq k) names && (not (has_member k ms) && are_among names ms)

-- an object whose members are so
abbrev pub has_only : List (List ℕ) → Json → Bool
has_only names null = false
has_only names (boolean b) = false
has_only names (number s) = false
has_only names (string s) = false
has_only names (array js) = false
has_only names (object ms) = are_among names ms

-- a member that has to be there, read
abbrev pub required_member : {A : Type 0} → (Json → Option A) → List ℕ → Json → Option A
required_member one name j = get name j >>= one

-- a member with a default if it is missing
abbrev pub optional_or : {A : Type 0} → (Json → Option A) → A → Option Json → Option A
optional_or one default None = Some default
optional_or one default (Some j) = one j

abbrev pub optional : {A : Type 0} → (Json → Option A) → A → List ℕ → Json → Option A
optional one default name j = optional_or one default (get name j)

-- what a test gives that has nothing to give
abbrev pub if_so : Bool → Option (Unit {0})
if_so true = Some tt
if_so false = None
