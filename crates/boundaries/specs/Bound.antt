-- The position of a key relative to a bound. This project's own.
use Rattle.std.specs.Prelude.{◌≡◌, ℕ, Bool, not, true, false, refl, if◌then◌else◌, List, [], Some, option_map, unwrap_or}
use Rattle.arena.specs.Arena.{Arena, key_at}
use mathlib.Core.Path.{sym, ap, subst}
use Rattle.keys.specs.Key.{is_before}
use Rattle.keys.proofs.callers.KeyOrder.{before_at_most_same}
use Rattle.boundaries.specs.declared.key_bound.KeyBound.{KeyBound}
use Rattle.boundaries.specs.Heads.{IsBelowInOrder}

-- the keys of boundaries
abbrev pub Keys : Type 0
Keys = Arena (Unit {0})

-- the bytes of the key of a slot, or none if it has no record
abbrev pub bytes_at : {H : Type 0} → Arena H → ℕ → List ℕ
bytes_at keys slot = unwrap_or (key_at keys slot) []

-- whether a key comes before the bound, which is right after a key or right before it
abbrev pub is_below_at : Bool → List ℕ → List ℕ → Bool
is_below_at up_to key k = if up_to then not (is_before key k) else is_before k key

-- whether the key of a slot does; that of a slot without a record doesn't
abbrev pub slot_is_below : {H : Type 0} → Arena H → Bool → List ℕ → ℕ → Bool
slot_is_below keys up_to key slot = unwrap_or (option_map (is_below_at up_to key) (key_at keys slot)) false

abbrev pub is_below : Keys → KeyBound → ℕ → Bool
is_below keys bound slot = slot_is_below keys bound.up_to bound.key.now slot

not_if : (b : Bool) → not b ≡ true → b ≡ false
not_if true h = sym h
not_if false h = refl

in_order : (up_to : Bool) (key text : List ℕ) → IsBelowInOrder text key (is_below_at up_to key text)
in_order true key text =
    record { before = λ h. before_at_most_same text key h; following = λ h. ap not h }
in_order false key text =
    record { before = λ h. h; following = λ h. not_if (is_before text key) (before_at_most_same key text h) }

-- whether the key of a slot comes before the bound goes by its bytes
pub is_below_in_order : {H : Type 0} (keys : Arena H) (up_to : Bool) (key : List ℕ) (slot : ℕ) (text : List ℕ)
    → key_at keys slot ≡ Some text → IsBelowInOrder text key (slot_is_below keys up_to key slot)
is_below_in_order keys up_to key slot text is =
    subst (λ o. IsBelowInOrder text key (unwrap_or (option_map (is_below_at up_to key) o) false)) (sym is)
    (in_order up_to key text)

-- the same of a bound
pub order : (keys : Keys) (bound : KeyBound) (slot : ℕ) (text : List ℕ)
    → key_at keys slot ≡ Some text → IsBelowInOrder text bound.key.now (is_below keys bound slot)
order keys bound slot text is = is_below_in_order keys bound.up_to bound.key.now slot text is
