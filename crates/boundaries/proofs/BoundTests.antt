-- What the comparison of a key with that of a bound tells, and what a slot without a record does.
use Rattle.std.proofs.Common.{◌≡◌, ℕ, Bool, true, false, List, [], Option, None, Some, is_some, option_map, unwrap_or, refl, sym, ap, ◌∙◌, Less, Equal, Greater}
use Rattle.std.specs.Cmp.Lexicographic.{slice_cmp}
use Rattle.std.specs.Ordering.{nat_cmp, is_le, is_lt}
use Rattle.keys.proofs.callers.KeyOrder.{is_le-cmp}
use Rattle.boundaries.specs.Bound.{is_below_at}
use Rattle.boundaries.proofs.Words.{KeyBound, Keys, Record, bytes_at, is_below, key_at, record_at}

module _ (up_to : Bool) (key k : List ℕ) where
  pub less_passes : slice_cmp nat_cmp k key ≡ Less → true ≡ is_below_at up_to key k
  less_passes e =
      elim up_to as (λ u. true ≡ is_below_at u key k) [
        | true ↦ sym (sym (is_le-cmp k key) ∙ ap is_le e)
        | false ↦ sym (ap is_lt e)
      ]

  pub equal_passes : slice_cmp nat_cmp k key ≡ Equal → up_to ≡ is_below_at up_to key k
  equal_passes e =
      elim up_to as (λ u. u ≡ is_below_at u key k) [
        | true ↦ sym (sym (is_le-cmp k key) ∙ ap is_le e)
        | false ↦ sym (ap is_lt e)
      ]

  pub greater_fails : slice_cmp nat_cmp k key ≡ Greater → false ≡ is_below_at up_to key k
  greater_fails e =
      elim up_to as (λ u. false ≡ is_below_at u key k) [
        | true ↦ sym (sym (is_le-cmp k key) ∙ ap is_le e)
        | false ↦ sym (ap is_lt e)
      ]

-- whether the key of a slot is below the bound, where it is this one
pub below_by_key : (keys : Keys) (bound : KeyBound) (slot : ℕ) (k : List ℕ) → key_at keys slot ≡ Some k
    → is_below_at bound.up_to bound.key.now k ≡ is_below keys bound slot
below_by_key keys bound slot k is =
    sym (ap (λ o. unwrap_or (option_map (is_below_at bound.up_to bound.key.now) o) false) is)

-- A slot without a record isn't below it, and has no bytes.
pub none_below : (keys : Keys) (bound : KeyBound) (slot : ℕ) → is_some (record_at keys slot) ≡ false
    → false ≡ is_below keys bound slot
none_below keys bound slot = of_record (record_at keys slot)
  where
    of_record : (r : Option (Record (Unit {0}))) → is_some r ≡ false
        → false ≡ unwrap_or (option_map (is_below_at bound.up_to bound.key.now) (option_map (λ x. x.key) r)) false
    of_record None dead = refl
    of_record (Some r) dead = absurd (cc)

pub no_bytes : (keys : Keys) (slot : ℕ) → is_some (record_at keys slot) ≡ false → [] ≡ bytes_at keys slot
no_bytes keys slot = of_record (record_at keys slot)
  where
    of_record : (r : Option (Record (Unit {0}))) → is_some r ≡ false → [] ≡ unwrap_or (option_map (λ x. x.key) r) []
    of_record None dead = refl
    of_record (Some r) dead = absurd (cc)
