-- What a node's slot is seen as once a header is put, placed or released.
use Rattle.std.proofs.Common.{◌≡◌, ◌≢◌, inl, inr, ℕ, ◌+◌, ◌<◌, ◌≤◌, cond, List, [], ◌∷◌, length, Option, Some, None, IsSome, is_some, option_map, unwrap_or, refl, sym, ap, subst, ◌∙◌, arith}
use Rattle.std.specs.Prelude.{IfSome, nat_eq}
use Rattle.std.proofs.lemmas.Bool.{ne_eqb}
use Rattle.arena.specs.Arena.{Arena, Record, IsLive, record_at, header_at, key_at, spare_of, size_of, slots_of, with_header}
use Rattle.boundaries.specs.declared.node.Node.{Node}
use Rattle.boundaries.specs.Node.{entries_of}
use Rattle.boundaries.specs.Subtree.{entries_at}
use Rattle.boundaries.specs.Children.{IsKeyless}
use Rattle.boundaries.proofs.callers.Times.{times, once_cases}
use Rattle.boundaries.proofs.Changing.{Moves, moves_beside, moves_header, record_put, record_kept}

-- slots that differ stand once in the list of both
pub pair_once : (x y : ℕ) → x ≢ y → (s : ℕ) → times s (x ∷ y ∷ []) ≤ 1
pair_once x y apart s = grind (arith, once_cases s x, once_cases s y)

pub entries_from_header : (a : Arena Node) (slot : ℕ) (node : Node) → header_at a slot ≡ Some node
    → entries_at a slot ≡ entries_of node
entries_from_header a slot node e = ap (λ o. unwrap_or (option_map entries_of o) []) e

pub live_if_some : (a : Arena Node) (slot : ℕ) → 1 ≤ length (entries_at a slot) → IsLive a slot
live_if_some a slot some =
    let size = λ (o : Option (Record Node)). length (unwrap_or (option_map entries_of (option_map (λ r. r.header) o)) []) in
    (elim (record_at a slot) as (λ o. 1 ≤ size o → IsSome o) [ None ↦ λ h. absurd (omega arith) | Some r ↦ λ h. refl ]) some

pub live_one : (a : Arena Node) (slot : ℕ) → IsLive a slot → (s : ℕ) → 1 ≤ times s (slot ∷ []) → IsLive a s
live_one a slot live s some = elim (once_cases s slot) [
  | inl same ↦ subst (IsLive a) same.0 live
  | inr other ↦ absurd (omega (arith, other.1))
]

-- a header is put
module _ (a b : Arena Node) (slot : ℕ) (node : Node) (e : b ≡ with_header a slot node) where
  pub put_record_is : record_at b slot ≡ Some (record { header = node; key = unwrap_or (key_at a slot) [] })
  put_record_is = ap (λ z. record_at z slot) e ∙ record_put a slot node

  pub put_entries : entries_at b slot ≡ entries_of node
  put_entries = entries_from_header b slot node (ap (option_map (λ r. r.header)) put_record_is)

  pub put_live : IsLive b slot
  put_live = ap is_some put_record_is

  pub put_others : (s : ℕ) → s ≢ slot → record_at b s ≡ record_at a s
  put_others s other = ap (λ z. record_at z s) e ∙ record_kept a slot node s other

  pub put_moves : IsLive a slot → IsKeyless a → Moves a b (slot ∷ []) (slot ∷ [])
  put_moves live keyless = subst (λ z. Moves a z (slot ∷ []) (slot ∷ [])) (sym e) (moves_header a slot node live keyless)

-- the spare slots after a release
pub released_spare : (a b : Arena Node) (slot : ℕ) → IsLive a slot → IsKeyless a
    → IfSome (key_at a slot) (λ key. spare_of b (size_of (length key)) ≡ spare_of a (size_of (length key)) + 1)
    → spare_of b 0 ≡ spare_of a 0 + 1
released_spare a b slot live keyless h = by_record (record_at a slot) live (keyless slot) h
  where
    by_record : (o : Option (Record Node)) → IsSome o → IfSome (option_map (λ r. r.key) o) (λ key. key ≡ [])
        → IfSome (option_map (λ r. r.key) o) (λ key. spare_of b (size_of (length key)) ≡ spare_of a (size_of (length key)) + 1)
        → spare_of b 0 ≡ spare_of a 0 + 1
    by_record None live empty h = absurd (cc)
    by_record (Some r) live empty h = rw empty at h

pub placed_spare : (a b : Arena Node) → 0 < spare_of a 0
    → spare_of b 0 + 1 ≡ cond (nat_eq (spare_of a 0) 0) (slots_of 0) (spare_of a 0) → spare_of b 0 + 1 ≡ spare_of a 0
placed_spare a b some e = e ∙ ap (λ b. cond b (slots_of 0) (spare_of a 0)) (ne_eqb (spare_of a 0) 0 (λ none. omega arith))

-- one of two slots is changed
pub moves_first : (a b : Arena Node) (x y : ℕ) → x ≢ y → IsLive a y → Moves a b (x ∷ []) (x ∷ [])
    → Moves a b (x ∷ y ∷ []) (x ∷ y ∷ [])
moves_first a b x y apart live h =
    moves_beside a b (x ∷ []) (x ∷ []) (y ∷ []) (x ∷ y ∷ []) (x ∷ y ∷ []) h (λ s. omega arith) (λ s. omega arith)
    (omega arith) (omega arith) (pair_once x y apart) (live_one a y live)

pub moves_second : (a b : Arena Node) (x y : ℕ) (now : List ℕ) → x ≢ y → IsLive a x → Moves a b (y ∷ []) now
    → Moves a b (x ∷ y ∷ []) (x ∷ now)
moves_second a b x y now apart live h =
    moves_beside a b (y ∷ []) now (x ∷ []) (x ∷ y ∷ []) (x ∷ now) h (λ s. omega arith) (λ s. omega arith)
    (omega arith) (omega arith) (pair_once x y apart) (live_one a x live)
