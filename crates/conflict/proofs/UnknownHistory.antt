-- The history that isn't known hits each read range with an older snapshot, unless it is empty, and no other.
use Rattle.std.proofs.Common.{
  ◌≡◌,
  ℕ,
  zero,
  suc,
  ◌<◌,
  ◌≤◌,
  inl,
  inr,
  false,
  not,
  List,
  [],
  ◌∷◌,
  ◌++◌,
  length,
  replicate,
  Option,
  Some,
  None,
  refl,
  sym,
  ap,
  subst,
  ◌∙◌,
  ◌↔◌,
  arith,
}
use Rattle.std.specs.Prelude.{ℤ, pos, negsuc, ◌<ℤ◌, ◌≤ℤ◌, Any, IsSomeAnd, slice_get}
use Rattle.std.proofs.lemmas.Bool.{cases_lt}
use Rattle.std.proofs.lemmas.Int.{ints}
use Rattle.std.proofs.lemmas.List.Elements.{All-head, All-tail}
use Rattle.keys.specs.declared.key.TheConstants.{MAX_KEY_LENGTH}
use Rattle.keys.specs.declared.range.Range.{Range}
use Rattle.keys.specs.Key.{IsBytes, IsKey, is_before, IsAtMost}
use Rattle.keys.specs.Range.{IsEmpty, Meets}
use Rattle.keys.proofs.callers.KeyHeads.{after_by_first, before_after_first}
use Rattle.keys.proofs.callers.KeyOrder.{before_at_most, at_most_before}
use Rattle.keys.proofs.callers.Meeting.{before_unless_empty, meets_by_ends}
use Rattle.keys.proofs.callers.SomeElement.{Any-first, Any-none, Any-cases, Any-parts, Any-left, Any-right}
use Rattle.keyspace.specs.declared.txn.Txn.{Txn}
use Rattle.keyspace.specs.Writes.{Write}
use Rattle.conflict.specs.Unknown.{
  greatest_of_length,
  length-greatest_of_length,
  empty_is_first,
  every_key,
  unknown_until,
  HitsCovered,
  CommitsCovered,
  HitsBelow,
  HitsFromOn,
}

-- no key of at most that many bytes comes after the greatest one
not_after : (count : ℕ) (key : List ℕ) → IsBytes key → length key ≤ count
    → is_before (greatest_of_length count) key ≡ false
unfolding greatest_of_length
not_after zero [] bytes short = refl
not_after zero (byte ∷ key) bytes short = absurd (omega (arith, short))
not_after (suc count) [] bytes short = refl
not_after (suc count) (byte ∷ key) bytes short =
    let others = not_after count key (All-tail (λ b. b < 256) byte key bytes) (omega (arith, short)) in
    elim (cases_lt byte 255) [
      | inl less ↦ after_by_first 255 byte (replicate count 255) key less
      | inr most ↦
          let is : byte ≡ 255 = omega (arith, All-head (λ b. b < 256) byte key bytes, most) in
          subst (λ b. is_before (255 ∷ replicate count 255) (b ∷ key) ≡ false) (sym is)
          (before_after_first 255 (replicate count 255) key ∙ others)
    ]

at_most_greatest : (key : List ℕ) → IsKey key → IsAtMost key (greatest_of_length MAX_KEY_LENGTH)
at_most_greatest key is = ap not (not_after MAX_KEY_LENGTH key is.bytes is.short)

pub every_key_filled : ¬ IsEmpty every_key
every_key_filled empty =
    let none = ap (λ (key : List ℕ). length key) empty ∙ length-greatest_of_length MAX_KEY_LENGTH in
    absurd (omega (arith, none))

-- a range that isn't empty overlaps that of every key
meets_every_key : (range : Range) → ¬ IsEmpty range → Meets range every_key
meets_every_key range filled =
    let in_order = before_unless_empty range filled in
    (meets_by_ends range every_key).1 (
      filled,
      every_key_filled,
      before_at_most range.begin range.end (greatest_of_length MAX_KEY_LENGTH) in_order
          (at_most_greatest range.end range.end_is_key),
      at_most_before [] range.begin range.end (empty_is_first range.begin) in_order,
    )

-- and one that overlaps another isn't empty
filled_if_meets : (a b : Range) → Meets a b → ¬ IsEmpty a
filled_if_meets a b meets = ((meets_by_ends a b).0 meets).0

-- the write is of a key of the range, and above the snapshot
abbrev IsMet : Txn → Range → Write → Type 0
IsMet t range w = Meets range w.range × (t.snapshot <ℤ w.version)

unknown_met : (version : ℤ) (t : Txn) (range : Range) → ¬ IsEmpty range → t.snapshot <ℤ version
    → Any (IsMet t range) (unknown_until version)
unknown_met (pos n) t range filled below =
    Any-first (IsMet t range) (record { range = every_key; version = pos n }) []
    (meets_every_key range filled, below)
unknown_met (negsuc n) t range filled below =
    let natural = t.natural in
    absurd (omega (arith, ints, natural, below))

unknown_not_met : (version : ℤ) (t : Txn) (range : Range) → version ≤ℤ t.snapshot
    → Any (IsMet t range) (unknown_until version) → ⊥
unknown_not_met (pos n) t range late met =
    elim (Any-cases (IsMet t range) (record { range = every_key; version = pos n }) [] met) [
      | inl first ↦ let above = first.1 in omega (arith, ints, late, above)
      | inr other ↦ Any-none (IsMet t range) other
    ]
unknown_not_met (negsuc n) t range late met = Any-none (IsMet t range) met

some_weaker : (o : Option Range) (P Q : Range → Type 0) → ((range : Range) → P range → Q range)
    → IsSomeAnd o P → IsSomeAnd o Q
some_weaker (Some range) P Q f is = f range is
some_weaker None P Q f is = absurd is

pub hits_covered : HitsCovered
hits_covered version ws later t i until hit =
    let unknown = unknown_until version in
    some_weaker (slice_get t.reads i) (λ range. Any (IsMet t range) (ws ++ later))
    (λ range. Any (IsMet t range) (unknown ++ later))
    (λ range met. elim (Any-parts (IsMet t range) ws later met) [
      | inl old ↦
          let known = subst (λ (w : Write). w.version ≤ℤ version) old.3 (until old.0 old.1 old.2) in
          let above = old.4.1 in
          Any-left (IsMet t range) unknown later
          (unknown_met version t range (filled_if_meets range old.1.range old.4.0)
          (omega (arith, ints, known, above)))
      | inr new ↦ Any-right (IsMet t range) unknown later new
    ]) hit

pub commits_covered : CommitsCovered
commits_covered version oldest ws later written t until committed = (
  committed.0,
  λ conflict. committed.1 (
    conflict.0,
    elim conflict.1 [
      | inl hit ↦ inl (hits_covered version ws later t conflict.0 until hit)
      | inr met ↦ inr met
    ],
  ),
)

pub hits_below : HitsBelow
hits_below version t i range at below =
    subst (λ o. IsSomeAnd o (λ r. Any (IsMet t r) (unknown_until version)) ↔ ¬ IsEmpty range) (sym at) (
      λ met. filled_if_meets range met.1.range met.4.0,
      λ filled. unknown_met version t range filled below,
    )

pub hits_from_on : HitsFromOn
hits_from_on version later t i late =
    let unknown = unknown_until version in (
      some_weaker (slice_get t.reads i) (λ range. Any (IsMet t range) (unknown ++ later))
          (λ range. Any (IsMet t range) later)
          (λ range met. elim (Any-parts (IsMet t range) unknown later met) [
            | inl old ↦ absurd (unknown_not_met version t range late old)
            | inr new ↦ new
          ]),
      some_weaker (slice_get t.reads i) (λ range. Any (IsMet t range) later)
          (λ range. Any (IsMet t range) (unknown ++ later))
          (λ range met. Any-right (IsMet t range) unknown later met),
    )
