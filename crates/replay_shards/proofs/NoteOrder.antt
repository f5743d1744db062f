-- The first note of a version, among notes in the order of their versions.
use Rattle.std.specs.Prelude.{◌≡◌, ℕ, zero, suc, ◌<◌, ◌≤◌, ℤ, int_lt, true, false, List, [], ◌∷◌, length, None, slice_get}
use Rattle.std.proofs.Common.{refl, sym, ◌∙◌, inl, inr, arith, get_or}
use Rattle.std.specs.List.Sorted.{IsPartitionPoint, IsPartitionedBy}
use Rattle.std.specs.Ordering.{int_eq}
use Rattle.std.proofs.lemmas.Bool.{cases_Bool, cond-true, cond-false}
use Rattle.std.proofs.lemmas.Int.{ints}
use Rattle.keyspace.specs.storage.InOrder.{NoneBefore, Rise}
use Rattle.replay_shards.specs.declared.note.Note.{Note}
use Rattle.replay_shards.specs.Notes.{first_note, reads_at, version_of_note}
use Rattle.replay_shards.proofs.Versions.{irreflexive, after_if, not_same_if_before, not_same_if_after}

none_before_at : (least : ℤ) (notes : List Note) → NoneBefore version_of_note least notes → (j : ℕ) (d : Note) → j < length notes
    → int_lt (get_or notes j d).version least ≡ false
none_before_at least [] none j d within = absurd (omega (arith, within))
none_before_at least (x ∷ notes) none zero d within = none.0
none_before_at least (x ∷ notes) none (suc j) d within = none_before_at least notes none.1 j d (omega (arith, within))

rise_at : (notes : List Note) → Rise version_of_note notes → (i j : ℕ) (d : Note) → i ≤ j → j < length notes
    → int_lt (get_or notes j d).version (get_or notes i d).version ≡ false
rise_at [] rise i j d order within = absurd (omega (arith, within))
rise_at (x ∷ notes) rise zero zero d order within = irreflexive x.version
rise_at (x ∷ notes) rise zero (suc j) d order within = none_before_at x.version notes rise.0 j d (omega (arith, within))
rise_at (x ∷ notes) rise (suc i) zero d order within = absurd (omega (arith, order))
rise_at (x ∷ notes) rise (suc i) (suc j) d order within = rise_at notes rise.1 i j d (omega (arith, order)) (omega (arith, within))

before_too : (a b w : ℤ) → int_lt b a ≡ false → int_lt b w ≡ true → int_lt a w ≡ true
before_too a b w order before = grind (arith, ints)

-- the notes of earlier versions are the first ones
pub earlier_parted : (version : ℤ) (notes : List Note) → Rise version_of_note notes
    → IsPartitionedBy (λ (note : Note). int_lt note.version version) notes
earlier_parted version notes rise i j d order within before =
    before_too (get_or notes i d).version (get_or notes j d).version version (rise_at notes rise i j d order within) before

none_after : (version least : ℤ) (notes : List Note) → int_lt version least ≡ true → NoneBefore version_of_note least notes
    → first_note version notes ≡ None
none_after version least [] before none = refl
none_after version least (x ∷ notes) before none =
    cond-false _ _ _ (not_same_if_before version least x.version before none.0) ∙ none_after version least notes before none.1

-- the first note that isn't of an earlier version is the first of this version, if there is one
pub first_from_point : (version : ℤ) (notes : List Note) (n : ℕ) → Rise version_of_note notes → n ≤ length notes
    → IsPartitionPoint (λ (note : Note). int_lt note.version version ≡ true) (λ (note : Note). int_lt note.version version ≡ false) notes n
    → first_note version notes ≡ reads_at version (slice_get notes n)
first_from_point version [] zero rise within parted = refl
first_from_point version [] (suc n) rise within parted = absurd (omega (arith, within))
first_from_point version (x ∷ notes) zero rise within parted =
    elim (cases_Bool (int_eq x.version version)) [
      | inl same ↦ cond-true _ _ _ same ∙ sym (cond-true _ _ _ same)
      | inr differs ↦
          let later = after_if version x.version (parted.1 0 x (omega arith) (omega arith)) differs in
          cond-false _ _ _ differs ∙ none_after version x.version notes later rise.0 ∙ sym (cond-false _ _ _ differs)
    ]
first_from_point version (x ∷ notes) (suc n) rise within parted =
    let earlier = parted.0 0 x (omega arith) (omega arith) in
    cond-false _ _ _ (not_same_if_after version x.version earlier)
    ∙ first_from_point version notes n rise.1 (omega (arith, within)) (
      (λ k d low high. parted.0 (suc k) d (omega arith) (omega (arith, high))),
      (λ k d low high. parted.1 (suc k) d (omega (arith, low)) (omega (arith, high))),
    )
