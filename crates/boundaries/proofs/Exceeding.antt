-- Whether a version is above another one, from the last item before a bound to another bound.
use Rattle.std.proofs.Common.{◌≡◌, List, IsTrue, ◌↔◌, int_lt, inl, inr, arith, ℤ, ◌<ℤ◌, w64, SFits, to_z, of_z}
use Rattle.std.proofs.lemmas.Int.{ints, to_z-of_z}
use Rattle.keys.proofs.callers.SomeElement.{Any-weaker}
use Rattle.boundaries.specs.Item.{item_version}
use Rattle.boundaries.proofs.Words.{Item, IsMost}
use Rattle.boundaries.proofs.Above.{IsAbove}

-- the test as the code makes it
above_tested : (a b : ℤ) → SFits w64 a → SFits w64 b
    → IsTrue (int_lt (to_z w64 (of_z w64 a)) (to_z w64 (of_z w64 b))) ↔ (a <ℤ b)
above_tested a b f g = rw (to_z-of_z w64 a f, to_z-of_z w64 b g) ((λ h. grind (arith, ints)), (λ h. grind (arith, ints)))

-- The greatest of a version and of the items' versions is above it where some item's version is.
pub above_by_most : (v w : ℤ) (items : List Item) → SFits w64 v → SFits w64 w → IsMost item_version v items w
    → IsTrue (int_lt (to_z w64 (of_z w64 v)) (to_z w64 (of_z w64 w))) ↔ IsAbove v items
above_by_most v w items f g most =
    let test = above_tested v w f g in (
      (λ t.
          let lt = test.0 t in
          elim most.reached [
            | inl same ↦ absurd (omega (arith, ints, lt, same))
            | inr one ↦ Any-weaker (λ (x : Item). x.version ≡ w) (λ x. v <ℤ x.version) (λ x h. rw h lt) items one
          ]),
      (λ above. test.1 (let le = most.bound above.0 above.1 above.2 in omega (arith, ints, rw above.3 at le, above.4))),
    )
