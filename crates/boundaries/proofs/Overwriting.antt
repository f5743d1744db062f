-- What the first key behind a bound tells of what stands between it and another one.
use Rattle.std.proofs.Common.{◌≡◌, ◌≢◌, ℕ, inl, inr, Bool, not, ◌&&◌, List, [], ◌∷◌, None, Some, filter, IsTrue, refl}
use Rattle.std.proofs.lemmas.Bool.{cases_Bool}
use Rattle.boundaries.specs.Item.{Item}
use Rattle.boundaries.specs.Overwrite.{first_is_below}
use Rattle.boundaries.specs.Path.{IsPartitioned, between, items_below, items_not_below, first_key}
use Rattle.boundaries.proofs.callers.Partitions.{IsPartitioned-parts, not_both, none_pass, rest_fails}

-- those that are below the second bound, of those that aren't below the first
pub between_is : (q r : ℕ → Bool) (items : List Item)
    → filter (λ (x : Item). not (q x.key) && r x.key) items ≡ items_below r (items_not_below q items)
between_is q r [] = refl
between_is q r (x ∷ items) =
    let rest = between_is q r items in
    elim (cases_Bool (q x.key)) [
      | inl t ↦ rw t rest
      | inr f ↦ elim (cases_Bool (r x.key)) [ inl t ↦ rw (f, t) (cc) | inr n ↦ rw (f, n) rest ]
    ]

-- There is one that passes exactly if the first one does.
pub first_describes : (r : ℕ → Bool) (items : List Item) → IsPartitioned (λ x. r x.key) items
    → (IsTrue (first_is_below r (first_key None items)) → items_below r items ≢ [])
    × (items_below r items ≢ [] → IsTrue (first_is_below r (first_key None items)))
first_describes r [] partitioned = (λ ok. absurd (cc), λ some. absurd (some refl))
first_describes r (x ∷ items) partitioned =
    let p = λ (x : Item). r x.key in
    elim (cases_Bool (r x.key)) [
      | inl t ↦ (λ ok none. let k = rw t at none in absurd (cc), λ some. t)
      | inr f ↦
          let none = none_pass p (x ∷ items) (rest_fails p x items partitioned f) in
          (λ ok. absurd (not_both (r x.key) ok f), λ some. absurd (some none.0))
    ]

-- Whether the first key behind a bound is below another one tells whether an item stands between the two.
pub answered_by_first : (q r : ℕ → Bool) (items : List Item) (ended : Bool) → IsPartitioned (λ x. q x.key) items
    → IsPartitioned (λ x. r x.key) items → ended ≡ first_is_below r (first_key None (items_not_below q items))
    → (IsTrue ended → between (Some q) (Some r) items ≢ []) × (between (Some q) (Some r) items ≢ [] → IsTrue ended)
answered_by_first q r items ended first second is =
    let parts = IsPartitioned-parts (λ (x : Item). r x.key) (items_below q items) (items_not_below q items) (rw first at second) in
    rw (between_is q r items, is) (first_describes r (items_not_below q items) parts.1)
