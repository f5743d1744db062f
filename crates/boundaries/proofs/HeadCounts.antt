-- Where those of a list stand that pass, if they come first.
use Rattle.std.proofs.Common.{◌≡◌, ℕ, zero, suc, ◌+◌, ◌-◌, ◌<◌, ◌≤◌, min, Bool, true, false, cond, List, [], ◌∷◌, length, take, drop, filter, slice_get, Some, inl, inr, arith, length-append, take-add}
use Rattle.std.proofs.lemmas.Bool.{cases_Bool}
use Rattle.std.proofs.lemmas.List.Filters.{length-filter_more}
use Rattle.std.proofs.lemmas.List.Elements.{All-take, filter-append}
use Rattle.std.proofs.lemmas.Option.{get_or_from_slice_get, slice_get_within}
use Rattle.boundaries.specs.Path.{IsPartitioned}
use Rattle.boundaries.proofs.callers.Partitions.{Falls, Falls-below_from, none_pass}

module _ {X : Type 0} (p : X → Bool) where
  -- Of the first ones as many pass as there are, or as do of all.
  among_first : (xs : List X) (n : ℕ) → Falls p xs → length (filter p (take n xs)) ≡ min n (length (filter p xs))
  among_first xs zero falls = omega arith
  among_first [] (suc n) falls = omega arith
  among_first (x ∷ xs) (suc n) (inl h) = rw h.0 (omega (arith, among_first xs n h.1))
  among_first (x ∷ xs) (suc n) (inr h) =
      rw (h.0, (none_pass p (take n xs) (All-take (λ y. p y ≡ false) n xs h.1)).0, (none_pass p xs h.1).0) (omega arith)

  -- a list in which those that pass come first, and an element of it
  module _ (xs : List X) (i : ℕ) (x : X) (partitioned : IsPartitioned p xs) (there : slice_get xs i ≡ Some x) where
    counted : min (i + 1) (length (filter p xs)) ≡ min i (length (filter p xs)) + cond (p x) 1 0
    counted =
        let falls = Falls-below_from p xs partitioned in
        let more = length-filter_more p xs i x (slice_get_within xs i x there) in
        cc (more, among_first xs i falls, among_first xs (i + 1) falls, get_or_from_slice_get xs i x x there)

    -- Those that pass stand before one that fails.
    pub passing_before : p x ≡ false → length (filter p xs) ≤ i
    passing_before fails = omega (arith, rw fails at counted)

    -- One that passes stands among as many as pass.
    pub passing_inside : p x ≡ true → i < length (filter p xs)
    passing_inside passes = omega (arith, rw passes at counted)

    -- And each of these does.
    pub passing_at : i < length (filter p xs) → p x ≡ true
    passing_at inside = elim (cases_Bool (p x)) [ inl t ↦ t | inr f ↦ absurd (omega (arith, passing_before f)) ]

  -- Those that pass are counted between an index up to which all pass and one from which none does.
  pub count_range : (xs : List X) (from to : ℕ) → IsPartitioned p xs → from ≤ length (filter p xs) → length (filter p xs) ≤ to
      → from + length (filter p (take (to - from) (drop from xs))) ≡ length (filter p xs)
  count_range xs from to partitioned least most =
      let falls = Falls-below_from p xs partitioned in
      let entire = simp (take-add, filter-append, length-append) at (among_first xs (from + (to - from)) falls) in
      omega (arith, entire, among_first xs from falls)
