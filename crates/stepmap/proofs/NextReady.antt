-- The memory for keys of the range that may be written next, and of those after it.
use Rattle.std.proofs.Common.{◌≡◌, ℕ, ◌+◌, ◌<◌, ◌≤◌, ◌==◌, cond, List, [], ◌∷◌, length, drop, ◌∙◌, ap, arith}
use Rattle.std.specs.Prelude.{Some, slice_get}
use Rattle.std.specs.List.{sum_by}
use Rattle.std.proofs.lemmas.List.Sums.{sum_by-cons}
use Rattle.std.proofs.lemmas.Option.{slice_get_within, get_or_from_slice_get}
use Rattle.arena.specs.Arena.{size_of, wanted_of}
use Rattle.boundaries.specs.Stored.{each_length}

-- what the first two add to a sum
sum_pair : (f : ℕ → ℕ) (x y : ℕ) (xs : List ℕ) → sum_by f (x ∷ y ∷ xs) ≡ sum_by f (x ∷ y ∷ []) + sum_by f xs
sum_pair f x y xs =
    omega (
      arith,
      sum_by-cons f x (y ∷ xs),
      sum_by-cons f y xs,
      sum_by-cons f x (y ∷ []),
      sum_by-cons f y [],
    )

pub some_ready : (ready : List (ℕ × ℕ)) (next : ℕ × ℕ) → slice_get ready 0 ≡ Some next → 0 < length ready
some_ready ready next e = slice_get_within ready 0 next e

-- the keys that are wanted are those of the next range, and those of the others
wanted_next : (ready : List (ℕ × ℕ)) (next : ℕ × ℕ) (size : ℕ) → slice_get ready 0 ≡ Some next
    → wanted_of (each_length ready) size
    ≡ wanted_of (next.0 ∷ next.1 ∷ []) size + wanted_of (each_length (drop 1 ready)) size
wanted_next [] next size e = absurd (omega (arith, some_ready [] next e))
wanted_next (p ∷ ps) next size e =
    let is : p ≡ next = get_or_from_slice_get (p ∷ ps) 0 next p e in
    sum_pair (λ n. cond (size_of n == size) 1 0) p.0 p.1 (each_length ps)
    ∙ ap (λ (q : ℕ × ℕ). wanted_of (q.0 ∷ q.1 ∷ []) size + wanted_of (each_length ps) size) is

part_fits : (entire next others spare : ℕ) → entire ≡ next + others → entire ≤ spare → next ≤ spare
part_fits entire next others spare e le = omega (arith, e, le)

rest_fits : (entire next others spare left : ℕ) → entire ≡ next + others → entire ≤ spare → spare ≤ left + next
    → others ≤ left
rest_fits entire next others spare left e le used = omega (arith, e, le, used)

-- the next range's keys fit
pub next_fits : (ready : List (ℕ × ℕ)) (next : ℕ × ℕ) (size spare : ℕ) → slice_get ready 0 ≡ Some next
    → wanted_of (each_length ready) size ≤ spare → wanted_of (next.0 ∷ next.1 ∷ []) size ≤ spare
next_fits ready next size spare e le =
    part_fits (wanted_of (each_length ready) size) (wanted_of (next.0 ∷ next.1 ∷ []) size)
    (wanted_of (each_length (drop 1 ready)) size) spare (wanted_next ready next size e) le

-- where no more than these were placed, those of the others fit still
pub others_fit : (ready : List (ℕ × ℕ)) (next : ℕ × ℕ) (size spare left : ℕ) → slice_get ready 0 ≡ Some next
    → wanted_of (each_length ready) size ≤ spare → spare ≤ left + wanted_of (next.0 ∷ next.1 ∷ []) size
    → wanted_of (each_length (drop 1 ready)) size ≤ left
others_fit ready next size spare left e le used =
    rest_fits (wanted_of (each_length ready) size) (wanted_of (next.0 ∷ next.1 ∷ []) size)
    (wanted_of (each_length (drop 1 ready)) size) spare left (wanted_next ready next size e) le used
