-- The rank of a key among others.
use Rattle.std.proofs.Common.{◌≡◌, ℕ, ◌+◌, Bool, cond, List, [], ◌∷◌, ◌++◌, length, refl, All, arith}
use Rattle.std.proofs.lemmas.List.Elements.{All-head, All-tail}
use Rattle.std.proofs.lemmas.List.Sums.{sum_by-cons, sum_by_push}
use Rattle.keys.specs.Key.{is_before, IsBefore, IsAtMost}
use Rattle.keys.specs.GapRuns.{rank}
use Rattle.keys.proofs.callers.KeyOrder.{not_before_if}

-- what a key adds to the rank of another
abbrev pub one_if : Bool → ℕ
one_if t = cond t 1 0

pub rank_cons : (x : List ℕ) (keys : List (List ℕ)) (key : List ℕ)
    → rank (x ∷ keys) key ≡ one_if (is_before x key) + rank keys key
rank_cons x keys key = sum_by-cons (λ k. one_if (is_before k key)) x keys

-- the rank of a key after all the keys is their number
pub rank_after : (keys : List (List ℕ)) (key : List ℕ) → All (λ k. IsBefore k key) keys → rank keys key ≡ length keys
rank_after [] key all = refl
rank_after (k ∷ keys) key all =
    let first : IsBefore k key = All-head (λ k. IsBefore k key) k keys all in
    let rest = rank_after keys key (All-tail (λ k. IsBefore k key) k keys all) in
    rw (rank_cons k keys key, first, rest) (omega arith)

-- a further key counts if it is before the one ranked
pub rank_push : (keys : List (List ℕ)) (last key : List ℕ)
    → rank (keys ++ last ∷ []) key ≡ rank keys key + one_if (is_before last key)
rank_push keys last key = sum_by_push (λ k. one_if (is_before k key)) keys last

-- a further key leaves the rank of one that isn't after it
pub rank_kept : (keys : List (List ℕ)) (last key : List ℕ) → IsAtMost key last
    → rank (keys ++ last ∷ []) key ≡ rank keys key
rank_kept keys last key h = rw (rank_push keys last key, not_before_if key last h) (omega arith)

-- keys have the same rank if the same keys come before them
pub rank_same : (keys : List (List ℕ)) (a b : List ℕ) → All (λ k. is_before k a ≡ is_before k b) keys
    → rank keys a ≡ rank keys b
rank_same [] a b all = refl
rank_same (k ∷ keys) a b all =
    let first : is_before k a ≡ is_before k b = All-head (λ k. is_before k a ≡ is_before k b) k keys all in
    let rest = rank_same keys a b (All-tail (λ k. is_before k a ≡ is_before k b) k keys all) in
    rw (rank_cons k keys a, rank_cons k keys b, first, rest) refl
