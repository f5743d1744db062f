-- Writers in order, by hash and then by transaction.
use Rattle.std.proofs.Common.{◌≡◌, ℕ, ◌<◌, ◌≤◌, ◌⊎◌, inl, inr, false, length, get_or, List, refl, subst, arith}
use Rattle.std.specs.Cmp.{IsTotalOrder}
use Rattle.std.specs.declared.cmp.Ordering.{Ordering}
use Rattle.std.specs.declared.cmp.Ordering.TheVariants.{Less, Equal, Greater}
use Rattle.std.specs.Ordering.{nat_cmp, ordering_then, is_lt, MatchOrdering}
use Rattle.std.specs.List.Sorted.{IsSorted}
use Rattle.std.proofs.lemmas.Cmp.{ranked, nat_cmp_total, on_total, then_total}
use Rattle.std.proofs.lemmas.List.Sorted.{ranks_by, sorted_far}
use Rattle.explanations.specs.declared.writer_index.Writer.{Writer}
use Rattle.explanations.specs.Writers.{writer_cmp}

pub writers_total : IsTotalOrder writer_cmp
writers_total = then_total (on_total (λ (w : Writer). w.hash) nat_cmp_total) (on_total (λ (w : Writer). w.txn) nat_cmp_total)

-- what the order says
abbrev pub Precedes : Writer → Writer → Type 0
Precedes a b = (a.hash < b.hash) ⊎ ((a.hash ≡ b.hash) × (a.txn < b.txn))

abbrev GapRuns : Ordering → ℕ → ℕ → ℕ → ℕ → Type 0
GapRuns o x y u v = MatchOrdering o ((x < y) ⊎ ((x ≡ y) × (u < v))) ((x ≡ y) × (u ≡ v)) ((y < x) ⊎ ((x ≡ y) × (v < u)))

ranked_then : (x y u v : ℕ) (p q : Ordering) → p ≡ nat_cmp x y → q ≡ nat_cmp u v → GapRuns (ordering_then p q) x y u v
ranked_then x y u v Less q e f = inl (ranked x y Less e)
ranked_then x y u v Equal Less e f = inr (ranked x y Equal e, ranked u v Less f)
ranked_then x y u v Equal Equal e f = (ranked x y Equal e, ranked u v Equal f)
ranked_then x y u v Equal Greater e f = inr (ranked x y Equal e, ranked u v Greater f)
ranked_then x y u v Greater q e f = inl (ranked x y Greater e)

writers_ranked : (a b : Writer) (o : Ordering) → writer_cmp a b ≡ o → GapRuns o a.hash b.hash a.txn b.txn
writers_ranked a b o e =
    subst (λ r. GapRuns r a.hash b.hash a.txn b.txn) e (ranked_then a.hash b.hash a.txn b.txn (nat_cmp a.hash b.hash) (nat_cmp a.txn b.txn) refl refl)

pub precedes_if_less : (a b : Writer) → writer_cmp a b ≡ Less → Precedes a b
precedes_if_less a b e = writers_ranked a b Less e

pub same_if_equal : (a b : Writer) → writer_cmp a b ≡ Equal → (a.hash ≡ b.hash) × (a.txn ≡ b.txn)
same_if_equal a b e = writers_ranked a b Equal e

pub follows_if_greater : (a b : Writer) → writer_cmp a b ≡ Greater → (b.hash < a.hash) ⊎ ((a.hash ≡ b.hash) × (b.txn < a.txn))
follows_if_greater a b e = writers_ranked a b Greater e

-- what isn't less comes later, or is the same
not_less_of : (o : Ordering) (x y u v : ℕ) → GapRuns o x y u v → is_lt o ≡ false → (y < x) ⊎ ((x ≡ y) × (v ≤ u))
not_less_of Less x y u v h e = absurd cc
not_less_of Equal x y u v h e = inr (h.0, omega (arith, h.1))
not_less_of Greater x y u v (inl h) e = inl h
not_less_of Greater x y u v (inr h) e = inr (h.0, omega (arith, h.1))

-- of two writers in order the later one
pub rises : (ws : List Writer) (i k : ℕ) (d : Writer) → IsSorted writer_cmp ws → i ≤ k → k < length ws
    → ((get_or ws i d).hash < (get_or ws k d).hash)
    ⊎ (((get_or ws k d).hash ≡ (get_or ws i d).hash) × ((get_or ws i d).txn ≤ (get_or ws k d).txn))
rises ws i k d sorted later within =
    let a = get_or ws k d in
    let b = get_or ws i d in
    not_less_of (writer_cmp a b) a.hash b.hash a.txn b.txn (writers_ranked a b (writer_cmp a b) refl)
    (sorted_far _ (ranks_by writers_total (λ (w : Writer). w)) ws sorted i k d later within)
