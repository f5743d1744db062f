-- In a chain, each batch has a higher version than those before it. What the newest batch is.
use Rattle.std.proofs.Common.{◌≡◌, ℕ, zero, suc, ◌-◌, ◌<◌, List, [], ◌∷◌, ◌++◌, length, get_or, refl, sym, ap, subst, arith, append_assoc}
use Rattle.std.specs.Prelude.{ℤ, ◌<ℤ◌, All, Some}
use Rattle.std.proofs.lemmas.Int.{ints}
use Rattle.std.proofs.lemmas.List.Elements.{All-nil, All-cons}
use Rattle.keyspace.specs.declared.batch.Batch.{Batch}
use Rattle.keyspace.specs.Processed.{Processed, version_of}
use Rattle.keyspace.specs.Chain.{IsChain}
use Rattle.keyspace.proofs.callers.Chains.{version_of-more}
use Rattle.explanations.specs.Explains.{newest_of}

below_through : (a b c : ℤ) → a <ℤ b → b <ℤ c → a <ℤ c
below_through a b c h k = omega (arith, ints)

-- q has a lower version than p
abbrev pub Precedes : Processed → Processed → Type 0
Precedes p q = q.batch.version <ℤ p.batch.version

below : (window : ℤ) (before qs : List Processed) (p : Processed) → IsChain window (before ++ (qs ++ p ∷ []))
    → (version_of before <ℤ p.batch.version) × All (Precedes p) qs
below window before [] p chain =
    let own = chain before p [] refl in
    (subst (λ (v : ℤ). v <ℤ p.batch.version) own.previous p.batch.rises, All-nil (Precedes p))
below window before (q ∷ qs) p chain =
    let own = chain before q (qs ++ p ∷ []) refl in
    let later = below window (before ++ q ∷ []) qs p
    (subst (IsChain window) (sym (append_assoc before (q ∷ []) (qs ++ p ∷ []))) chain) in
    let low : version_of before <ℤ q.batch.version = subst (λ (v : ℤ). v <ℤ q.batch.version) own.previous q.batch.rises in
    let first : q.batch.version <ℤ p.batch.version =
    subst (λ (v : ℤ). v <ℤ p.batch.version) (version_of-more before q) later.0 in
    (below_through (version_of before) q.batch.version p.batch.version low first, All-cons (Precedes p) q qs first later.1)

pub versions_below : (window : ℤ) (ps : List Processed) (p : Processed) → IsChain window (ps ++ p ∷ []) → All (Precedes p) ps
versions_below window ps p chain = (below window [] ps p chain).1

pub newest_of-more : (ps : List Processed) (p : Processed) → newest_of (ps ++ p ∷ []) ≡ Some p.batch
newest_of-more [] p = refl
newest_of-more (q ∷ []) p = refl
newest_of-more (q ∷ r ∷ ps) p = newest_of-more (r ∷ ps) p

-- the batch at the last index
pub newest_at : (ps : List Processed) (last : ℕ) (p : Processed) → suc last ≡ length ps → p ≡ get_or ps last p
    → newest_of ps ≡ Some p.batch
newest_at [] last p end at = absurd (omega (arith, end))
newest_at (q ∷ []) zero p end at = ap (λ (x : Processed). Some x.batch) (sym at)
newest_at (q ∷ []) (suc last) p end at = absurd (omega (arith, end))
newest_at (q ∷ r ∷ ps) zero p end at = absurd (omega (arith, end))
newest_at (q ∷ r ∷ ps) (suc last) p end at = newest_at (r ∷ ps) last p (omega (arith, end)) at

-- it stands at the end
pub newest_last : (ps : List Processed) (b : Batch) → newest_of ps ≡ Some b
    → (init : List Processed) × (p : Processed) × (ps ≡ init ++ p ∷ []) × (p.batch ≡ b)
newest_last [] b e = absurd cc
newest_last (p ∷ []) b e = ([], p, refl, cc)
newest_last (p ∷ q ∷ ps) b e = let last = newest_last (q ∷ ps) b e in
    (p ∷ last.0, last.1, ap (λ (rs : List Processed). p ∷ rs) last.2, last.3)

-- the one that is lent from the back
pub newest_back : (items kept : List Processed) (n : ℕ) (p : Processed) → n ≡ length items → 0 < length items
    → p ≡ get_or items (n - 1) p → items ≡ kept → newest_of kept ≡ Some p.batch
newest_back items kept n p size some at same =
    subst (λ (ps : List Processed). newest_of ps ≡ Some p.batch) same
    (newest_at items (n - 1) p (omega (arith, size, some)) at)
