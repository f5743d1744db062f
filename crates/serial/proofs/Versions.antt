-- In a chain, versions rise from batch to batch.
use Rattle.std.proofs.Common.{
  ◌≡◌,
  ℕ,
  zero,
  suc,
  ◌+◌,
  ◌<◌,
  ◌≤◌,
  ◌-◌,
  List,
  [],
  ◌∷◌,
  ◌++◌,
  take,
  drop,
  ℤ,
  ◌<ℤ◌,
  refl,
  sym,
  ◌∙◌,
  ap,
  subst,
  arith,
  inl,
  inr,
}
use Rattle.std.specs.Prelude.{◌≤ℤ◌, Option, Some, None, slice_get}
use Rattle.std.proofs.lemmas.Int.{ints}
use Rattle.std.proofs.lemmas.Bool.{cases_lt}
use Rattle.keyspace.specs.Processed.{Processed, version_of}
use Rattle.keyspace.specs.Chain.{IsChain}
use Rattle.keyspace.proofs.callers.Chains.{version_of-more}
use Rattle.serial.proofs.Reading.{split_at}

-- the first n elements and one more are the first n, and the one
pub take_one_more : {X : Type 0} (xs : List X) (n : ℕ) (x : X) → slice_get xs n ≡ Some x
    → take (suc n) xs ≡ take n xs ++ x ∷ []
take_one_more [] n x h = cc
take_one_more (y ∷ xs) zero x h = let e : y ≡ x = cc in ap (λ z. z ∷ []) e
take_one_more (y ∷ xs) (suc n) x h = ap (λ ys. y ∷ ys) (take_one_more xs n x h)

-- and if there is no more, they are the first n
pub take_no_more : {X : Type 0} (xs : List X) (n : ℕ) → slice_get xs n ≡ None → take (suc n) xs ≡ take n xs
take_no_more [] zero h = refl
take_no_more [] (suc n) h = refl
take_no_more (y ∷ xs) zero h = cc
take_no_more (y ∷ xs) (suc n) h = ap (λ ys. y ∷ ys) (take_no_more xs n h)

-- the version after a batch is the batch's
version_after : (ps : List Processed) (i : ℕ) (p : Processed) → slice_get ps i ≡ Some p
    → version_of (take (suc i) ps) ≡ p.batch.version
version_after ps i p at = ap version_of (take_one_more ps i p at) ∙ version_of-more (take i ps) p

-- each version is at or below itself
at_most_itself : (a : ℤ) → a ≤ℤ a
at_most_itself a = omega (arith, ints)

-- what is below is at or below
at_most_if_below : (a b : ℤ) → a <ℤ b → a ≤ℤ b
at_most_if_below a b h = omega (arith, ints)

-- `at or below` goes from the first to the last by way of one between
pub at_most_through : (a b c : ℤ) → a ≤ℤ b → b ≤ℤ c → a ≤ℤ c
at_most_through a b c h k = omega (arith, ints)

-- the last of three versions, each at or below the next, isn't below the first
no_circle : (a b c : ℤ) → a ≤ℤ b → b ≤ℤ c → c <ℤ a → ⊥
no_circle a b c h k l = omega (arith, ints)

-- the last of three versions, above the second, which is at or above the first, isn't the first
not_same : (a b c : ℤ) → a ≤ℤ b → b <ℤ c → a ≡ c → ⊥
not_same a b c h k same = omega (arith, ints)

-- a batch at or before another has a version at or below the other's
abbrev pub VersionsRise : List Processed → Type 0
VersionsRise ps =
    (i k : ℕ) (p q : Processed) → slice_get ps i ≡ Some p → slice_get ps k ≡ Some q → i ≤ k
    → p.batch.version ≤ℤ q.batch.version

module _ (window : ℤ) (ps : List Processed) (chain : IsChain window ps) where
  -- the version before a batch is below the batch's
  version_before : (n : ℕ) (p : Processed) → slice_get ps n ≡ Some p → version_of (take n ps) <ℤ p.batch.version
  version_before n p at =
      let previous = (chain (take n ps) p (drop (suc n) ps) (split_at ps n p at)).previous in
      subst (λ v. v <ℤ p.batch.version) previous p.batch.rises

  -- the version doesn't fall by one more batch, if there is one
  maybe_rises : (n : ℕ) (o : Option Processed) → slice_get ps n ≡ o
      → version_of (take n ps) ≤ℤ version_of (take (suc n) ps)
  maybe_rises n None at =
      subst (λ qs. version_of (take n ps) ≤ℤ version_of qs) (sym (take_no_more ps n at))
      (at_most_itself (version_of (take n ps)))
  maybe_rises n (Some p) at =
      subst (λ v. version_of (take n ps) ≤ℤ v) (sym (version_after ps n p at))
      (at_most_if_below (version_of (take n ps)) p.batch.version (version_before n p at))

  -- so it doesn't fall by any number of them
  rises_by : (d n : ℕ) → version_of (take n ps) ≤ℤ version_of (take (d + n) ps)
  rises_by zero n =
      let index : 0 + n ≡ n = omega arith in
      subst (λ m. version_of (take n ps) ≤ℤ version_of (take m ps)) (sym index)
      (at_most_itself (version_of (take n ps)))
  rises_by (suc d) n =
      let index : suc d + n ≡ suc (d + n) = omega arith in
      subst (λ m. version_of (take n ps) ≤ℤ version_of (take m ps)) (sym index)
      (at_most_through (version_of (take n ps)) (version_of (take (d + n) ps)) (version_of (take (suc (d + n)) ps))
      (rises_by d n) (maybe_rises (d + n) (slice_get ps (d + n)) refl))

  -- so versions rise
  pub version_up_to : VersionsRise ps
  version_up_to i k p q here there h =
      let index : (k - i) + suc i ≡ suc k = omega arith in
      let rises = subst (λ m. version_of (take (suc i) ps) ≤ℤ version_of (take m ps)) index (rises_by (k - i) (suc i)) in
      let from_here = subst (λ v. v ≤ℤ version_of (take (suc k) ps)) (version_after ps i p here) rises in
      subst (λ v. p.batch.version ≤ℤ v) (version_after ps k q there) from_here

  -- and no two batches have the same one
  pub one_at_version : (i k : ℕ) (p q : Processed) → slice_get ps i ≡ Some p → slice_get ps k ≡ Some q
      → p.batch.version ≡ q.batch.version → i ≡ k
  one_at_version i k p q here there same =
      elim (cases_lt i k) [
        | inl earlier ↦ absurd (never_before i k p q here there earlier same)
        | inr later ↦ elim (cases_lt k i) [
          | inl later ↦ absurd (never_before k i q p there here later (sym same))
          | inr earlier ↦ omega (arith, later, earlier)
        ]
      ]
    where
      never_before : (i k : ℕ) (p q : Processed) → slice_get ps i ≡ Some p → slice_get ps k ≡ Some q → i < k
          → p.batch.version ≡ q.batch.version → ⊥
      never_before i k p q here there h same =
          let index : (k - suc i) + suc i ≡ k = omega (arith, h) in
          let rises = subst (λ m. version_of (take (suc i) ps) ≤ℤ version_of (take m ps)) index (rises_by (k - suc i) (suc i)) in
          let from_here = subst (λ v. v ≤ℤ version_of (take k ps)) (version_after ps i p here) rises in
          not_same p.batch.version (version_of (take k ps)) q.batch.version from_here (version_before k q there) same

-- if versions rise, a batch with a version at or below a snapshot that is below another batch's version comes before the other
pub comes_before : (ps : List Processed) → VersionsRise ps → (k i : ℕ) (q p : Processed) (snapshot : ℤ)
    → slice_get ps k ≡ Some q → slice_get ps i ≡ Some p → q.batch.version ≤ℤ snapshot → snapshot <ℤ p.batch.version
    → k < i
comes_before ps rise k i q p snapshot there here above below =
    elim (cases_lt k i) [
      | inl earlier ↦ earlier
      | inr later ↦ absurd (no_circle p.batch.version q.batch.version snapshot (rise i k p q here there later) above
          below)
    ]
