-- A test that goes from true to false along rising keys parts a list in two.
use Rattle.std.proofs.Common.{◌≡◌, Bool, true, false, not, List, [], ◌∷◌, ◌++◌, filter, refl, ◌∙◌, ap, inl, inr}
use Rattle.keys.specs.Key.{IsBefore}
use Rattle.keys.proofs.callers.Booleans.{true_or_false, false_unless, not_both_ways}
use Rattle.boundaries.specs.Boundary.{Boundary, RiseFrom}
use Rattle.boundaries.proofs.callers.Order.{Rising, rising_from}

-- of two boundaries, where the later passes the test, so does the earlier
abbrev pub FallsAlongKeys : (Boundary → Bool) → Type 0
FallsAlongKeys p = (b c : Boundary) → IsBefore b.key c.key → p c ≡ true → p b ≡ true

module _ (p q : Boundary → Bool) (other : (b : Boundary) → q b ≡ not (p b)) (falls : FallsAlongKeys p) where
  next_fails : (b c : Boundary) → IsBefore b.key c.key → p b ≡ false → p c ≡ false
  next_fails b c l f = false_unless (p c) (λ h. not_both_ways (p b) (falls b c l h) f)

  -- after one that fails the test all fail
  pub all_fail : (b : Boundary) (bs : List Boundary) → RiseFrom b.key bs → p b ≡ false
      → (filter p bs ≡ []) × (filter q bs ≡ bs)
  all_fail b [] r f = (refl, refl)
  all_fail b (c ∷ cs) r f =
      let e = next_fails b c r.0 f in
      let i = all_fail c cs r.1 e in
      let t : q c ≡ true = other c ∙ ap not e in
      (rw e i.0, rw t (ap (λ xs. c ∷ xs) i.1))

  pub parted : (bs : List Boundary) → Rising bs → bs ≡ filter p bs ++ filter q bs
  parted [] r = refl
  parted (b ∷ bs) r =
      elim (true_or_false (p b)) [
        | inl e ↦ let f : q b ≡ false = other b ∙ ap not e in
            rw (e, f) (ap (λ xs. b ∷ xs) (parted bs (rising_from b.key bs r)))
        | inr e ↦ let t : q b ≡ true = other b ∙ ap not e in let i = all_fail b bs r e in
            rw (e, t, i.0, i.1) refl
      ]
