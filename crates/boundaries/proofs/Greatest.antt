-- The greatest version of one entry more.
use Rattle.std.proofs.Common.{◌≡◌, ℕ, ◌+◌, ◌<◌, ℤ, ◌≤ℤ◌, ◌⊎◌, inl, inr, List, [], ◌∷◌, length, take, drop, ◌-◌, get_or, refl, sym, ap, ◌∙◌, arith}
use Rattle.std.specs.Int.{int_max}
use Rattle.std.proofs.lemmas.Int.{ints, clamps}
use Rattle.std.proofs.lemmas.List.{take_more}
use Rattle.std.proofs.lemmas.List.Edits.{get_or-between, length-between}
use Rattle.std.proofs.lemmas.List.Elements.{All-push, All-weaker}
use Rattle.std.proofs.lemmas.List.Quantifiers.{Any-push}
use Rattle.keys.proofs.callers.SomeElement.{Any-left}
use Rattle.boundaries.specs.Item.{IsGreatest}

pub one_of_both : (a b : ℤ) → (a ≡ int_max a b) ⊎ (b ≡ int_max a b)
one_of_both a b = grind (arith, ints, clamps)

module _ {X : Type 0} (version_at : X → ℤ) where
  -- the greater one of the greatest so far and of the next one's, which is read of all but the first
  pub greatest-next : (all xs : List X) (i : ℕ) (x : X) (old new : ℤ) → xs ≡ all → i < length (take (length xs - 1) (drop 1 xs))
      → x ≡ get_or (take (length xs - 1) (drop 1 xs)) i x → IsGreatest version_at old (take (i + 1) all)
      → new ≡ int_max old (version_at x) → old ≤ℤ new → version_at x ≤ℤ new → IsGreatest version_at new (take (i + 1 + 1) all)
  greatest-next all xs i x old new same inside read known value above_old above_new =
      let count : i < length xs - 1 = omega (arith, length-between xs 1 (length xs) (omega arith)) in
      let order : 1 + i ≡ i + 1 = omega arith in
      let item : get_or all (i + 1) x ≡ x = cc (get_or-between xs 1 (length xs) i x (omega arith)) in
      let seen = take (i + 1) all in
      let Below : X → Type 0 = λ y. version_at y ≤ℤ new in
      let before = All-weaker (λ y. version_at y ≤ℤ old) Below (λ y h. omega (arith, ints)) seen known.bound in
      rw (take_more all (i + 1) x (omega (arith, ap length same)), item) (record {
        bound = All-push Below seen x before above_new;
        reached = elim (one_of_both old (version_at x)) [
          | inl e ↦ rw (value ∙ sym e) (Any-left (λ y. version_at y ≡ old) seen (x ∷ []) known.reached)
          | inr e ↦ rw (value ∙ sym e) (Any-push (λ y. version_at y ≡ version_at x) seen x refl)
        ];
      })
