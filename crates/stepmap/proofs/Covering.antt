-- What keeps a step function standing for its writes.
use Rattle.std.proofs.Common.{◌≡◌, ℕ, List, [], ◌∷◌, ◌++◌, sym, subst, inl, inr, ◌⊎◌, arith}
use Rattle.std.specs.Prelude.{ℤ, ◌≤ℤ◌, ◌<ℤ◌}
use Rattle.std.proofs.lemmas.Int.{ints}
use Rattle.std.proofs.lemmas.List.Quantifiers.{Any-push}
use Rattle.keys.specs.Range.{Holds}
use Rattle.keyspace.specs.Writes.{Write}
use Rattle.keys.specs.declared.range.Range.{Range}
use Rattle.keys.proofs.callers.KeyOrder.{before_or_at_most, not_both}
use Rattle.stepmap.specs.Covers.{SameFrom, Covers}
use Rattle.keys.proofs.callers.SomeElement.{Any-longer, Any-push_cases}

pub covers_same : (f g : List ℕ → ℤ) (ws : List Write) (edge : ℤ) → SameFrom edge f g → Covers f ws edge
    → Covers g ws edge
covers_same f g ws edge same covers key bytes s le =
    let c = covers key bytes s le in
    let d = same key bytes s le in
    (λ h. c.0 (d.1 h), λ a. d.0 (c.1 a))

pub covers_raise : (f : List ℕ → ℤ) (ws : List Write) (edge later : ℤ) → edge ≤ℤ later → Covers f ws edge
    → Covers f ws later
covers_raise f ws edge later le covers key bytes s h = covers key bytes s (omega (arith, ints))

-- a range holds a key or doesn't
pub holds_or_not : (range : Range) (key : List ℕ) → Holds range key ⊎ (¬ Holds range key)
holds_or_not range key =
    elim (before_or_at_most key range.begin) [
      | inl l ↦ inr (λ h. not_both key range.begin l h.0)
      | inr begun ↦ elim (before_or_at_most key range.end) [
        | inl l ↦ inl (
          begun,
          l,
        )
        | inr g ↦ inr (λ h. not_both key range.end h.1 g)
      ]
    ]

-- f took the version on the range, stays elsewhere, and was nowhere above the version
pub covers_write : (f g : List ℕ → ℤ) (ws : List Write) (edge : ℤ) (w : Write)
    → ((key : List ℕ) → Holds w.range key → g key ≡ w.version)
    → ((key : List ℕ) → ¬ Holds w.range key → g key ≡ f key) → ((key : List ℕ) → f key ≤ℤ w.version)
    → Covers f ws edge → Covers g (ws ++ w ∷ []) edge
covers_write f g ws edge w on off top covers key bytes s le =
    let P : Write → Type 0 = λ w. Holds w.range key × (s <ℤ w.version) in
    let c = covers key bytes s le in
    elim (holds_or_not w.range key) [
      | inl held ↦
          let e : g key ≡ w.version = on key held in
          let t : f key ≤ℤ w.version = top key in (
            λ h. Any-push P ws w (held, subst (λ (x : ℤ). s <ℤ x) e h),
            λ a. subst (λ (x : ℤ). s <ℤ x) (sym e)
                (elim (Any-push_cases P ws w a) [
                  | inl b ↦ (let l : s <ℤ f key = c.1 b in
                      omega (arith, ints))
                  | inr b ↦ b.1
                ]),
          )
      | inr free ↦
          let e : g key ≡ f key = off key free in (
            λ h. Any-longer P ws w (c.0 (subst (λ (x : ℤ). s <ℤ x) e h)),
            λ a. subst (λ (x : ℤ). s <ℤ x) (sym e)
                (elim (Any-push_cases P ws w a) [ inl b ↦ c.1 b | inr b ↦ absurd (free b.0) ]),
          )
    ]
