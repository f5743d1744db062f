-- After a batch was written and the sweep went on, there are few boundaries, or fewer than before.
use Rattle.std.proofs.Common.{◌≡◌, ℕ, ◌+◌, ◌*◌, ◌≤◌, List, length, refl, sym, subst, ◌∙◌, arith, ◌⊎◌, inl, inr}
use Rattle.std.specs.Prelude.{ℤ, Option, Some, None, IsSomeAnd}
use Rattle.keys.specs.declared.range.Range.{Range}
use Rattle.keyspace.specs.Writes.{Write}
use Rattle.stepmap.specs.StepMap.{Round, Steps}
use Rattle.stepmap.specs.Sweeping.{rest, round_edge}
use Rattle.stepmap.specs.Rooted.{Ends}
use Rattle.stepmap.specs.Uniting.{Unites}
use Rattle.stepmap.specs.declared.step_map.SweepEnd.{SweepEnd}
use Rattle.stepmap.specs.declared.step_map.SweepEnd.TheVariants as end
use Rattle.conflict.specs.ConflictSet.{IsSwept}

module _ (edge : ℤ) (before mid now : Steps) (ws : List Write) (ranges : List Range) (n : ℕ)
    (united : (united : List Range) × Unites united ranges × (length united ≡ n)) where
  round_ended : (o : Option Round) → before.round ≡ o → Ends now.boundaries ws (round_edge edge o)
      → now.round ≡ None → IsSwept edge before now ws ranges
  round_ended None is ends none = inl ends
  round_ended (Some round) is ends none =
      inr (inl (none, subst (λ o. IsSomeAnd o (λ r. Ends now.boundaries ws r.edge)) (sym is) ends))

  pub swept_on : mid.edge ≡ edge
      → Ends mid.boundaries ws edge ⊎ ((mid.round ≡ before.round) × (rest mid ≤ rest before + 2 * n))
      → (Ends mid.boundaries ws edge → Ends now.boundaries ws edge)
      → (r : SweepEnd)
      → (r ≡ end.Round → Ends now.boundaries ws (round_edge mid.edge mid.round))
      → (r ≡ end.Round → now.round ≡ None)
      → (r ≡ end.Stopped → rest now + (3 * n + 10) ≡ rest mid)
      → IsSwept edge before now ws ranges
  swept_on same (inl ends) stay r round front fewer = inl (stay ends)
  swept_on same (inr continues) stay end.Round round front fewer =
      round_ended before.round refl
      (subst (λ o. Ends now.boundaries ws (round_edge edge o)) continues.0
      (subst (λ e. Ends now.boundaries ws (round_edge e mid.round)) same (round refl)))
      (front refl)
  swept_on same (inr continues) stay end.Stopped round front fewer =
      inr (inr (united.0, united.1, omega (arith, fewer refl, continues.1, united.2)))

-- raising the edge leaves the round as it is
pub since_raised : (old raised mid : Steps) (edge : ℤ) (ws : List Write) (n : ℕ) → raised.edge ≡ edge
    → raised.round ≡ old.round → rest raised ≡ rest old
    → Ends mid.boundaries ws raised.edge ⊎ ((mid.round ≡ raised.round) × (rest mid ≤ rest raised + 2 * n))
    → Ends mid.boundaries ws edge ⊎ ((mid.round ≡ old.round) × (rest mid ≤ rest old + 2 * n))
since_raised old raised mid edge ws n same round left (inl ends) =
    inl (subst (λ e. Ends mid.boundaries ws e) same ends)
since_raised old raised mid edge ws n same round left (inr continues) =
    inr (continues.0 ∙ round, omega (arith, continues.1, left))
