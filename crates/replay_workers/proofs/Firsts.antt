-- One proxy more that stands, in the search for the next.
use Rattle.std.specs.Prelude.{◌≡◌, ℕ, ◌+◌, ◌<◌, ◌<ℤ◌, ◌≤ℤ◌, List, Some, slice_get}
use Rattle.std.proofs.Common.{arith, sym, subst}
use Rattle.std.proofs.lemmas.Int.{ints, by_lt_z}
use borrow.Author.Count.{below_more}
use Rattle.replay_workers.specs.declared.shares.next.Candidate.{Candidate}
use Rattle.replay_workers.specs.declared.shares.reported_state.Stand.{Stand}
use Rattle.replay_workers.specs.declared.shares.reported_state.ReportedState.{ReportedState}
use Rattle.replay_workers.specs.declared.shares.reported_state.ReportedState.TheVariants.{Stands}
use Rattle.replay_workers.specs.NextAdmitted.{IsFirstBelow}

-- what holds of those below holds of one more, if it holds of that one
one_more : (reported : List ReportedState) (n : ℕ) (stand : Stand) (P : Stand → Type 0) → slice_get reported n ≡ Some (Stands stand)
    → ((other : ℕ) (s : Stand) → other < n → slice_get reported other ≡ Some (Stands s) → P s)
    → P stand
    → (other : ℕ) (s : Stand) → other < n + 1 → slice_get reported other ≡ Some (Stands s) → P s
one_more reported n stand P at below here other s lt is =
    below_more (λ k. (s : Stand) → slice_get reported k ≡ Some (Stands s) → P s) n
    (λ k lt s is. below k s lt is)
    (λ s is. let same : stand ≡ s = cc in subst P same here)
    other lt s is

kept : (reported : List ReportedState) (n : ℕ) (candidate : Candidate) (stand : Stand) → slice_get reported n ≡ Some (Stands stand)
    → IsFirstBelow n reported candidate → candidate.stand.previous ≤ℤ stand.previous
    → IsFirstBelow (n + 1) reported candidate
kept reported n candidate stand at before least = record {
  inside = let h = before.inside in omega arith;
  stands = before.stands;
  least = one_more reported n stand (λ s. candidate.stand.previous ≤ℤ s.previous) at before.least least;
  first = before.first;
}

replaced : (reported : List ReportedState) (n : ℕ) (candidate : Candidate) (stand : Stand) → slice_get reported n ≡ Some (Stands stand)
    → IsFirstBelow n reported candidate → stand.previous <ℤ candidate.stand.previous
    → IsFirstBelow (n + 1) reported (record { proxy = n; stand = stand })
replaced reported n candidate stand at before less = record {
  inside = omega arith;
  stands = at;
  least = one_more reported n stand (λ s. stand.previous ≤ℤ s.previous) at
      (λ other s lt is. let h : candidate.stand.previous ≤ℤ s.previous = before.least other s lt is in
      omega (arith, ints))
      (omega (arith, ints));
  first = λ other s lt is. let h : candidate.stand.previous ≤ℤ s.previous = before.least other s lt is in
      omega (arith, ints);
}

-- the one that goes first, of the candidate and the proxy after those looked at
pub or_next : (reported : List ReportedState) (n : ℕ) (candidate first : Candidate) (stand : Stand)
    → slice_get reported n ≡ Some (Stands stand) → IsFirstBelow n reported candidate
    → (candidate.stand.previous ≤ℤ stand.previous → first ≡ candidate)
    → (stand.previous <ℤ candidate.stand.previous → first ≡ record { proxy = n; stand = stand })
    → IsFirstBelow (n + 1) reported first
or_next reported n candidate first stand at before is_least is_other =
    by_lt_z stand.previous candidate.stand.previous
    (λ less. subst (λ f. IsFirstBelow (n + 1) reported f) (sym (is_other less)) (replaced reported n candidate stand at before less))
    (λ least. subst (λ f. IsFirstBelow (n + 1) reported f) (sym (is_least least)) (kept reported n candidate stand at before least))
