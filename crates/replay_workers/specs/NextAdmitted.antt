-- The proxy whose batch goes first if all proxies wait for each other. This project's own.
use Rattle.std.specs.Prelude.{◌≡◌, ◌≢◌, ℕ, ◌<◌, ◌<ℤ◌, ◌≤ℤ◌, List, Option, None, Some, slice_get}
use Rattle.replay_workers.specs.declared.shares.next.Candidate.{Candidate}
use Rattle.replay_workers.specs.declared.shares.reported_state.Stand.{Stand}
use Rattle.replay_workers.specs.declared.shares.reported_state.ReportedState.{ReportedState}
use Rattle.replay_workers.specs.declared.shares.reported_state.ReportedState.TheVariants.{Goes, Stands, Closed}

-- The proxy waits for others: it stands and has received the `sent` answers that were sent to it, or it sends no more.
abbrev pub WaitsForOthers : ReportedState → ℕ → Type 0
WaitsForOthers Goes sent = ⊥
WaitsForOthers (Stands stand) sent = stand.answered ≡ sent
WaitsForOthers Closed sent = Unit {0}

-- all proxies wait for each other, by the state of each and the number of answers sent to it
abbrev pub AllWait : List ReportedState → List ℕ → Type 0
AllWait reported sent =
    (proxy : ℕ) (state : ReportedState) (count : ℕ) → slice_get reported proxy ≡ Some state → slice_get sent proxy ≡ Some count →
    WaitsForOthers state count

-- no proxy stands
abbrev pub NoneStands : List ReportedState → Type 0
NoneStands reported = (proxy : ℕ) (stand : Stand) → slice_get reported proxy ≢ Some (Stands stand)

-- This proxy stands with a batch of the least previous version. Of those with that version it is the first.
pub record IsNext (reported : List ReportedState) (proxy : ℕ) : Type 0 where
  pub stand : Stand
  pub stands : slice_get reported proxy ≡ Some (Stands stand)
  pub least :
      (other : ℕ) (s : Stand) → slice_get reported other ≡ Some (Stands s) → stand.previous ≤ℤ s.previous
  pub first :
      (other : ℕ) (s : Stand) → other < proxy → slice_get reported other ≡ Some (Stands s) →
      stand.previous <ℤ s.previous

-- of the proxies below this number, the candidate is the next
pub record IsFirstBelow (n : ℕ) (reported : List ReportedState) (candidate : Candidate) : Type 0 where
  pub inside : candidate.proxy < n
  pub stands : slice_get reported candidate.proxy ≡ Some (Stands candidate.stand)
  pub least :
      (other : ℕ) (s : Stand) → other < n → slice_get reported other ≡ Some (Stands s) →
      candidate.stand.previous ≤ℤ s.previous
  pub first :
      (other : ℕ) (s : Stand) → other < candidate.proxy → slice_get reported other ≡ Some (Stands s) →
      candidate.stand.previous <ℤ s.previous

-- there is a candidate if one of these stands
abbrev pub HasFirst : ℕ → List ReportedState → Option Candidate → Type 0
HasFirst n reported None = (proxy : ℕ) (stand : Stand) → proxy < n → slice_get reported proxy ≢ Some (Stands stand)
HasFirst n reported (Some candidate) = IsFirstBelow n reported candidate
