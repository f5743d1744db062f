use Rattle.std.proofs.Common.{◌≡◌, ℕ, ◌<◌, Some, slice_get}
use Rattle.replay_workers.specs.declared.shares.reported_state.ReportedState.{ReportedState}
use Rattle.replay_workers.specs.NextAdmitted.{HasFirst, WaitsForOthers}
use Rattle.replay_workers.proofs.shares.next.next_admitted.Given as goal

abbrev pub invariant-loop-proxy : goal.invariant-loop-proxy
invariant-loop-proxy l = record {
  wait : (proxy : ℕ) (state : ReportedState) (count : ℕ) → proxy < l.proxy → slice_get l.reported proxy ≡ Some state
      → slice_get l.sent proxy ≡ Some count → WaitsForOthers state count;
  first : HasFirst l.proxy l.reported l.first;
}
