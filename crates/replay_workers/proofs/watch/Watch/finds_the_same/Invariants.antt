use Rattle.std.proofs.Common.{◌≡◌, ◌↔◌, ℕ, ◌<◌, ◌≤◌, length, IsTrue}
use Rattle.std.specs.Prelude.{slice_get, slice_index}
use Rattle.resolver.specs.Lanes.{sent_to}
use Rattle.replay_workers.proofs.watch.Watch.finds_the_same.Given as goal

abbrev pub invariant-loop-proxy : goal.invariant-loop-proxy
invariant-loop-proxy g l = record {
  reported_count : length l.self.reported ≡ length l.fn.self.reported;
  sent_count : length l.self.sent ≡ length l.fn.self.sent;
  same : IsTrue l.is_same ↔ ((l.self.reported ≡ l.fn.self.reported) × (l.self.sent ≡ l.fn.self.sent));
  reported_later : (k : ℕ) → l.proxy ≤ k → slice_get l.self.reported k ≡ slice_get l.fn.self.reported k;
  sent_later : (k : ℕ) → l.proxy ≤ k → slice_get l.self.sent k ≡ slice_get l.fn.self.sent k;
  sent : (k : ℕ) → k < l.proxy → slice_index l.self.sent k ≡ length (sent_to l.resolver.lanes k);
}
