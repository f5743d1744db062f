use Rattle.std.proofs.Common.{◌≡◌, ◌≢◌, ℕ, ◌+◌, ◌<◌, ◌≤◌, List, length, ap, ◌∙◌, inl, inr, arith, get_or-set_same, get_or-set_other, length-set}
use Rattle.std.specs.Prelude.{slice_get, slice_index}
use borrow.Author.Count.{below_more}
use Rattle.replay_workers.specs.declared.shares.reported_state.ReportedState.{ReportedState}
use Rattle.resolver.specs.Lanes.{sent_to}
use Rattle.resolver.proofs.callers.Lists.{slice_get-set_other}
use Rattle.replay_workers.specs.Watch.{Look}
use Rattle.replay_workers.proofs.Watching.{same_after}
use Rattle.replay_workers.proofs.watch.Watch.finds_the_same.Goals as goal
use Rattle.replay_workers.proofs.watch.Watch.finds_the_same.Goals.{then-not-keep, else-not-keep}

pub loop-proxy-preserved : goal.loop-proxy-preserved
loop-proxy-preserved g c =
    let before = c.loop-proxy.invariant in
    let was = c.args.self.now in
    let old = c.loop-proxy.self in
    let new = c.keep.new.self in
    let place = c.loop-proxy.proxy in
    let t = c.reported_state-reported.result in
    let s = c.sent-sent.result in
    let in_reported : place < length old.reported = omega (arith, before.reported_count, ap (λ (l : Look). length l.reported) c.self.view_is) in
    let in_sent : place < length old.sent = omega (arith, c.keep.ensures.counts) in
    let other : (k : ℕ) → place + 1 ≤ k → k ≢ place = λ k after. omega arith in
    let written = same_after was.reported old.reported new.reported was.sent old.sent new.sent place t s c.loop-proxy.is_same
    c.keep.result c.if-not-keep.is_same in_reported in_sent (before.reported_later place (omega arith))
    (before.sent_later place (omega arith)) c.keep.ensures.reported c.keep.ensures.sent before.same c.keep.ensures.same in
    record {
      reported_count = ap length c.keep.ensures.reported ∙ length-set old.reported place t ∙ before.reported_count;
      sent_count = ap length c.keep.ensures.sent ∙ length-set old.sent place s ∙ before.sent_count;
      same = elim c.if-not-keep.branch [
        | then-not-keep w ↦ written (inl (cc, w.is_same-is))
        | else-not-keep w ↦ written (inr (cc, w.is_same-is))
      ];
      reported_later = λ k after.
          ap (λ (l : List ReportedState). slice_get l k) c.keep.ensures.reported
          ∙ slice_get-set_other old.reported place k t (other k after) ∙ before.reported_later k (omega arith);
      sent_later = λ k after.
          ap (λ (l : List ℕ). slice_get l k) c.keep.ensures.sent
          ∙ slice_get-set_other old.sent place k s (other k after) ∙ before.sent_later k (omega arith);
      sent = below_more (λ k. slice_index new.sent k ≡ length (sent_to c.args.resolver.now.lanes k)) place
          (λ k inside.
          let apart : k ≢ place = omega arith in
          ap (λ (l : List ℕ). slice_index l k) c.keep.ensures.sent
          ∙ get_or-set_other old.sent place k s 0 apart ∙ before.sent k inside)
          (ap (λ (l : List ℕ). slice_index l place) c.keep.ensures.sent
          ∙ get_or-set_same old.sent place s 0 in_sent ∙ c.sent-sent.ensures.count);
    }
