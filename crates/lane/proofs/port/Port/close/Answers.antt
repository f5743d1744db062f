use Rattle.std.proofs.Common.{◌≡◌, ap, sym, ◌∙◌, arith}
use Rattle.std.specs.Arc.{arc_value}
use Rattle.crossbeam_utils.specs.Padded.{padded_value}
use Rattle.lane.specs.declared.port.PortCounts.{PortCounts}
use Rattle.lane.specs.Ends.{IsPort}
use Rattle.lane.proofs.RingRule.{closes}
use Rattle.lane.proofs.port.Port.close.Goals as goal

pub store-requires : goal.store-requires
store-requires g c =
    let of = (arc_value c.self.inside.ring).shared.table_id in
    let port : IsPort of c.in-Some.token (padded_value c.self.inside.counts) =
    rw c.in-Some.is at c.self.invariant.1 in
    let words : c.deref-2.result.now.shared.table_id.words ≡ of.words =
    λ i. (c.deref-2.ensures i).shared.table_id.words in
    let sent = ap (λ (counts : PortCounts). counts.sent) c.deref-3.ensures
    ∙ ap (λ (counts : PortCounts). counts.sent) c.deref_mut.ensures.value in (
      port.token_of.ring_of ∙ sym (λ i. (c.deref-2.ensures i).shared.table_id),
      omega (arith, port.token_of.words, words),
      closes _ _ _ _ port.counted.sends (omega (arith, sent, port.counted.sent)),
    )
