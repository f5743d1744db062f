use Rattle.std.proofs.Common.{rules, length, drop, ap, sym, subst, ◌∙◌}
use Rattle.lane.specs.Lane.{PortView, IntakeView}
use Rattle.lane.specs.Ring.{Agree}
use Rattle.lane.specs.Ends.{port_of}
use Rattle.lane.specs.Taken.{next_of}
use Rattle.lane.specs.declared.ring.Known.{Known}
use Rattle.lane.proofs.Beside.{as_lane, beside}
use Rattle.lane.proofs.intake.Intake.take_beside.Goals as goal

pub returns-clause-meets : goal.returns-clause-meets
returns-clause-meets g c =
    let T = g.row.T.Denot in
    let sends = ap (λ (v : Known T). v.sends) c.join.ensures.both in
    let same = (λ i. (c.deref-3.ensures i).shared.table_id.slots) ∙ sym (λ i. (c.deref-2.ensures i).shared.table_id.slots) in
    let now = beside _ _ _ _ sends _ c.look.ensures.looked _ same _ _ c.next-taken.ensures.next in
    let port = ap (λ (v : Known T). v.port) c.part.ensures.port ∙ now.1 in
    let intake = ap (λ (v : Known T). v.intake) c.part.ensures.intake in
    let slots = c.deref-2.result.now.shared.table_id.slots in
    record {
      before = search rules;
      after = as_lane _ _ _ _ slots _ _ (subst (λ p. Agree p c.part.new.intake.me.0.intake slots) (sym port)
          (subst (λ t. Agree c.join.new.intake.me.0.port t slots) (sym intake) now.0))
          ((λ i. (c.deref-2.ensures i).shared.table_id.slots) ∙ ap (λ (v : IntakeView T). v.capacity) c.self.view_is
          ∙ sym c.requires.same_lane.capacity ∙ sym (ap (λ (v : PortView T). v.capacity) c.port.view_is));
      port = search rules;
      sent = search rules;
      closed = search rules;
      looked = search rules;
    }

pub returns-clause-next : goal.returns-clause-next
returns-clause-next g c =
    let T = g.row.T.Denot in
    let sends = ap (λ (v : Known T). v.sends) c.join.ensures.both in
    let same = (λ i. (c.deref-3.ensures i).shared.table_id.slots) ∙ sym (λ i. (c.deref-2.ensures i).shared.table_id.slots) in
    let now = beside _ _ _ _ sends _ c.look.ensures.looked _ same _ _ c.next-taken.ensures.next in
    let taken = ap (λ (v : Known T). v.intake.taken) c.join.ensures.both
    ∙ ap (λ (v : IntakeView T). v.taken) c.self.view_is in
    let token = sym c.in-Some.is ∙ c.take.ensures.value in
    let port = ap (λ (v : Known T). v.port) c.join.ensures.both ∙ ap port_of token in
    let sent = ap (λ p. p.sent) port ∙ ap (λ (v : PortView T). v.sent) c.port.view_is in
    let closed = ap (λ p. p.closed) port ∙ ap (λ (v : PortView T). v.closed) c.port.view_is in
    now.2 ∙ (λ i. next_of (drop (length (taken i)) (sent i)) (closed i))
