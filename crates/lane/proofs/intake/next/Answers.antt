use Rattle.std.proofs.Common.{◌+◌, ◌%◌, ◌∷◌, length, ap, sym, ◌∙◌, arith}
use Rattle.std.specs.Prelude.{Option, None}
use Rattle.atomic_table.specs.Table.{Me, rest}
use Rattle.lane.specs.declared.ring.Known.{Known}
use Rattle.lane.proofs.RingRule.{finds, takes_it}
use Rattle.lane.proofs.intake.next.Goals as goal

pub load-requires : goal.load-requires
load-requires g c =
    let intake = c.requires.intake in
    let counted = intake.counted in (
      intake.token_of.ring_of,
      omega (arith, intake.token_of.words),
      finds _ _ _ counted.takes intake.next
          (omega (arith, c.if-counts.true, counted.taken, counted.seen_sent)),
    )

pub store-requires : goal.store-requires
store-requires g c =
    let T = g.row.T.Denot in
    let intake = c.requires.intake in
    let counted = intake.counted in
    let found = c.load.ensures.2 in
    let now = c.exchange.ensures.3 in
    let knows = ap (λ (m : Me (Option T) (Known T)). m.0) now ∙ found.knows in
    let taken = counted.taken ∙ sym (ap (λ (v : Known T). length v.intake.taken) knows) in
    let seen_sent = ap (λ (v : Known T). v.intake.seen_sent) knows in
    let others = ap (λ (m : Me (Option T) (Known T)). rest m.1) now in (
      c.exchange.ensures.0 ∙ c.load.ensures.0 ∙ intake.token_of.ring_of,
      omega (arith, intake.token_of.words),
      takes_it _ _ _ found.holds.item _ (ap (λ (v : Known T). v.takes) knows ∙ counted.takes)
          (ap (λ (v : Known T). v.intake.next) knows)
          (omega (arith, c.if-counts.true, taken, seen_sent, counted.seen_sent))
          (ap (λ (m : Me (Option T) (Known T)). m.1) now
          ∙ (λ i. (taken i % counted.capacity i, None) ∷ sym others i))
          (ap (λ n. n + 1) taken),
    )
