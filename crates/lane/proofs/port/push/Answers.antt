use Rattle.std.proofs.Common.{◌+◌, ◌%◌, ◌∷◌, length, ap, sym, ◌∙◌, arith}
use Rattle.std.specs.Prelude.{Option, Some}
use Rattle.atomic_table.specs.Table.{Me, rest}
use Rattle.lane.specs.declared.ring.Known.{Known}
use Rattle.lane.proofs.RingRule.{claims, sends}
use Rattle.lane.proofs.port.push.Goals as goal

pub load-requires : goal.load-requires
load-requires g c =
    let port = c.requires.port in
    let counted = port.counted in (
      port.token_of.ring_of,
      omega (arith, port.token_of.words),
      claims _ _ _ counted.sends port.holds
          (omega (arith, c.requires.room, counted.sent, counted.seen_taken, counted.capacity)),
    )

pub store-requires : goal.store-requires
store-requires g c =
    let T = g.row.T.Denot in
    let port = c.requires.port in
    let counted = port.counted in
    let now = c.exchange-vacant.ensures.3 in
    let knows = ap (λ (m : Me (Option T) (Known T)). m.0) now ∙ c.load.ensures.2.knows in
    let sent = counted.sent ∙ sym (ap (λ (v : Known T). length v.port.sent) knows) in
    let seen_taken = ap (λ (v : Known T). v.port.seen_taken) knows in
    let others = ap (λ (m : Me (Option T) (Known T)). rest m.1) now in (
      c.exchange-vacant.ensures.0 ∙ c.load.ensures.0 ∙ port.token_of.ring_of,
      omega (arith, port.token_of.words),
      sends _ _ _ c.args.item _ (ap (λ (v : Known T). v.sends) knows ∙ counted.sends)
          (ap (λ (v : Known T). v.port.closed) knows ∙ sym counted.closed ∙ c.requires.open)
          (omega (arith, sent, c.requires.few))
          (omega (arith, c.requires.room, sent, seen_taken, counted.seen_taken, counted.capacity))
          (ap (λ (m : Me (Option T) (Known T)). m.1) now
          ∙ (λ i. (sent i % counted.capacity i, Some c.args.item) ∷ sym others i))
          (ap (λ n. n + 1) sent),
    )
