use Rattle.std.proofs.Common.{◌+◌, ap, sym, subst, ◌∙◌}
use Rattle.conflict.proofs.Hits.{GatheredTo, gathered_more, gathered_same}
use Rattle.conflict.proofs.history.push_places.Goals as goal
use Rattle.conflict.proofs.history.push_places.Goals.{then-hit+in_ok-push, else-hit}

pub loop-place-preserved : goal.loop-place-preserved
loop-place-preserved c =
    let hits = c.args.hits.now in
    let from = c.args.from in
    let before = c.args.places.now.items in
    let i = c.loop-place.place in
    elim c.if-hit.branch [
      | then-hit+in_ok-push w ↦
          subst (GatheredTo hits from before (i + 1)) (sym (ap (λ v. v.items) w.places-is ∙ w.in_ok-push.ensures.items))
          (gathered_more hits from before i c.loop-place.places.items c.loop-place-test.true c.loop-place.invariant
          w.if-hit.true)
      | else-hit w ↦
          subst (GatheredTo hits from before (i + 1)) (sym (ap (λ v. v.items) w.places-is))
          (gathered_same hits from before i c.loop-place.places.items c.loop-place-test.true c.loop-place.invariant
          w.if-hit.false)
    ]
