-- What the function says of a range, and what the writes say.
use Rattle.std.proofs.Common.{sym, subst, arith}
use Rattle.std.specs.Prelude.{ℤ, ◌≤ℤ◌, ◌<ℤ◌}
use Rattle.std.proofs.lemmas.Int.{ints}
use Rattle.keys.specs.Range.{Holds, Meets}
use Rattle.stepmap.specs.Boundary.{value_at}
use Rattle.stepmap.specs.Laws.{DeterminesHits, GreatestDetermines}
use Rattle.keys.proofs.callers.SomeElement.{Any-weaker}

pub determines_hits : DeterminesHits
determines_hits m ws range s covers le = (
  λ above. Any-weaker (λ w. Holds w.range above.0 × (s <ℤ w.version)) (λ w. Meets range w.range
      × (s <ℤ w.version))
      (λ w h. ((above.0, above.1, above.2, h.0), h.1)) ws ((covers above.0 above.1 s le).0 above.3),
  λ a. let met = a.4.0 in
      (met.0, met.1, met.2, (covers met.0 met.1 s le).1 (a.0, a.1, a.2, a.3, (met.3, a.4.1))),
)

pub greatest_determines : GreatestDetermines
greatest_determines m range greatest s bound reached = (
  λ l. (reached.0, reached.1, reached.2, subst (λ (x : ℤ). s <ℤ x) (sym reached.3) l),
  λ above. let l : s <ℤ value_at m.boundaries above.0 = above.3 in
      let le : value_at m.boundaries above.0 ≤ℤ greatest = bound above.0 above.2 in omega (arith, ints),
)
