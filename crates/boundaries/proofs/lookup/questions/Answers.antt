use Rattle.std.proofs.Common.{rules, ◌≡◌, ◌<◌, ℕ, List, Option, None, Some, IsSomeAnd, slice_get, get_or, length, length-take, take, take_all, refl, arith}
use Rattle.std.proofs.lemmas.Option.{slice_get_within}
use Rattle.std.proofs.lemmas.Slice.Zip.{AllZip-long}
use Rattle.boundaries.proofs.InTurn.{AllZip-turn}
use Rattle.boundaries.proofs.callers.InTurn.{get_or_twice}
use Rattle.boundaries.proofs.lookup.questions.Goals as goal

-- an element of which something is said is there
there : {X : Type 0} (P : X → Type 0) (xs : List X) (i : ℕ) → IsSomeAnd (slice_get xs i) P → i < length xs
there {X} P xs i = of_element (slice_get xs i) refl
  where
    of_element : (o : Option X) → slice_get xs i ≡ o → IsSomeAnd o P → i < length xs
    of_element None is said = absurd said
    of_element (Some x) is said = slice_get_within xs i x is

pub query-requires : goal.query-requires
query-requires g c = record {
  within = there _ (g.L.QueryList.queries c.args.queries.now) (get_or c.args.places.now i 0)
      (c.requires.filled i 0 c.loop-place-test.true);
}
  where
    open c use {loop-place.{place-index as i}}

pub of-requires : goal.of-requires
of-requires g c =
    let filled = rw c.query.ensures.query at (c.requires.filled c.loop-place.place-index 0 c.loop-place-test.true) in
    record { filled = filled; hash = c.query.ensures.hash }

pub loop-place-preserved : goal.loop-place-preserved
loop-place-preserved g c =
    let places = c.args.places.now in
    let is = get_or_twice places i 0 c.loop-place-test.true in
    AllZip-turn _ places i _ _ _ (get_or places i 0) c.of.result c.loop-place-test.true is refl c.push.ensures.items
    c.loop-place.invariant (rw c.query.ensures.query c.of.ensures.asks)
  where
    open c use {loop-place.{place-index as i}}

pub push-requires : goal.push-requires
push-requires g c =
    let i = c.loop-place.place-index in
    let long = AllZip-long _ (take i c.args.places.now) c.loop-place.questions.items c.loop-place.invariant in
    (search rules, omega (arith, long, length-take i c.args.places.now, c.loop-place-test.true, c.requires.few))

pub returns : goal.returns
returns g c = record {
  asks = rw (take_all c.loop-place.place-index c.args.places.now (omega (arith, c.loop-place-test.false))) at c.loop-place.invariant;
}
