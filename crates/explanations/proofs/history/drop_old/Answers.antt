use Rattle.std.proofs.Common.{◌≤ℤ◌, w64, to_z, of_z, arith, sym, subst, ◌∙◌}
use Rattle.std.proofs.lemmas.Int.{ints, to_z-of_z}
use Rattle.keyspace.specs.declared.batch.Batch.{Batch}
use Rattle.explanations.specs.History.{DropsUpTo}
use Rattle.explanations.proofs.Dropping.{front_is, drops_next}
use Rattle.explanations.proofs.history.drop_old.Goals as goal

pub loop-processed-preserved-else-batch-edge : goal.loop-processed-preserved-else-batch-edge
loop-processed-preserved-else-batch-edge c =
    let items = c.loop-processed.kept.items in
    let p = c.in-Some.processed.now in
    let edge = to_z w64 (of_z w64 c.args.edge) in
    let split = front_is items p c.pop_front.new.self.items c.in-Some.ensures.item.3.0 c.in-Some.ensures.lookup c.pop_front.ensures.rest in
    let low : c.batch.result.now.version ≤ℤ c.args.edge = grind (arith, ints) in
    let same = to_z-of_z w64 c.args.edge c.ranges.edge in
    let below : p.batch.version ≤ℤ edge =
    subst (λ z. p.batch.version ≤ℤ z) (sym same) (subst (λ (b : Batch). b.version ≤ℤ c.args.edge) c.batch.ensures.batch low) in
    record {
      drops = drops_next _ _ p c.pop_front.new.self.items (subst (DropsUpTo _ _) split c.loop-processed.invariant.drops) below;
      fewer = omega (arith, c.pop_front.ensures.len, c.loop-processed.invariant.fewer);
      capacity = c.pop_front.ensures.capacity ∙ c.loop-processed.invariant.capacity;
    }
