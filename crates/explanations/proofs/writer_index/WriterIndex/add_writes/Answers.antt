use Rattle.std.proofs.Common.{◌≡◌, ◌<◌, ◌≤◌, List, length, arith, ap, subst, ◌∙◌, take_all}
use Rattle.keys.specs.declared.range.Range.{Range}
use Rattle.keys.proofs.callers.Lists.{some_at}
use Rattle.keyspace.specs.declared.txn.Txn.{Txn}
use Rattle.explanations.specs.Writers.{AddsWrites}
use Rattle.explanations.proofs.Indexing.{adds_next}
use Rattle.explanations.proofs.writer_index.WriterIndex.add_writes.Goals as goal

pub loop-index-preserved : goal.loop-index-preserved
loop-index-preserved c =
    let j = c.args.txn in
    let n = c.loop-index.index in
    λ t at.
    let is : c.txn.result ≡ t = cc in
    let writes_are : c.ranges-2.inside.writes ≡ t.writes = ap (λ (u : Txn). u.writes) (c.ranges-2.view_is ∙ is) in
    let within : n < length t.writes = omega (arith, c.loop-index-test.true, c.len-index-end.ensures.count, ap length writes_are) in
    let it = some_at t.writes n within in
    let hash = c.hash.ensures.hash it.0 (c.first_write_index-first.ensures.writes t n it.0 at it.1) in
    adds_next _ _ _ j n t.writes it.0 (c.loop-index.invariant t at) (c.in_ok-add_range.ensures.adds it.0 hash) it.1

pub returns : goal.returns
returns c = record {
  adds = λ t at.
      let is : c.txn.result ≡ t = cc in
      let writes_are : c.ranges-2.inside.writes ≡ t.writes = ap (λ (u : Txn). u.writes) (c.ranges-2.view_is ∙ is) in
      let past : length t.writes ≤ c.loop-index.index =
      omega (arith, c.loop-index-test.false, c.len-index-end.ensures.count, ap length writes_are) in
      subst (λ (rs : List Range). AddsWrites c.args.self.now c.loop-index.self c.args.txn rs) (take_all c.loop-index.index t.writes past)
      (c.loop-index.invariant t at);
}
