use Rattle.std.proofs.Common.{◌≡◌, ◌<◌, ◌≤◌, ◌++◌, List, length, slice_get, filter, arith, sym, ap, subst, ◌∙◌, take_all}
use Rattle.keys.specs.declared.range.Range.{Range}
use Rattle.keys.proofs.callers.Lists.{some_at}
use Rattle.keyspace.specs.declared.txn.Txn.{Txn}
use Rattle.explanations.specs.Written.{written_by}
use Rattle.explanations.specs.Explains.{explains}
use Rattle.explanations.specs.Found.{IsFound}
use Rattle.explanations.proofs.Origins.{written_at}
use Rattle.explanations.proofs.Earlier.{explains_apart}
use Rattle.explanations.proofs.Finding.{found_of, found_range, missed_one}
use Rattle.explanations.proofs.write_search.search_txn.Goals.{then-may_overlap, else-may_overlap}
use Rattle.explanations.proofs.write_search.search_txn.Goals as goal

pub loop-index-preserved : goal.loop-index-preserved
loop-index-preserved c =
    let q = c.args.question.now in
    let o = c.args.origin in
    let n = c.loop-index.index in
    let test = explains q.version q.txn q.snapshot q.range in
    λ txn at ws before.
    let so_far = c.loop-index.invariant txn at ws before in
    let is : c.txn.result ≡ txn = cc in
    let writes_are : c.ranges-2.inside.writes ≡ txn.writes = ap (λ (t : Txn). t.writes) (c.ranges-2.view_is ∙ is) in
    elim c.if-may_overlap.branch [
      | then-may_overlap w ↦
          subst (IsFound _) (sym w.found-is)
          (found_range test o.proxy o.version o.txn txn.writes n w.get.result ws _ (w.search_range-found.ensures.found _ so_far)
          (ap (λ (rs : List Range). slice_get rs n) (sym writes_are) ∙ w.get.ensures.range))
      | else-may_overlap w ↦
          let within : n < length txn.writes =
          omega (arith, c.loop-index-test.true, c.len-index-end.ensures.count, ap length writes_are) in
          let it = some_at txn.writes n within in
          let hash = c.hash.ensures.hash it.0 (c.first_write_index-first.ensures.writes txn n it.0 at it.1) in
          let own = written_at o.proxy o.version o.txn it.0 in
          subst (IsFound _) (sym w.found-is)
          (found_range test o.proxy o.version o.txn txn.writes n it.0 ws _
          (missed_one test _ own _ so_far
          (explains_apart q.version q.txn q.snapshot q.range own (c.may_overlap.ensures.apart w.if-may_overlap.false it.0 hash)))
          it.1)
    ]

pub returns : goal.returns
returns c =
    let q = c.args.question.now in
    let o = c.args.origin in
    let n = c.loop-index.index in
    record {
      found = λ txn at ws before.
          let is : c.txn.result ≡ txn = cc in
          let writes_are : c.ranges-2.inside.writes ≡ txn.writes = ap (λ (t : Txn). t.writes) (c.ranges-2.view_is ∙ is) in
          let past : length txn.writes ≤ n =
          omega (arith, c.loop-index-test.false, c.len-index-end.ensures.count, ap length writes_are) in
          found_of _ _ _
          (ap (λ (rs : List Range). ws ++ filter (explains q.version q.txn q.snapshot q.range) (written_by o.proxy o.version o.txn rs))
          (take_all n txn.writes past)) (c.loop-index.invariant txn at ws before);
    }
