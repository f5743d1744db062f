use Rattle.std.proofs.Common.{◌≡◌, ◌++◌, ◌∷◌, [], List, false, ◌||◌, w64, SFits, rules, sym, ap, ◌∙◌, append_assoc}
use Rattle.std.specs.Prelude.{int_lt}
use Rattle.std.specs.Ordering.{int_eq}
use Rattle.std.specs.VecDeque.Iter.{deque_iter_rest}
use Rattle.std.proofs.lemmas.Int.{to_z-of_z}
use Rattle.keyspace.specs.declared.batch.Batch.{Batch}
use Rattle.keyspace.specs.Processed.{Processed}
use Rattle.explanations.proofs.Finding.{found_of, all_more, none_more}
use Rattle.explanations.proofs.write_search.search.Goals as goal

pub loop-processed-preserved-then-reaches : goal.loop-processed-preserved-then-reaches
loop-processed-preserved-then-reaches c =
    let q = c.args.question.now in
    let p = c.in-Some.processed.now in
    let inv = c.loop-processed.invariant in
    record {
      seen = inv.seen ++ p ∷ [];
      split =
          inv.split ∙ ap (λ (rest : List Processed). inv.seen ++ rest) c.in-Some.ensures.steps
          ∙ sym (append_assoc inv.seen (p ∷ []) (deque_iter_rest c.next.new.self));
      found =
          found_of _ _ _ (sym (all_more q.version q.txn q.snapshot q.range inv.seen p)) (c.search_batch-found.ensures.found _ inv.found);
    }

pub loop-processed-preserved : goal.loop-processed-preserved
loop-processed-preserved c =
    let q = c.args.question.now in
    let p = c.in-Some.processed.now in
    let inv = c.loop-processed.invariant in
    let b = c.batch.result.now in
    let fits : SFits w64 b.version = search rules in
    let same = to_z-of_z w64 b.version fits in
    let batch_is = ap (λ (x : Batch). x.version) c.batch.ensures.batch in
    let none : (int_eq b.version q.version || int_lt q.snapshot b.version) ≡ false = cc in
    record {
      seen = inv.seen ++ p ∷ [];
      split =
          inv.split ∙ ap (λ (rest : List Processed). inv.seen ++ rest) c.in-Some.ensures.steps
          ∙ sym (append_assoc inv.seen (p ∷ []) (deque_iter_rest c.next.new.self));
      found =
          found_of _ _ _
          (sym (none_more q.version q.txn q.snapshot q.range inv.seen p
          (ap (λ v. int_eq v q.version || int_lt q.snapshot v) (sym batch_is) ∙ none))) inv.found;
    }
