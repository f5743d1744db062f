use Rattle.std.proofs.Common.{◌≡◌, ◌++◌, ◌∷◌, [], List, Some, false, ap, subst, ◌∙◌}
use Rattle.std.specs.Int.{int_max}
use Rattle.keyspace.specs.declared.reply.Entry.{Entry}
use Rattle.keyspace.specs.Judged.{edge}
use Rattle.keyspace.specs.Processed.{Processed}
use Rattle.explanations.specs.Explains.{newest_of}
use Rattle.explanations.specs.History.{Keeps}
use Rattle.explanations.proofs.callers.Following.{same_processed}
use Rattle.replay_hot_ranges.specs.Conflicts.{InConflict, rejected_from}
use Rattle.replay_hot_ranges.specs.RangeTally.{AreTallies}
use Rattle.replay_hot_ranges.proofs.Seen.{has_seen_more}
use Rattle.replay_hot_ranges.proofs.hot_ranges.HotRangesObserver.see.Goals as goal

pub returns-clause-seen : goal.returns-clause-seen
returns-clause-seen c =
    let before = c.args.self.now in
    let h = c.push.new.self in
    let p : Processed = record { proxy = c.args.proxy; batch = c.args.batch; reply = c.args.reply.now } in
    let pushed : c.in_ok-processed.processed ≡ p =
    same_processed c.in_ok-processed.processed p c.in_ok-processed.ensures.proxy c.in_ok-processed.ensures.batch
    (c.in_ok-processed.ensures.reply ∙ c.in_ok-copy.ensures.equal) in
    let keeps : (ps : List Processed) → Keeps ps before.history → Keeps (ps ++ p ∷ []) h =
    subst (λ (x : Processed). (ps : List Processed) → Keeps ps before.history → Keeps (ps ++ x ∷ []) h) pushed
    c.in_ok-push.ensures.keeps in
    let edge_is : h.edge ≡ int_max before.history.edge (edge before.history.window p.batch) =
    c.in_ok-push.ensures.edge
    ∙ ap (λ (x : Processed). int_max before.history.edge (edge before.history.window x.batch)) pushed in
    let newest : newest_of h.kept ≡ Some p.batch = c.in_ok-push.ensures.newest ∙ ap (λ (x : Processed). Some x.batch) pushed in
    let added : (txns : List (List InConflict)) → AreTallies txns before.tallies
    → AreTallies (txns ++ rejected_from h.kept p.batch 0 p.batch.txns p.reply.entries) c.add_batch.new.self =
    λ txns counted.
    subst (λ (es : List Entry). AreTallies (txns ++ rejected_from h.kept p.batch 0 p.batch.txns es) c.add_batch.new.self)
    c.as_slice.ensures.items (c.in_ok-add_batch.ensures.added p.batch txns newest counted) in
    has_seen_more before (record { alloc = before.alloc; history = h; tallies = c.add_batch.new.self; has_failed = false }) p c.if-self.false
    c.in_ok-push.ensures.window keeps edge_is newest added
