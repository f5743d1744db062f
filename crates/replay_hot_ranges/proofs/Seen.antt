-- What is counted, from the batches that were seen before to one more.
use Rattle.std.proofs.Common.{◌≡◌, false, List, [], ◌∷◌, ◌++◌, Some, sym, ap, subst, ◌∙◌, append_assoc, append-nil}
use Rattle.std.specs.Prelude.{ℤ, ◌≤ℤ◌}
use Rattle.std.specs.Int.{int_max}
use Rattle.keyspace.specs.Processed.{Processed}
use Rattle.keyspace.specs.Chain.{IsChain}
use Rattle.keyspace.specs.Judged.{edge}
use Rattle.explanations.specs.Explains.{newest_of}
use Rattle.explanations.specs.History.{Keeps}
use Rattle.explanations.proofs.callers.Following.{chain_before, edge_within, follows_more}
use Rattle.replay_hot_ranges.specs.Conflicts.{InConflict, rejected_txns, rejected_after, rejected_from, rejected_last}
use Rattle.replay_hot_ranges.specs.HotRanges.{HasCounted, HasSeen}
use Rattle.replay_hot_ranges.specs.RangeTally.{AreTallies}
use Rattle.replay_hot_ranges.specs.declared.hot_ranges.HotRanges.{HotRanges}
use Rattle.replay_hot_ranges.proofs.Same.{same_rejected}

rejected_after-more : (before ps : List Processed) (p : Processed)
    → rejected_after before (ps ++ p ∷ []) ≡ rejected_after before ps ++ rejected_last ((before ++ ps) ++ p ∷ []) p
rejected_after-more before [] p =
    append-nil (rejected_last (before ++ p ∷ []) p)
    ∙ ap (λ (qs : List Processed). rejected_last (qs ++ p ∷ []) p) (sym (append-nil before))
rejected_after-more before (q ∷ ps) p =
    let own = rejected_last (before ++ q ∷ []) q in
    ap (λ (xs : List (List InConflict)). own ++ xs) (rejected_after-more (before ++ q ∷ []) ps p)
    ∙ sym (append_assoc own (rejected_after (before ++ q ∷ []) ps) (rejected_last (((before ++ q ∷ []) ++ ps) ++ p ∷ []) p))
    ∙ ap (λ (qs : List Processed). (own ++ rejected_after (before ++ q ∷ []) ps) ++ rejected_last (qs ++ p ∷ []) p)
    (append_assoc before (q ∷ []) ps)

module _ (e f : HotRanges) (p : Processed) (open_before : e.has_failed ≡ false)
    (same_window : f.history.window ≡ e.history.window)
    (keeps : (ps : List Processed) → Keeps ps e.history → Keeps (ps ++ p ∷ []) f.history)
    (edge_is : f.history.edge ≡ int_max e.history.edge (edge e.history.window p.batch))
    (newest : newest_of f.history.kept ≡ Some p.batch)
    (added : (txns : List (List InConflict)) → AreTallies txns e.tallies
    → AreTallies (txns ++ rejected_from f.history.kept p.batch 0 p.batch.txns p.reply.entries) f.tallies) where
  module _ (ps : List Processed) (seen : HasSeen e ps) (chain : IsChain f.history.window (ps ++ p ∷ [])) where
    old_chain : IsChain e.history.window (ps ++ p ∷ [])
    old_chain = subst (λ (w : ℤ). IsChain w (ps ++ p ∷ [])) same_window chain

    counted : HasCounted e ps
    counted = seen open_before (chain_before e.history.window ps p old_chain)

    low : f.history.edge ≤ℤ edge f.history.window p.batch
    low = edge_within e.history f.history p same_window keeps edge_is ps old_chain counted.follows

    rejected_more : rejected_txns ps ++ rejected_from f.history.kept p.batch 0 p.batch.txns p.reply.entries ≡ rejected_txns (ps ++ p ∷ [])
    rejected_more =
        ap (λ (xs : List (List InConflict)). rejected_txns ps ++ xs)
        (sym (same_rejected f.history.window ps p f.history chain (keeps ps counted.follows.keeps) newest low))
        ∙ sym (rejected_after-more [] ps p)

    counted_more : HasCounted f (ps ++ p ∷ [])
    counted_more = record {
      follows = follows_more e.history f.history p same_window keeps edge_is ps old_chain counted.follows;
      tallies = subst (λ (txns : List (List InConflict)). AreTallies txns f.tallies) rejected_more (added (rejected_txns ps) counted.tallies);
    }

  -- one batch more is counted
  pub has_seen_more : (ps : List Processed) → HasSeen e ps → HasSeen f (ps ++ p ∷ [])
  has_seen_more ps seen = λ working chain. counted_more ps seen chain
