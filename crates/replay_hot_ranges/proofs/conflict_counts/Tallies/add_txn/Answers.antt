use Rattle.std.proofs.Common.{◌≡◌, ◌++◌, [], ◌∷◌, List, sym, ap, subst, ◌∙◌, append-nil}
use Rattle.std.proofs.lemmas.Option.{same_Some}
use Rattle.std.proofs.lemmas.Result.{on_ok_weaker}
use Rattle.keyspace.specs.declared.reply.Verdict.{Verdict}
use Rattle.keyspace.specs.declared.txn.Txn.{Txn}
use Rattle.replay_hot_ranges.specs.Conflicts.{InConflict, conflicts_of, rejected_by}
use Rattle.replay_hot_ranges.specs.Counts.{read_side, written_side}
use Rattle.replay_hot_ranges.specs.RangeTally.{AreTallies}
use Rattle.replay_hot_ranges.proofs.Noting.{ended}
use Rattle.replay_hot_ranges.proofs.conflict_counts.Tallies.add_txn.Goals as goal

pub returns-in-Committed : goal.returns-in-Committed
returns-in-Committed c = record {
  added = λ t txns at before.
      subst (λ (all : List (List InConflict)). AreTallies all c.args.self.now)
      (sym (ap (λ (v : Verdict). txns ++ rejected_by v (conflicts_of c.args.history.now.kept c.args.batch.now c.args.txn t)) c.in-Committed.is
      ∙ append-nil txns)) before;
}

pub returns-in-TooOld : goal.returns-in-TooOld
returns-in-TooOld c = record {
  added = λ t txns at before.
      subst (λ (all : List (List InConflict)). AreTallies all c.args.self.now)
      (sym (ap (λ (v : Verdict). txns ++ rejected_by v (conflicts_of c.args.history.now.kept c.args.batch.now c.args.txn t)) c.in-TooOld.is
      ∙ append-nil txns)) before;
}

pub returns-in_ok-begin-in-Conflict : goal.returns-in_ok-begin-in-Conflict
returns-in_ok-begin-in-Conflict c = record {
  added =
      on_ok_weaker c.add_reads.result
      (λ put t txns at before.
      let conflicts = conflicts_of c.args.history.now.kept c.args.batch.now c.args.txn t in
      let same : c.txn-transaction.result ≡ t = same_Some c.txn-transaction.result t (sym c.txn-transaction.ensures.txn ∙ at) in
      let reads_are : c.transaction.inside.reads ≡ t.reads = ap (λ (u : Txn). u.reads) (c.transaction.view_is ∙ same) in
      let reads = put t txns at reads_are (c.in_ok-begin-in-Conflict.ensures.begun txns before) in
      let tallies = c.add_reads.new.self in
      let entire : AreTallies (txns ++ conflicts ∷ []) tallies = (
        ended read_side txns conflicts tallies.txn_count tallies.reads reads.0,
        ended written_side txns conflicts tallies.txn_count tallies.writes reads.1,
      ) in
      subst (λ (all : List (List InConflict)). AreTallies all tallies)
      (sym (ap (λ (v : Verdict). txns ++ rejected_by v conflicts) c.in-Conflict.is)) entire)
      c.add_reads.ensures.added;
}
