use Rattle.std.proofs.Common.{◌≡◌, Option, IsSomeAnd, w64, SFits, rules, ap, subst, ◌∙◌}
use Rattle.std.proofs.lemmas.Int.{to_z-of_z}
use Rattle.std.proofs.lemmas.Result.{on_ok_weaker}
use Rattle.keyspace.specs.declared.txn.Txn.{Txn}
use Rattle.keyspace.specs.Judged.{edge}
use Rattle.replay_explanations.proofs.Appends.{as_piece, too_old}
use Rattle.replay_explanations.proofs.batch_lines.put_txn.Goals as goal

pub returns-in-TooOld : goal.returns-in-TooOld
returns-in-TooOld c =
    let b = c.args.batch.now in
    let h = c.args.history.now in
    let snapshot_fits : SFits w64 c.snapshot-snapshot.result = search rules in
    let oldest_fits : SFits w64 c.oldest_readable.result = search rules in
    let window_fits : SFits w64 c.window.result = search rules in
    let snapshot_same = to_z-of_z w64 c.snapshot-snapshot.result snapshot_fits in
    let oldest_same = to_z-of_z w64 c.oldest_readable.result oldest_fits in
    let oldest_is : c.oldest_readable.result ≡ edge h.window b =
    c.oldest_readable.ensures.edge ∙ ap (λ z. edge z b) (to_z-of_z w64 c.window.result window_fits ∙ c.window.ensures.window) in
    record {
      text =
          on_ok_weaker c.put_too_old.result
          (λ put t at.
          let snapshot_is : c.snapshot-snapshot.result ≡ t.snapshot =
          subst (λ (o : Option Txn). IsSomeAnd o (λ u. c.snapshot-snapshot.result ≡ u.snapshot)) at c.snapshot-snapshot.ensures.snapshot in
          as_piece _ _ _ _ (simp (snapshot_same, oldest_same) at put)
          (too_old c.args.form h.window h.kept b c.args.txn t c.args.entry.now.verdict c.snapshot-snapshot.result
          c.oldest_readable.result c.in-TooOld.is snapshot_is oldest_is))
          c.put_too_old.ensures.text;
    }
