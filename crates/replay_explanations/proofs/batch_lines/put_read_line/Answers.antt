use Rattle.std.proofs.Common.{Some, w64, sym, ap, ◌∙◌}
use Rattle.std.proofs.lemmas.Int.{to_z-of_z}
use Rattle.std.proofs.lemmas.Result.{on_ok_weaker}
use Rattle.explanations.specs.Explains.{explaining_newest}
use Rattle.replay_explanations.specs.Lines.{conflict_text, read_line}
use Rattle.replay_explanations.proofs.Appends.{as_piece}
use Rattle.replay_explanations.proofs.Found.{explained}
use Rattle.replay_explanations.proofs.batch_lines.put_read_line.Goals as goal

pub returns-in-Some : goal.returns-in-Some
returns-in-Some c =
    let ws = explaining_newest c.args.history.now.kept c.args.txn c.args.read in
    let found = c.in-Some.explanation in
    record {
      text =
          on_ok_weaker c.put_conflict.result
          (λ put.
          as_piece _ _ _ _ put
          (ap (λ z. conflict_text c.args.form z c.args.txn c.args.read c.get-range.result (Some found.newest) found.further)
          (to_z-of_z w64 c.args.version c.ranges.version)
          ∙ explained c.args.form c.args.version c.args.txn c.args.read c.get-range.result ws found.newest found.further c.in-Some.ensures.found
          ∙ ap (λ o. read_line c.args.form c.args.version c.args.txn c.args.read o ws) (sym c.get-range.ensures.range)))
          c.put_conflict.ensures.text;
    }
