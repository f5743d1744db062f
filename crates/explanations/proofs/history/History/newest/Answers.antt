use Rattle.std.proofs.Common.{◌≡◌, Some, sym, ap, ◌∙◌}
use Rattle.keyspace.specs.declared.batch.Batch.{Batch}
use Rattle.explanations.specs.Explains.{newest_of}
use Rattle.explanations.specs.History.{HistoryState}
use Rattle.explanations.proofs.Rising.{newest_back}
use Rattle.explanations.proofs.history.History.newest.Goals as goal

pub returns : goal.returns
returns c =
    let kept = c.self.inside.kept in
    let newest : newest_of c.args.self.now.kept ≡ Some c.in_ok-back.field-0.now.batch =
    newest_back kept.items c.args.self.now.kept kept.len c.in_ok-back.field-0.now kept.ok.0 c.in_ok-back.ensures.item.3.0
    c.in_ok-back.ensures.lookup (ap (λ (s : HistoryState). s.kept) c.self.view_is) in
    record { newest = ap (λ (x : Batch). Some x) c.batch.ensures.batch ∙ sym newest }
