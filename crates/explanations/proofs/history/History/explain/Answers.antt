use Rattle.std.proofs.Common.{◌≡◌, ◌≤◌, length, None, Some, Option, IsSomeAnd, slice_get, w64, SFits, arith, rules, sym, ap, subst, ◌∙◌}
use Rattle.std.proofs.lemmas.Int.{to_z-of_z}
use Rattle.std.proofs.lemmas.Option.{slice_get_past}
use Rattle.keys.specs.declared.range.Range.{Range}
use Rattle.keyspace.specs.declared.batch.Batch.{Batch}
use Rattle.keyspace.specs.declared.txn.Txn.{Txn}
use Rattle.explanations.specs.Explains.{newest_of}
use Rattle.explanations.specs.History.{HistoryState}
use Rattle.explanations.proofs.Rising.{newest_back}
use Rattle.explanations.proofs.Finding.{newest_txn, newest_range, found_asked}
use Rattle.explanations.proofs.history.History.explain.Goals as goal

pub returns-then-txn-len : goal.returns-then-txn-len
returns-then-txn-len c =
    let kept = c.self.inside.kept in
    let b = c.batch-batch.result.now in
    let newest : newest_of c.args.self.now.kept ≡ Some b =
    newest_back kept.items c.args.self.now.kept kept.len c.in_ok-back.field-0.now kept.ok.0 c.in_ok-back.ensures.item.3.0
    c.in_ok-back.ensures.lookup (ap (λ (s : HistoryState). s.kept) c.self.view_is)
    ∙ ap (λ (x : Batch). Some x) (sym c.batch-batch.ensures.batch) in
    let past : length b.txns ≤ c.args.txn = omega (arith, c.if-txn-len.true, c.len.ensures.count) in
    record {
      found = newest_txn c.args.self.now.kept b c.args.txn c.args.read None newest (slice_get_past b.txns c.args.txn past);
    }

pub returns-then-read-len : goal.returns-then-read-len
returns-then-read-len c =
    let kept = c.self.inside.kept in
    let b = c.batch-batch.result.now in
    let t = c.txn-transaction.result in
    let newest : newest_of c.args.self.now.kept ≡ Some b =
    newest_back kept.items c.args.self.now.kept kept.len c.in_ok-back.field-0.now kept.ok.0 c.in_ok-back.ensures.item.3.0
    c.in_ok-back.ensures.lookup (ap (λ (s : HistoryState). s.kept) c.self.view_is)
    ∙ ap (λ (x : Batch). Some x) (sym c.batch-batch.ensures.batch) in
    let reads : c.len-2.result ≡ length t.reads = c.len-2.ensures.count ∙ ap (λ (u : Txn). length u.reads) c.transaction.view_is in
    let past : length t.reads ≤ c.args.read = omega (arith, c.if-read-len.true, reads) in
    record {
      found =
          newest_range c.args.self.now.kept b c.args.txn c.args.read t None newest c.txn-transaction.ensures.txn
          (slice_get_past t.reads c.args.read past);
    }

pub returns : goal.returns
returns c =
    let kept = c.self.inside.kept in
    let kept_is = ap (λ (s : HistoryState). s.kept) c.self.view_is in
    let b = c.batch-batch.result.now in
    let t = c.txn-transaction.result in
    let newest : newest_of c.args.self.now.kept ≡ Some b =
    newest_back kept.items c.args.self.now.kept kept.len c.in_ok-back.field-0.now kept.ok.0 c.in_ok-back.ensures.item.3.0
    c.in_ok-back.ensures.lookup kept_is
    ∙ ap (λ (x : Batch). Some x) (sym c.batch-batch.ensures.batch) in
    let version_fits : SFits w64 b.version = search rules in
    let version_same = to_z-of_z w64 b.version version_fits in
    let snapshot_fits : SFits w64 c.snapshot.result = search rules in
    let snapshot_same = to_z-of_z w64 c.snapshot.result snapshot_fits in
    let snapshot_is : c.snapshot.result ≡ t.snapshot =
    subst (λ (o : Option Txn). IsSomeAnd o (λ u. c.snapshot.result ≡ u.snapshot)) c.txn-transaction.ensures.txn
    c.snapshot.ensures.snapshot in
    let read : slice_get t.reads c.args.read ≡ Some c.of.result =
    ap (λ (u : Txn). slice_get u.reads c.args.read) (sym c.transaction.view_is) ∙ c.get.ensures.range
    ∙ ap (λ (r : Range). Some r) (sym c.of.ensures.range) in
    record {
      found =
          found_asked kept.items c.args.self.now.kept b c.args.txn c.args.read t c.of.result _ _ _ c.search.ensures.found
          (cc) (cc) kept_is newest c.txn-transaction.ensures.txn read;
    }
