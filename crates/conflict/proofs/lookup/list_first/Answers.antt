use Rattle.std.proofs.Common.{◌≡◌, ◌<◌, ◌≤◌, ◌++◌, length, map, take, refl, ap, ◌∙◌, w64, to_z, of_z, arith, slice_range, Some}
use Rattle.std.proofs.lemmas.Int.{to_z-of_z}
use Rattle.std.proofs.lemmas.List.{take_all}
use Rattle.conflict.specs.Lookup.{query_named, asked_at, first_asked, all_first}
use Rattle.conflict.proofs.Parts.{lent_at}
use Rattle.conflict.proofs.Named.{named_more, range_first}
use Rattle.conflict.proofs.Questions.{first_more}
use Rattle.conflict.proofs.lookup.list_first.Goals as goal

pub loop-index-preserved : goal.loop-index-preserved
loop-index-preserved c =
    let ts = c.args.batch.now.txns in
    let t = c.txn-txn.result in
    let i = c.loop-index.index in
    let oldest = to_z w64 (of_z w64 c.args.oldest) in
    let inside : i < length ts = omega (arith, c.loop-index-test.true, c.len-index-end.ensures.count) in
    let is = lent_at ts i t inside c.txn-txn.ensures.txn in
    let reads : slice_range t.reads 0 c.first_count-first.result ≡ first_asked oldest t =
    range_first t.reads c.first_count-first.result ∙ c.first_count-first.ensures.reads in
    let appended : map (query_named ts) c.push_reads.new.names.items
    ≡ map (query_named ts) c.loop-index.asked.items ++ map Some (asked_at t.snapshot (first_asked oldest t)) =
    c.in_ok-push_reads.ensures.named t c.txn-txn.ensures.txn
    ∙ ap (λ ranges. map (query_named ts) c.loop-index.asked.items ++ map Some (asked_at t.snapshot ranges)) reads in
    let before = all_first oldest (take i ts) in
    named_more ts c.push_reads.new.names.items c.loop-index.asked.items before (asked_at t.snapshot (first_asked oldest t))
    appended c.loop-index.invariant
    ∙ ap (map Some) (first_more oldest ts i t inside is before refl)

pub returns : goal.returns
returns c =
    let ts = c.args.batch.now.txns in
    let i = c.loop-index.index in
    let most : length ts ≤ i = omega (arith, c.loop-index-test.false, c.len-index-end.ensures.count) in
    record {
      asked =
          c.loop-index.invariant
          ∙ ap (λ us. map Some (all_first (to_z w64 (of_z w64 c.args.oldest)) us)) (take_all i ts most)
          ∙ ap (λ old. map Some (all_first old ts)) (to_z-of_z w64 c.args.oldest c.ranges.oldest);
    }
