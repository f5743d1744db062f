use Rattle.std.proofs.Common.{◌≡◌, ◌<◌, ◌≤◌, ◌+◌, ◌-◌, ◌++◌, length, map, take, drop, ap, sym, ◌∙◌, w64, to_z, of_z, arith, append-nil, length-drop, slice_range, Some}
use Rattle.std.proofs.lemmas.Int.{to_z-of_z}
use Rattle.std.proofs.lemmas.List.{drop_all, length-take-le}
use Rattle.keyspace.specs.declared.txn.Txn.{Txn}
use Rattle.conflict.specs.Lookup.{query_named, asked_at, first_asked, then_asked, all_then, all_parts}
use Rattle.conflict.proofs.Parts.{lent_at}
use Rattle.conflict.proofs.Named.{named_more, range_rest}
use Rattle.conflict.proofs.Questions.{first_count, then_more, parts_more}
use Rattle.conflict.proofs.lookup.list_others.Goals as goal

pub split_at-requires : goal.split_at-requires
split_at-requires c =
    let ts = c.args.batch.now.txns in
    let t = c.txn-txn.result in
    let i = c.loop-index.index in
    let oldest = to_z w64 (of_z w64 c.args.oldest) in
    let inside : i < length ts = omega (arith, c.loop-index-test.true, c.len-index-end.ensures.count) in
    let is = lent_at ts i t inside c.txn-txn.ensures.txn in
    let first = c.first_count-first.result in
    let count : first ≡ length (first_asked oldest t) =
    sym (length-take-le first t.reads c.first_count-first.ensures.within) ∙ ap length c.first_count-first.ensures.reads in
    omega (arith, c.loop-index.invariant.0, count, first_count oldest ts i t inside is)

pub loop-index-preserved : goal.loop-index-preserved
loop-index-preserved c =
    let ts = c.args.batch.now.txns in
    let t = c.txn-txn.result in
    let i = c.loop-index.index in
    let rest = c.loop-index.rest.now in
    let oldest = to_z w64 (of_z w64 c.args.oldest) in
    let inside : i < length ts = omega (arith, c.loop-index-test.true, c.len-index-end.ensures.count) in
    let is = lent_at ts i t inside c.txn-txn.ensures.txn in
    let long : c.len-count.result ≡ length t.reads = c.len-count.ensures.count ∙ ap (λ (u : Txn). length u.reads) c.txn.view_is in
    let first = c.first_count-first.result in
    let from = c.others_from-from.result in
    let count : first ≡ length (first_asked oldest t) =
    sym (length-take-le first t.reads c.first_count-first.ensures.within) ∙ ap length c.first_count-first.ensures.reads in
    let own : c.split_at.result.0.now ≡ take (length (first_asked oldest t)) rest =
    c.split_at.ensures.front ∙ ap (λ n. take n rest) count in
    let later : c.split_at.result.1.now ≡ drop (length (first_asked oldest t)) rest =
    c.split_at.ensures.back ∙ ap (λ n. drop n rest) count in
    let others : drop from t.reads ≡ then_asked oldest t (take (length (first_asked oldest t)) rest) =
    c.others_from-from.ensures.reads ∙ ap (then_asked oldest t) own in
    let reads : slice_range t.reads from c.len-count.result ≡ then_asked oldest t (take (length (first_asked oldest t)) rest) =
    ap (slice_range t.reads from) long ∙ range_rest t.reads from ∙ others in
    let more = asked_at t.snapshot (then_asked oldest t (take (length (first_asked oldest t)) rest)) in
    let appended : map (query_named ts) c.push_reads.new.names.items
    ≡ map (query_named ts) c.loop-index.asked.items ++ map Some more =
    c.in_ok-push_reads.ensures.named t c.txn-txn.ensures.txn
    ∙ ap (λ ranges. map (query_named ts) c.loop-index.asked.items ++ map Some (asked_at t.snapshot ranges)) reads in
    let done = c.loop-index.invariant.1 in
    let left : c.len-count.result - from ≡ length (then_asked oldest t (take (length (first_asked oldest t)) rest)) =
    ap (λ n. n - from) long ∙ sym (length-drop from t.reads) ∙ ap length others in (
      omega (
        arith,
        c.loop-index.invariant.0,
        c.split_at.ensures.back_len,
        count,
        first_count oldest ts i t inside is,
      ),
      (
        done.0 ++ more,
        named_more ts c.push_reads.new.names.items c.loop-index.asked.items done.0 more appended done.1,
        rw later (then_more oldest ts i t inside is done.0 rest ∙ done.2),
      ),
      ap (λ ps. ps ++ all_parts oldest (drop (i + 1) ts) c.split_at.result.1.now) c.in_ok-push.ensures.items
          ∙ rw later (parts_more oldest ts i t inside is c.loop-index.parts.items rest
          (record { first = first; others = c.len-count.result - from }) count left ∙ c.loop-index.invariant.2),
    )

pub returns-clause-asked : goal.returns-clause-asked
returns-clause-asked c =
    let ts = c.args.batch.now.txns in
    let i = c.loop-index.index in
    let old = to_z w64 (of_z w64 c.args.oldest) in
    let oldest = to_z-of_z w64 c.args.oldest c.ranges.oldest in
    let most : length ts ≤ i = omega (arith, c.loop-index-test.false, c.len-index-end.ensures.count) in
    let done = c.loop-index.invariant.1 in
    done.1
    ∙ ap (map Some)
    (sym (append-nil done.0) ∙ ap (λ us. done.0 ++ all_then old us c.loop-index.rest.now) (sym (drop_all i ts most)) ∙ done.2
    ∙ ap (λ old. all_then old ts c.args.answers.now) oldest)

pub returns-clause-parts : goal.returns-clause-parts
returns-clause-parts c =
    let ts = c.args.batch.now.txns in
    let i = c.loop-index.index in
    let old = to_z w64 (of_z w64 c.args.oldest) in
    let oldest = to_z-of_z w64 c.args.oldest c.ranges.oldest in
    let most : length ts ≤ i = omega (arith, c.loop-index-test.false, c.len-index-end.ensures.count) in
    let parts = c.loop-index.parts.items in
    sym (append-nil parts) ∙ ap (λ us. parts ++ all_parts old us c.loop-index.rest.now) (sym (drop_all i ts most))
    ∙ c.loop-index.invariant.2 ∙ ap (λ old. all_parts old ts c.args.answers.now) oldest
