use Rattle.std.proofs.Common.{◌≡◌, ◌++◌, ◌∙◌, ◌+◌, ◌<◌, ◌≤◌, [], ℕ, List, length, get_or, map, take, drop, ap, sym, subst, arith, rules}
use Rattle.std.proofs.lemmas.List.{get_or-map, length-append, length-map}
use Rattle.std.proofs.lemmas.List.Elements.{All-contains_itself, All-nil}
use Rattle.std.specs.Prelude.{Contains}
use Rattle.keys.specs.declared.range.Range.{Range}
use Rattle.keyspace.specs.declared.txn.Txn.{Txn}
use Rattle.keyspace.specs.declared.reply.Verdict.TheVariants.{Committed}
use Rattle.keyspace.specs.storage.BatchRanges.{ranges_in, ranges_of_txn, writes_in}
use Rattle.conflict.specs.InBatch.{in_batches}
use Rattle.conflict.specs.Written.{AreRunsOf}
use Rattle.conflict.proofs.Parts.{lent_at}
use Rattle.conflict.proofs.RunsOfRanges.{determined_within}
use Rattle.conflict.proofs.JudgedTo.{judged_all, next_determined, next_within, next_judged, closed_judged}
use Rattle.conflict.proofs.RankedTxns.{batches_equal, ranked_ranges, ranked_txn, ranked_txns, shaped}
use Rattle.conflict.proofs.in_batch.judge_in_batch.Goals.{then-eq+in_ok-judge_open, else-eq}
use Rattle.conflict.proofs.in_batch.judge_in_batch.Goals as goal

-- the runs are those of what the ranges are ranked as
determine_ranked : (txns : List Txn) (ranked_as : Range → Range) (keys : List (List ℕ)) (runs : List (ℕ × ℕ))
    → AreRunsOf keys runs (map ranked_as (ranges_in txns)) → AreRunsOf keys runs (ranges_in (ranked_txns ranked_as txns))
determine_ranked txns ranked_as keys runs determine = subst (AreRunsOf keys runs) (sym (ranked_ranges ranked_as txns)) determine

-- the transaction is the next one, as it is ranked
ranked_next : (txns : List Txn) (ranked_as : Range → Range) (i : ℕ) (t : Txn) → i < length txns → t ≡ get_or txns i t
    → ranked_txn ranked_as t ≡ get_or (ranked_txns ranked_as txns) i (ranked_txn ranked_as t)
ranked_next txns ranked_as i t inside is =
    ap (ranked_txn ranked_as) is ∙ sym (get_or-map (ranked_txn ranked_as) txns i t (ranked_txn ranked_as t) inside)

-- there are as many ranges
ranked_long : (ranked_as : Range → Range) (t : Txn) → length (ranges_of_txn (ranked_txn ranked_as t)) ≡ length (ranges_of_txn t)
ranked_long ranked_as t =
    let long = shaped ranked_as t in
    omega (
      arith,
      long.reads,
      long.writes,
      length-append (ranked_txn ranked_as t).reads (ranked_txn ranked_as t).writes,
      length-append t.reads t.writes,
    )

pub split_at-requires : goal.split_at-requires
split_at-requires c =
    let txns = c.args.batch.now.txns in
    let t = c.txn-txn.result in
    let i = c.loop-index.index in
    let inside : i < length txns = omega (arith, c.loop-index-test.true, c.len-index-end.ensures.count) in
    let reads : c.txn.inside.reads ≡ t.reads = ap (λ (u : Txn). u.reads) c.txn.view_is in
    let writes : c.txn.inside.writes ≡ t.writes = ap (λ (u : Txn). u.writes) c.txn.view_is in
    let ranked = c.requires.ranked in
    let f = ranked.ranked_as in
    let likes = ranked_txns f txns in
    let among : i < length likes = omega (arith, inside, length-map txns (ranked_txn f)) in
    let determine = determine_ranked txns f ranked.keys c.args.runs.now (record { have_begins = ranked.have_begins; are_runs = ranked.are_runs }) in
    let so_far = c.loop-index.invariant.judged ranked.keys f ranked.count determine in
    let few : length (ranges_of_txn (ranked_txn f t)) ≤ length c.loop-index.rest.now =
    next_within ranked.keys (in_batches [] likes c.args.entries.now) i c.loop-index.rest.now c.loop-index.gaps likes
    c.loop-index.entries so_far (ranked_txn f t) among
    (ranked_next txns f i t inside (lent_at txns i t inside c.txn-txn.ensures.txn)) in
    omega (arith, few, ranked_long f t, length-append t.reads t.writes, c.len.ensures.count, c.len-in-loop-index.ensures.count, ap length reads, ap length writes)

pub judge_open-requires-clause-within : goal.judge_open-requires-clause-within
judge_open-requires-clause-within c =
    let txns = c.args.batch.now.txns in
    let t = c.txn-txn.result in
    let i = c.loop-index.index in
    let inside : i < length txns = omega (arith, c.loop-index-test.true, c.len-index-end.ensures.count) in
    let reads : c.txn.inside.reads ≡ t.reads = ap (λ (u : Txn). u.reads) c.txn.view_is in
    let writes : c.txn.inside.writes ≡ t.writes = ap (λ (u : Txn). u.writes) c.txn.view_is in
    let ranked = c.requires.ranked in
    let f = ranked.ranked_as in
    let likes = ranked_txns f txns in
    let like = ranked_txn f t in
    let among : i < length likes = omega (arith, inside, length-map txns (ranked_txn f)) in
    let all = determine_ranked txns f ranked.keys c.args.runs.now (record { have_begins = ranked.have_begins; are_runs = ranked.are_runs }) in
    let so_far = c.loop-index.invariant.judged ranked.keys f ranked.count all in
    let determine =
    next_determined ranked.keys (in_batches [] likes c.args.entries.now) i c.loop-index.rest.now c.loop-index.gaps likes
    c.loop-index.entries so_far like among (ranked_next txns f i t inside (lent_at txns i t inside c.txn-txn.ensures.txn)) in
    let long : c.len.result + c.len-in-loop-index.result ≡ length (ranges_of_txn like) =
    omega (arith, ranked_long f t, length-append t.reads t.writes, c.len.ensures.count, c.len-in-loop-index.ensures.count, ap length reads, ap length writes) in
    let front : c.split_at.result.0.now ≡ take (length (ranges_of_txn like)) c.loop-index.rest.now =
    c.split_at.ensures.front ∙ ap (λ n. take n c.loop-index.rest.now) long in
    determined_within ranked.keys (length c.loop-index.gaps) c.split_at.result.0.now (ranges_of_txn like)
    (c.loop-index.invariant.count ∙ ranked.count) (rw front determine)

pub loop-index-preserved : goal.loop-index-preserved
loop-index-preserved c =
    let txns = c.args.batch.now.txns in
    let t = c.txn-txn.result in
    let i = c.loop-index.index in
    let inside : i < length txns = omega (arith, c.loop-index-test.true, c.len-index-end.ensures.count) in
    let reads : c.txn.inside.reads ≡ t.reads = ap (λ (u : Txn). u.reads) c.txn.view_is in
    let writes : c.txn.inside.writes ≡ t.writes = ap (λ (u : Txn). u.writes) c.txn.view_is in
    let is_next = lent_at txns i t inside c.txn-txn.ensures.txn in
    let long : c.len.result + c.len-in-loop-index.result ≡ length (ranges_of_txn t) =
    omega (arith, length-append t.reads t.writes, c.len.ensures.count, c.len-in-loop-index.ensures.count, ap length reads, ap length writes) in
    elim c.if-eq.branch [
      | then-eq+in_ok-judge_open w ↦ record {
        count = ap length w.gaps-is ∙ w.judge_open.ensures.count ∙ c.loop-index.invariant.count;
        judged = λ keys f same determine.
            let likes = ranked_txns f txns in
            let like = ranked_txn f t in
            let among : i < length likes = omega (arith, inside, length-map txns (ranked_txn f)) in
            let next = ranked_next txns f i t inside is_next in
            let count : length c.loop-index.entries ≡ length likes =
            c.loop-index.auto.entries ∙ c.requires.entries ∙ sym (length-map txns (ranked_txn f)) in
            let front = c.split_at.ensures.front ∙ ap (λ n. take n c.loop-index.rest.now) (long ∙ sym (ranked_long f t)) in
            let back = c.split_at.ensures.back ∙ ap (λ n. drop n c.loop-index.rest.now) (long ∙ sym (ranked_long f t)) in
            let entire = in_batches [] likes c.args.entries.now in
            let so_far = c.loop-index.invariant.judged keys f same determine in
            let own : AreRunsOf keys c.split_at.result.0.now (like.reads ++ like.writes) =
            rw front (next_determined keys entire i c.loop-index.rest.now c.loop-index.gaps likes c.loop-index.entries so_far
            like among next) in
            rw (w.gaps-is, w.entries-is, back)
            (next_judged keys entire i c.loop-index.rest.now c.loop-index.gaps likes c.loop-index.entries so_far like
            among next c.index-entries-index.result count w.judge_open.new.entry w.judge_open.new.gaps
            (λ written determined have. (w.in_ok-judge_open.ensures.judged keys written like (shaped f t) own determined have).0)
            (λ written determined have. (w.in_ok-judge_open.ensures.judged keys written like (shaped f t) own determined have).1));
      }
      | else-eq w ↦ record {
        count = ap length w.gaps-is ∙ c.loop-index.invariant.count;
        judged = λ keys f same determine.
            let likes = ranked_txns f txns in
            let like = ranked_txn f t in
            let among : i < length likes = omega (arith, inside, length-map txns (ranked_txn f)) in
            let next = ranked_next txns f i t inside is_next in
            let count : length c.loop-index.entries ≡ length likes =
            c.loop-index.auto.entries ∙ c.requires.entries ∙ sym (length-map txns (ranked_txn f)) in
            let back = c.split_at.ensures.back ∙ ap (λ n. drop n c.loop-index.rest.now) (long ∙ sym (ranked_long f t)) in
            let entire = in_batches [] likes c.args.entries.now in
            let so_far = c.loop-index.invariant.judged keys f same determine in
            let closed : (get_or c.loop-index.entries i c.index-entries-index.result).verdict ≡ Committed → ⊥ =
            search rules in
            rw (w.gaps-is, w.entries-is, back)
            (closed_judged keys entire i c.loop-index.rest.now c.loop-index.gaps likes c.loop-index.entries so_far like
            among next c.index-entries-index.result count closed);
      }
    ]

pub returns : goal.returns
returns c =
    let txns = c.args.batch.now.txns in
    let i = c.loop-index.index in
    let ranked = c.requires.ranked in
    let f = ranked.ranked_as in
    let determine = determine_ranked txns f ranked.keys c.args.runs.now (record { have_begins = ranked.have_begins; are_runs = ranked.are_runs }) in
    let end : length txns ≤ i = omega (arith, c.loop-index-test.false, c.len-index-end.ensures.count) in
    record {
      judged =
          judged_all ranked.keys (in_batches [] (ranked_txns f txns) c.args.entries.now) i c.loop-index.rest.now
          c.loop-index.gaps (ranked_txns f txns) c.loop-index.entries
          (c.loop-index.invariant.judged ranked.keys f ranked.count determine)
          (omega (arith, end, c.loop-index.auto.entries ∙ c.requires.entries))
          ∙ batches_equal f (writes_in txns) [] txns c.args.entries.now (All-nil (Contains (writes_in txns)))
          (All-contains_itself (writes_in txns)) ranked.itself ranked.each;
    }
