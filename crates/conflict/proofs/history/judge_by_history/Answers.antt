use Rattle.std.proofs.Common.{◌≡◌, ◌<◌, ◌≤◌, ◌+◌, [], ◌∷◌, ◌∙◌, length, map, take, drop, ap, w64, to_z, of_z, arith}
use Rattle.std.specs.Prelude.{◌≤ℤ◌}
use Rattle.std.proofs.lemmas.Int.{to_z-of_z}
use Rattle.std.proofs.lemmas.List.{length-append, take_all}
use Rattle.conflict.specs.Lookup.{all_first, asked_at, first_asked, then_asked, AreAnswers}
use Rattle.conflict.specs.InBatch.{by_history}
use Rattle.conflict.specs.declared.lookup.AnswerCounts.{AnswerCounts}
use Rattle.conflict.proofs.Parts.{lent_at}
use Rattle.conflict.proofs.Questions.{
  answer_count,
  first_count,
  first_own,
  first_later,
  other_own,
  other_later,
  other_within,
  part_at,
  parts_later,
  answers_few,
  judged_more,
  hits_from_answers,
}
use Rattle.conflict.proofs.history.judge_by_history.Goals as goal

pub split_at-requires : goal.split_at-requires
split_at-requires c =
    let m = c.args.steps.now in
    let ts = c.args.batch.now.txns in
    let t = c.txn-txn.result in
    let i = c.loop-index.index in
    let inside : i < length ts = omega (arith, c.loop-index-test.true, c.len-index-end.ensures.count) in
    let is = lent_at ts i t inside c.txn-txn.ensures.txn in
    let firsts = c.loop-index.firsts.now in
    let oldest = to_z w64 (of_z w64 c.args.oldest) in
    let part = c.index-part.result.now in
    let own : part ≡ (record {
      first = length (first_asked oldest t);
      others = length (then_asked oldest t (take (length (first_asked oldest t)) firsts));
    }) = c.index-part.ensures ∙ part_at oldest ts i t inside is c.ask.new.self.parts.items firsts c.loop-index.invariant.3 part in
    let count : part.first ≡ length (first_asked oldest t) = ap (λ (p : AnswerCounts). p.first) own in
    omega (
      arith,
      count,
      first_count oldest ts i t inside is,
      answer_count m (all_first oldest (drop i ts)) firsts c.loop-index.invariant.1,
    )

pub split_at-requires-in-loop-index : goal.split_at-requires-in-loop-index
split_at-requires-in-loop-index c =
    let m = c.args.steps.now in
    let ts = c.args.batch.now.txns in
    let t = c.txn-txn.result in
    let i = c.loop-index.index in
    let inside : i < length ts = omega (arith, c.loop-index-test.true, c.len-index-end.ensures.count) in
    let is = lent_at ts i t inside c.txn-txn.ensures.txn in
    let firsts = c.loop-index.firsts.now in
    let determined = c.loop-index.invariant.1 in
    let oldest = to_z w64 (of_z w64 c.args.oldest) in
    let part = c.index-part.result.now in
    let own : part ≡ (record {
      first = length (first_asked oldest t);
      others = length (then_asked oldest t (take (length (first_asked oldest t)) firsts));
    }) = c.index-part.ensures ∙ part_at oldest ts i t inside is c.ask.new.self.parts.items firsts c.loop-index.invariant.3 part in
    let count : part.first ≡ length (first_asked oldest t) = ap (λ (p : AnswerCounts). p.first) own in
    let other_count : part.others ≡ length (then_asked oldest t (take (length (first_asked oldest t)) firsts)) =
    ap (λ (p : AnswerCounts). p.others) own in
    let few = other_within m oldest ts i t inside is firsts determined c.loop-index.others.now c.loop-index.invariant.2 in
    omega (arith, few, other_count)

pub judge_txn-requires : goal.judge_txn-requires
judge_txn-requires c =
    let m = c.args.steps.now in
    let ts = c.args.batch.now.txns in
    let t = c.txn-txn.result in
    let i = c.loop-index.index in
    let inside : i < length ts = omega (arith, c.loop-index-test.true, c.len-index-end.ensures.count) in
    let is = lent_at ts i t inside c.txn-txn.ensures.txn in
    let firsts = c.loop-index.firsts.now in
    let determined = c.loop-index.invariant.1 in
    let oldest = to_z w64 (of_z w64 c.args.oldest) in
    let part = c.index-part.result.now in
    let own : part ≡ (record {
      first = length (first_asked oldest t);
      others = length (then_asked oldest t (take (length (first_asked oldest t)) firsts));
    }) = c.index-part.ensures ∙ part_at oldest ts i t inside is c.ask.new.self.parts.items firsts c.loop-index.invariant.3 part in
    let count : part.first ≡ length (first_asked oldest t) = ap (λ (p : AnswerCounts). p.first) own in
    let other_count : part.others ≡ length (then_asked oldest t (take (length (first_asked oldest t)) firsts)) =
    ap (λ (p : AnswerCounts). p.others) own in
    let others = c.loop-index.others.now in
    let others_determined = c.loop-index.invariant.2 in
    let first : c.split_at.result.0.now ≡ take (length (first_asked oldest t)) firsts =
    c.split_at.ensures.front ∙ ap (λ n. take n firsts) count in
    let other : c.split_at-in-loop-index.result.0.now
    ≡ take (length (then_asked oldest t (take (length (first_asked oldest t)) firsts))) others =
    c.split_at-in-loop-index.ensures.front ∙ ap (λ n. take n others) other_count in
    let first_determined : AreAnswers m (asked_at t.snapshot (first_asked oldest t)) c.split_at.result.0.now =
    rw first (first_own m oldest ts i t inside is firsts determined) in
    let other_determined
    : AreAnswers m (asked_at t.snapshot (then_asked oldest t c.split_at.result.0.now)) c.split_at-in-loop-index.result.0.now =
    rw (other, first) (other_own m oldest ts i t inside is firsts determined others others_determined) in
    let few = answers_few m oldest t c.split_at.result.0.now c.split_at-in-loop-index.result.0.now first_determined other_determined in
    record { few = omega (arith, few, t.few_reads) }

pub loop-index-preserved : goal.loop-index-preserved
loop-index-preserved c =
    let m = c.args.steps.now in
    let ts = c.args.batch.now.txns in
    let t = c.txn-txn.result in
    let i = c.loop-index.index in
    let inside : i < length ts = omega (arith, c.loop-index-test.true, c.len-index-end.ensures.count) in
    let is = lent_at ts i t inside c.txn-txn.ensures.txn in
    let firsts = c.loop-index.firsts.now in
    let determined = c.loop-index.invariant.1 in
    let oldest = to_z w64 (of_z w64 c.args.oldest) in
    let part = c.index-part.result.now in
    let own : part ≡ (record {
      first = length (first_asked oldest t);
      others = length (then_asked oldest t (take (length (first_asked oldest t)) firsts));
    }) = c.index-part.ensures ∙ part_at oldest ts i t inside is c.ask.new.self.parts.items firsts c.loop-index.invariant.3 part in
    let count : part.first ≡ length (first_asked oldest t) = ap (λ (p : AnswerCounts). p.first) own in
    let other_count : part.others ≡ length (then_asked oldest t (take (length (first_asked oldest t)) firsts)) =
    ap (λ (p : AnswerCounts). p.others) own in
    let others = c.loop-index.others.now in
    let others_determined = c.loop-index.invariant.2 in
    let first : c.split_at.result.0.now ≡ take (length (first_asked oldest t)) firsts =
    c.split_at.ensures.front ∙ ap (λ n. take n firsts) count in
    let other : c.split_at-in-loop-index.result.0.now
    ≡ take (length (then_asked oldest t (take (length (first_asked oldest t)) firsts))) others =
    c.split_at-in-loop-index.ensures.front ∙ ap (λ n. take n others) other_count in
    let first_determined : AreAnswers m (asked_at t.snapshot (first_asked oldest t)) c.split_at.result.0.now =
    rw first (first_own m oldest ts i t inside is firsts determined) in
    let other_determined
    : AreAnswers m (asked_at t.snapshot (then_asked oldest t c.split_at.result.0.now)) c.split_at-in-loop-index.result.0.now =
    rw (other, first) (other_own m oldest ts i t inside is firsts determined others others_determined) in
    let late : m.edge ≤ℤ oldest = rw (to_z-of_z w64 c.args.oldest c.ranges.oldest) c.requires.late in
    let later_firsts : c.split_at.result.1.now ≡ drop (length (first_asked oldest t)) firsts =
    c.split_at.ensures.back ∙ ap (λ n. drop n firsts) count in
    let later_others : c.split_at-in-loop-index.result.1.now
    ≡ drop (length (then_asked oldest t (take (length (first_asked oldest t)) firsts))) others =
    c.split_at-in-loop-index.ensures.back ∙ ap (λ n. drop n others) other_count in (
      ap length c.in_ok-push.ensures.items
          ∙ length-append c.loop-index.entries.items (c.in_ok-judge_txn.field-0 ∷ [])
          ∙ ap (λ n. n + 1) c.loop-index.invariant.0,
      rw later_firsts (first_later m oldest ts i t inside is firsts determined),
      rw (later_others, later_firsts) (other_later m oldest ts i t inside is firsts determined others others_determined),
      rw later_firsts (parts_later oldest ts i t inside is c.ask.new.self.parts.items firsts c.loop-index.invariant.3),
      c.loop-index.invariant.4,
      λ ws covers. c.in_ok-push.ensures.items
          ∙ judged_more ts i t inside is (by_history oldest ws) c.loop-index.entries.items
          c.in_ok-judge_txn.field-0 (c.loop-index.invariant.5 ws covers)
          (c.in_ok-judge_txn.ensures.judged ws
          (hits_from_answers c.hits.ensures.exceeds m ws oldest t c.split_at.result.0.now
          c.split_at-in-loop-index.result.0.now covers late first_determined other_determined)),
    )

pub returns-clause-judged : goal.returns-clause-judged
returns-clause-judged c = λ ws covers.
    let ts = c.args.batch.now.txns in
    let i = c.loop-index.index in
    let most : length ts ≤ i = omega (arith, c.loop-index-test.false, c.len-index-end.ensures.count) in
    c.loop-index.invariant.5 ws covers
    ∙ ap (λ oldest. map (by_history oldest ws) (take i ts)) (to_z-of_z w64 c.args.oldest c.ranges.oldest)
    ∙ ap (map (by_history c.args.oldest ws)) (take_all i ts most)
