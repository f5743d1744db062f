use Rattle.std.proofs.Common.{◌≡◌, List, Bool, ap, sym, subst, ◌∙◌, length, w64, to_z, of_z, map}
use Rattle.std.specs.Prelude.{ℤ}
use Rattle.std.proofs.lemmas.Int.{to_z-of_z}
use Rattle.conflict.specs.Lookup.{all_first, all_then, all_parts, query_named, AreNamed, AreAnswers}
use Rattle.conflict.proofs.Named.{are_named}
use Rattle.conflict.proofs.Questions.{answer_count, length-all_parts}
use Rattle.conflict.proofs.lookup.Lookup.ask.Goals as goal

pub answer-requires : goal.answer-requires
answer-requires c =
    let txns = c.args.batch.now.txns in
    let oldest = to_z w64 (of_z w64 c.args.oldest) in
    record {
      named = subst (AreNamed txns) (sym c.deref.ensures.value)
          (are_named txns c.list_first.new.asked.items (all_first oldest txns) c.in_ok-list_first.ensures.asked);
    }

pub list_others-requires : goal.list_others-requires
list_others-requires c =
    let txns = c.args.batch.now.txns in
    let first = all_first (to_z w64 (of_z w64 c.args.oldest)) txns in
    record {
      count = ap length c.deref-2.ensures.value
          ∙ answer_count c.args.steps.now first c.answer.new.answers.items
          (c.in_ok-answer.ensures.answers first
          (ap (map (query_named txns)) c.deref.ensures.value ∙ c.in_ok-list_first.ensures.asked));
    }

pub answer-requires-2 : goal.answer-requires-2
answer-requires-2 c =
    let txns = c.args.batch.now.txns in
    let oldest = to_z w64 (of_z w64 c.args.oldest) in
    record {
      named = subst (AreNamed txns) (sym c.deref-3.ensures.value)
          (are_named txns c.list_others.new.asked.items (all_then oldest txns c.deref-2.result.now)
          c.in_ok-list_others.ensures.asked);
    }

pub returns : goal.returns
returns c =
    let m = c.args.steps.now in
    let txns = c.args.batch.now.txns in
    let old = to_z w64 (of_z w64 c.args.oldest) in
    let oldest : old ≡ c.args.oldest = to_z-of_z w64 c.args.oldest c.ranges.oldest in
    let first = c.answer.new.answers.items in
    let others = c.answer-2.new.answers.items in
    let parts : c.list_others.new.parts.items ≡ all_parts c.args.oldest txns first =
    c.in_ok-list_others.ensures.parts ∙ ap (all_parts old txns) c.deref-2.ensures.value
    ∙ ap (λ (old : ℤ). all_parts old txns first) oldest in
    record {
      first = subst (λ (old : ℤ). AreAnswers m (all_first old txns) first) oldest
          (c.in_ok-answer.ensures.answers (all_first old txns)
          (ap (map (query_named txns)) c.deref.ensures.value ∙ c.in_ok-list_first.ensures.asked));
      others = subst (λ (old : ℤ). AreAnswers m (all_then old txns first) others) oldest
          (subst (λ (hits : List Bool). AreAnswers m (all_then old txns hits) others) c.deref-2.ensures.value
          (c.in_ok-answer-2.ensures.answers (all_then old txns c.deref-2.result.now)
          (ap (map (query_named txns)) c.deref-3.ensures.value ∙ c.in_ok-list_others.ensures.asked)));
      parts = parts;
      each = ap length parts ∙ length-all_parts c.args.oldest txns first;
    }
