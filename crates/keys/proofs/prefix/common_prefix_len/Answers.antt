use Rattle.std.proofs.Common.{◌≡◌, ◌*◌, ℕ, List, inl, inr, ap, sym, ◌∙◌, arith, subst, take, drop, get_or}
use Rattle.std.proofs.lemmas.Bool.{cases_lt}
use Rattle.std.proofs.lemmas.List.{take_rest, get_or-drop}
use Rattle.keys.proofs.FirstWord.{take_fewer_both}
use Rattle.keys.proofs.prefix.common_prefix_len.Goals as goal

pub returns-clause-same : goal.returns-clause-same
returns-clause-same c =
    let a = c.args.a.now in
    let b = c.args.b.now in
    let from = c.min-from.result in
    take_fewer_both (8 * c.common_words.result) from c.common_in_word.result a b _ _ c.common_words.ensures.same
    (omega (arith, c.min-from.ensures)) (take_rest a from) (take_rest b from) c.common_in_word.ensures.same

pub returns-clause-differ : goal.returns-clause-differ
returns-clause-differ c in_a in_b same =
    let a = c.args.a.now in
    let b = c.args.b.now in
    let from = c.min-from.result in
    let n = c.common_in_word.result in
    let a_rest = take_rest a from in
    let b_rest = take_rest b from in
    elim (cases_lt n 8) [
      | inl less ↦
          c.common_in_word.ensures.differ less
          (ap (λ (l : List ℕ). get_or l n 0) a_rest ∙ get_or-drop from a n 0 ∙ same ∙ sym (get_or-drop from b n 0)
          ∙ sym (ap (λ (l : List ℕ). get_or l n 0) b_rest))
      | inr many ↦
          let entire : n ≡ 8 = omega (arith, many, c.common_in_word.ensures.within) in
          let at : from ≡ 8 * c.common_words.result = omega (arith, c.min-from.ensures, c.min-least.ensures, in_a, in_b, entire) in
          let word : take 8 (drop from a) ≡ take 8 (drop from b) =
          subst (λ m. take m (drop from a) ≡ take m (drop from b)) entire
          (ap (take n) (sym a_rest) ∙ c.common_in_word.ensures.same ∙ ap (take n) b_rest) in
          c.common_words.ensures.differ (omega (arith, at, in_a, entire)) (omega (arith, at, in_b, entire))
          (subst (λ m. take 8 (drop m a) ≡ take 8 (drop m b)) at word)
    ]
