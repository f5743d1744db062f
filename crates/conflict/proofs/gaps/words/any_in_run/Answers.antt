use Rattle.conflict.proofs.GapsFound.{last_of_run}
use Rattle.conflict.proofs.gaps.words.any_in_run.Goals as goal
use Rattle.conflict.proofs.gaps.words.any_in_run.Goals.{then-any_in_word, else-any_in_word}

pub returns-else-any_in_words : goal.returns-else-any_in_words
returns-else-any_in_words c =
    let tail = c.ones_between-else-any_in_words in
    let last = last_of_run c.args.words.now c.args.from c.args.to c.ones_from.result tail.result
    c.requires.ordered c.if-first-last.false c.ones_from.ensures.bits tail.ensures.bits
    (λ first.
    let determined = c.any_in_word-2.ensures.found.1 first in
    elim c.if-any_in_word.branch [ then-any_in_word w ↦ cc | else-any_in_word w ↦ cc ])
    (λ between. elim c.if-any_in_word.branch [
      | then-any_in_word w ↦ cc
      | else-any_in_word w ↦ let determined = w.any_in_words.ensures.found.1 between in cc
    ]) in
    let said = c.any_in_word-else-any_in_words.ensures.found in
    record { found = (λ determined. last.0 (said.0 determined), λ bit. said.1 (last.1 bit)) }
