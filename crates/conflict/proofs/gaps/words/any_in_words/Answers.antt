use Rattle.std.proofs.Common.{◌≢◌, ◌↔◌, IsTrue, rules}
use Rattle.std.specs.List.{Any, slice_range}
use Rattle.conflict.proofs.GapsFound.{any_of_words}
use Rattle.conflict.proofs.gaps.words.any_in_words.Goals as goal

pub returns : goal.returns
returns c =
    let words = c.args.words.now in
    let part = slice_range words c.args.first c.args.last in
    let said : IsTrue c.any.result ↔ Any (λ word. word ≢ 0) part = search rules in
    let found = any_of_words words c.args.first c.args.last c.requires.ordered c.requires.within
    (λ word. search (rules, c.type_inv.words)) in
    record { found = (λ determined. found.0 (said.0 determined), λ bit. said.1 (found.1 bit)) }
