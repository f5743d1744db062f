use Rattle.std.proofs.Common.{◌≡◌, ◌++◌, ◌∙◌, ◌⊎◌, ℕ, List, map, get_or, sym, ap, subst, take_all}
use Rattle.std.specs.Prelude.{◌↔◌, Contains}
use Rattle.shards.specs.Combined.{Reports}
use Rattle.shards.proofs.callers.Combining.{reported}
use Rattle.replay_shards.specs.Answers.{noted_in}
use Rattle.replay_shards.proofs.noted_reply.NotedReply.put_report.Goals as goal

pub returns-clause-report : goal.returns-clause-report
returns-clause-report c = λ read.
    let found = c.args.found.now.items in
    let indices = c.indices-indices.result.now in
    let e = c.entry.result.now in
    let s = noted_in c.args.self.now in
    let shown = λ (places : List ℕ). found ++ map (λ (place : ℕ). get_or indices place 0) places in
    let all : c.loop-place.found.items ≡ found ++ map (λ (place : ℕ). get_or indices place 0) e.places =
    c.loop-place.invariant.found
    ∙ ap shown (take_all c.loop-place.place-index c.as_slice-place-items.result.now c.loop-place-test.false)
    ∙ ap shown c.as_slice-place-items.ensures.places in
    subst (λ (items : List ℕ). Contains items read ↔ (Contains found read ⊎ Reports c.args.index read s)) (sym all)
    (reported found indices c.args.index s e c.entry.ensures.entry (c.indices-indices.ensures.indices c.requires.entries)
    (c.requires.places c.args.index e indices c.entry.ensures.entry (c.indices-indices.ensures.indices c.requires.entries)) read)
