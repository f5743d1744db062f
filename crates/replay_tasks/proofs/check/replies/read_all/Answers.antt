use Rattle.std.proofs.Common.{◌≡◌, [], ◌∷◌, ◌++◌, ℕ, map, vec_items, length, rules, ap, sym, subst, ◌∙◌, arith}
use Rattle.std.specs.Prelude.{slice_get, Some}
use Rattle.std.specs.Vec.Iter.{into_iter_items}
use Rattle.std.proofs.lemmas.List.{length-map, map-append}
use Rattle.replay_tasks.proofs.ReadingReplies.{ReadSoFar, one_read_more, place_of_next}
use Rattle.replay_tasks.proofs.check.replies.read_all.Goals as goal

pub returns-in-Err-clause-fault : goal.returns-in-Err-clause-fault
returns-in-Err-clause-fault g c =
    let files = map g.S.Source.remaining c.args.readers.items in
    let recorded = map vec_items c.loop-reader.recorded.items in
    let bytes = g.S.Source.remaining c.in-Some.reader in
    let rest = map g.S.Source.remaining (into_iter_items c.next.new.self) in
    let before = subst (λ left. ReadSoFar files (map g.S.Source.remaining left) recorded) c.in-Some.ensures.steps.0 c.loop-reader.invariant.read in
    let place : length recorded ≡ c.len.result =
    omega (arith, length-map c.loop-reader.recorded.items vec_items, c.loop-reader.recorded.ok.0, c.len.ensures) in
    (bytes, subst (λ (n : ℕ). slice_get files n ≡ Some bytes) place (place_of_next files rest recorded bytes before), c.in-Err.ensures.fault)

pub loop-reader-preserved : goal.loop-reader-preserved
loop-reader-preserved g c =
    let files = map g.S.Source.remaining c.args.readers.items in
    let recorded = map vec_items c.loop-reader.recorded.items in
    let bytes = g.S.Source.remaining c.in-Some.reader in
    let rest = map g.S.Source.remaining (into_iter_items c.next.new.self) in
    let before = subst (λ left. ReadSoFar files (map g.S.Source.remaining left) recorded) c.in-Some.ensures.steps.0 c.loop-reader.invariant.read in
    let pushed : c.push.new.self.items ≡ c.loop-reader.recorded.items ++ c.in-Ok.replies ∷ [] = search rules in
    record {
      read = subst (ReadSoFar files rest)
          (sym (ap (map vec_items) pushed ∙ map-append vec_items c.loop-reader.recorded.items (c.in-Ok.replies ∷ [])))
          (one_read_more files rest recorded bytes c.in-Ok.replies.items before c.in-Ok.ensures.read);
      passed = search rules;
    }
