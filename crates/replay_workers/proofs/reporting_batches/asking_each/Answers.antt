use Rattle.std.proofs.Common.{◌≡◌, ◌++◌, ◌∷◌, [], rules, ap, sym, ◌∙◌, append_assoc, List, map, arith}
use Rattle.std.specs.Prelude.{None}
use Rattle.std.specs.Vec.Iter.{into_iter_items}
use Rattle.std.proofs.lemmas.Grind.{common_steps}
use Rattle.std.proofs.lemmas.List.{map-append}
use Rattle.std.proofs.lemmas.List.Elements.{All-push, All-same}
use Rattle.replay_workers.specs.declared.reporting_batches.AskingFrames.{AskingFrames}
use Rattle.replay_workers.specs.Asking.{asking_reader, asking_refusal}
use Rattle.replay_workers.proofs.reporting_batches.asking_each.Goals as goal

pub loop-reader-preserved : goal.loop-reader-preserved
loop-reader-preserved g c =
    let before = c.loop-reader.invariant in
    let done = c.loop-reader.each.items in
    let made = c.read_asking.result in
    let rest = into_iter_items c.next.new.self in
    let reader_of = λ (batches : AskingFrames g.row.S.Denot). asking_reader batches in
    let is_fresh = λ (batches : AskingFrames g.row.S.Denot). asking_refusal batches ≡ None in
    record {
      readers =
          ap (λ (l : List (AskingFrames g.row.S.Denot)). map reader_of l ++ rest) c.push_reserved.ensures.items
          ∙ ap (λ (l : List g.row.S.Denot). l ++ rest) (map-append reader_of done (made ∷ []))
          ∙ append_assoc (map reader_of done) (reader_of made ∷ []) rest
          ∙ ap (λ (r : g.row.S.Denot). map reader_of done ++ r ∷ rest) c.read_asking.ensures.reader
          ∙ ap (λ (l : List g.row.S.Denot). map reader_of done ++ l) (sym c.in-Some.ensures.steps.0)
          ∙ before.readers;
      fresh = All-same is_fresh _ _ c.push_reserved.ensures.items
          (All-push is_fresh done made before.fresh c.read_asking.ensures.fresh);
      room = first_of (search rules, grind (arith, common_steps));
    }
