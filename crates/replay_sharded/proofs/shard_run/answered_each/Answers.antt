use Rattle.std.proofs.Common.{Vec, Global, [], ◌∷◌, ◌++◌, ap, sym, ◌∙◌, append_assoc, arith}
use Rattle.std.specs.Prelude.{List, map, vec_items}
use Rattle.std.specs.Vec.Iter.{into_iter_items}
use Rattle.std.proofs.lemmas.Grind.{common_steps}
use Rattle.std.proofs.lemmas.List.{map-append}
use Rattle.replay_output.specs.declared.line.Line.{Line}
use Rattle.replay_shards.specs.declared.answered.Answered.{Answered}
use Rattle.replay_shards.specs.declared.clips.Clips.{Clips}
use Rattle.replay_shards.specs.declared.note.Note.{Note}
use Rattle.replay_sharded.specs.Files.{notes_left}
use Rattle.replay_sharded.specs.Runs.{lines_by, notes_by}
use Rattle.replay_sharded.proofs.shard_run.answered_each.Goals as goal

pub loop-lines-init : goal.loop-lines-init
loop-lines-init g c =
    let Ended = Clips g.row.S.Denot in
    let lines = into_iter_items c.into_iter-lines-iterator.result in
    let ended = into_iter_items c.into_iter-ended.result in
    record {
      lines = ap (λ (l : List Answered). map lines_by l ++ map (vec_items {X = Line} {Z = Global}) lines) c.requires.empty
          ∙ ap (λ (l : List (Vec Line Global)). map (vec_items {X = Line} {Z = Global}) l) c.into_iter-lines-iterator.ensures.into_iter_gives.0;
      notes = ap (λ (l : List Answered). map notes_by l ++ map notes_left ended) c.requires.empty
          ∙ ap (λ (l : List Ended). map notes_left l) c.into_iter-ended.ensures.rest;
      room = grind (arith, common_steps);
      as_many = grind (arith, common_steps);
    }

pub loop-lines-preserved : goal.loop-lines-preserved
loop-lines-preserved g c =
    let Ended = Clips g.row.S.Denot in
    let Lines = Vec Line Global in
    let lines = into_iter_items c.next.new.self in
    let ended = into_iter_items c.next-in-loop-lines.new.self in
    let old = c.loop-lines.answered.items in
    let one : Answered = record { lines = c.in-Some.lines; notes = c.into_notes-notes.result } in
    record {
      lines = ap (λ (l : List Answered). map lines_by l ++ map (vec_items {X = Line} {Z = Global}) lines) c.push_reserved.ensures.items
          ∙ ap (λ (l : List (List Line)). l ++ map (vec_items {X = Line} {Z = Global}) lines) (map-append lines_by old (one ∷ []))
          ∙ append_assoc (map lines_by old) (lines_by one ∷ []) (map (vec_items {X = Line} {Z = Global}) lines)
          ∙ ap (λ (l : List Lines). map lines_by old ++ map (vec_items {X = Line} {Z = Global}) l) (sym c.in-Some.ensures.steps.0)
          ∙ c.loop-lines.invariant.lines;
      notes = ap (λ (l : List Answered). map notes_by l ++ map notes_left ended) c.push_reserved.ensures.items
          ∙ ap (λ (l : List (List Note)). l ++ map notes_left ended) (map-append notes_by old (one ∷ []))
          ∙ append_assoc (map notes_by old) (notes_by one ∷ []) (map notes_left ended)
          ∙ ap (λ (v : Vec Note Global). map notes_by old ++ v.items ∷ map notes_left ended) c.into_notes-notes.ensures.notes
          ∙ ap (λ (l : List Ended). map notes_by old ++ map notes_left l) (sym c.in-Some-next.ensures.items)
          ∙ c.loop-lines.invariant.notes;
      room = grind (arith, common_steps);
      as_many = grind (arith, common_steps);
    }
