use Rattle.std.proofs.Common.{Global, ◌≡◌, List, Vec, map, vec_items, sym, subst}
use Rattle.std.proofs.lemmas.Result.{IfOk-weaker}
use Rattle.keyspace.specs.declared.answer.Answer.{Answer}
use Rattle.replay_output.specs.Line.{answers_of}
use Rattle.replay_shards.specs.declared.note.Note.{Note}
use Rattle.replay_shards.specs.Answered.{AreAnswersTogether}
use Rattle.replay_shards.specs.Merging.{AreMerged}
use Rattle.replay_shards.proofs.Together.{together}
use Rattle.replay_shards.proofs.answered.combine_answered.Goals as goal

pub returns-clause-answers : goal.returns-clause-answers
returns-clause-answers c =
    let each = c.args.each.items in
    let sorted = c.in_ok-sorted.sorted in
    let merged = c.in_ok-merged.merged.items in
    let of_notes = subst (λ (notes : List (Vec Note Global)). AreMerged (map (vec_items {X = Answer} {Z = Global}) sorted.answers.items)
    (map (vec_items {X = Note} {Z = Global}) notes) merged) c.deref.ensures.value c.in_ok-merged.ensures.merged in
    let all = together each sorted.answers.items sorted.notes.items merged c.requires.kept c.in_ok-sorted.ensures.answers
    c.in_ok-sorted.ensures.notes of_notes in
    IfOk-weaker c.lines_of.result (λ lines. answers_of lines.items ≡ merged) (λ lines. AreAnswersTogether each (answers_of lines.items))
    (λ lines same. subst (λ (l : List Answer). AreAnswersTogether each l) (sym same) all) c.lines_of.ensures.answers
