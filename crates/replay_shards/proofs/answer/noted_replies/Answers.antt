use Rattle.std.proofs.Common.{◌≡◌, ◌<◌, ◌∙◌, length, refl, ap, arith}
use Rattle.std.proofs.lemmas.Option.{slice_get_read}
use Rattle.std.specs.Prelude.{Some, slice_get}
use Rattle.keyspace.specs.declared.answer.Answer.{Answer}
use Rattle.keyspace.specs.declared.answer.Answer.TheVariants.{Reply}
use Rattle.replay_shards.specs.Notes.{first_note}
use Rattle.replay_shards.proofs.OneReply.{one_more}
use Rattle.replay_shards.proofs.answer.noted_replies.Goals as goal

pub loop-shard-preserved : goal.loop-shard-preserved
loop-shard-preserved c =
    let answers = c.args.answers.now in
    let notes = c.args.notes.now in
    let i = c.loop-shard.shard in
    let as_many : length answers ≡ length notes = c.requires.as_many in
    let inside : i < length notes = omega (arith, as_many, c.loop-shard-test.true) in
    let answer_at : slice_get answers i ≡ Some (Reply c.in-Reply.reply) =
    slice_get_read answers _ i c.index-answers-shard.result refl c.loop-shard-test.true c.index-answers-shard.is
    ∙ ap (λ (a : Answer). Some a) c.in-Reply.is in
    let note_at = slice_get_read notes _ i c.index-notes-shard.result refl inside c.index-notes-shard.is in
    one_more _ answers notes c.loop-shard.each.items c.push.new.self.items i c.in-Reply.reply c.index-notes-shard.result
    _ answer_at note_at c.in_ok-push.ensures.items refl
    (c.note_of-reads.ensures.first ∙ ap (first_note _) c.deref.ensures.value) c.loop-shard.invariant
