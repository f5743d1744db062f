use Rattle.std.proofs.Common.{FitsSigned, w64, rules, ap, sym, ◌∙◌}
use Rattle.std.specs.Prelude.{ℤ, int_lt, slice_get}
use Rattle.std.proofs.lemmas.Int.{to_z-of_z}
use Rattle.std.proofs.lemmas.List.Sorted.{IsPartitionPoint-from_clause}
use Rattle.replay_shards.specs.declared.note.Note.{Note}
use Rattle.replay_shards.specs.Notes.{reads_at}
use Rattle.replay_shards.proofs.NoteOrder.{earlier_parted, first_from_point}
use Rattle.replay_shards.proofs.note.note_of.Goals as goal

pub returns : goal.returns
returns c =
    let notes = c.args.notes.now in
    let version = c.args.version in
    let fits : FitsSigned w64 version = search rules in
    let n = c.partition_point-first.result in
    let parted = IsPartitionPoint-from_clause (λ (note : Note). int_lt note.version version) notes n
    c.partition_point-first.ensures.partitioned (earlier_parted version notes c.requires.in_order) (λ a r q k. search rules) in
    record {
      first = c.reads_at.ensures.reads ∙ ap (λ (v : ℤ). reads_at v (slice_get notes n)) (to_z-of_z w64 version fits)
          ∙ sym (first_from_point version notes n c.requires.in_order c.partition_point-first.ensures.bound parted);
    }
