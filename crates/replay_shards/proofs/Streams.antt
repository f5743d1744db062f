-- What a stream of clips gives, step by step.
use Rattle.std.specs.Prelude.{◌≡◌, ℕ, List, [], ◌∷◌, ◌++◌, Option, Some}
use Rattle.std.proofs.Common.{sym, ap, ◌∙◌, subst, append_assoc, append-nil}
use Rattle.keyspace.specs.declared.batch.Batch.{Batch}
use Rattle.serial.specs.Shards.{Shard}
use Rattle.shards.specs.Clips.{IsBatchClip}
use Rattle.wire.specs.Batches.{GivesEach}
use Rattle.replay_shards.specs.declared.clips.Clips.{Clips}
use Rattle.replay_shards.specs.declared.note.Note.{Note}
use Rattle.replay_shards.specs.Clips.{GaveClips, GivesClip, bytes_left, shard_of_clips}
use Rattle.replay_shards.specs.Notes.{note_in, notes_of}

module _ {S : Type 0} (remaining : S → Option (List ℕ)) (shard : Shard) where
  pub gave_clips : (first last : Clips S) (clips : List Batch) → shard_of_clips first ≡ Some shard
      → GivesEach (GivesClip remaining) first last clips → GaveClips remaining shard first last clips
  gave_clips first last [] at is = record {
    batches = [];
    taken = ap (bytes_left remaining) is;
    clipped = tt;
    notes = ap (λ (own : Clips S). own.notes.items) is ∙ sym (append-nil first.notes.items);
    same = ap shard_of_clips is ∙ at;
  }
  gave_clips first last (clip ∷ clips) at gives =
      let between = gives.0 in
      let one = gives.1 in
      let noted = one.clipped in
      let here : noted.shard ≡ shard = let same : Some noted.shard ≡ Some shard = sym noted.before ∙ at in cc in
      let rest = gave_clips between last clips (noted.after ∙ ap (λ (s : Shard). Some s) here) gives.2 in
      let notes = subst (λ (s : Shard). between.notes.items ≡ first.notes.items ++ note_in s one.batch) here noted.notes in
      record {
        batches = one.batch ∷ rest.batches;
        taken = (bytes_left remaining between, one.taken, rest.taken);
        clipped = (subst (λ (s : Shard). IsBatchClip s one.batch clip) here noted.is_clip, rest.clipped);
        notes =
            rest.notes ∙ ap (λ (l : List Note). l ++ notes_of shard rest.batches) notes
            ∙ append_assoc first.notes.items (note_in shard one.batch) (notes_of shard rest.batches);
        same = rest.same;
      }
