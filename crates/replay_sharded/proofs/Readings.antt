-- Streams of clips, by what is left of their files.
use Rattle.std.specs.Prelude.{◌≡◌, ℕ, ◌++◌, List, [], ◌∷◌, map, Option, None, Some, IfOk, IsSomeAnd, Result, Ok, Err, slice_get}
use Rattle.std.specs.Option.{option_map, option_or}
use Rattle.std.specs.List.{All}
use Rattle.std.proofs.Common.{refl, sym, ap, subst, ◌∙◌, inl, inr}
use Rattle.std.proofs.lemmas.List.Elements.{All-head, All-tail}
use Rattle.std.proofs.lemmas.Option.{same_Some, slice_get-map}
use Rattle.std.specs.Io.KnownBytes.{IsAtEnd}
use Rattle.keyspace.specs.declared.batch.Batch.{Batch}
use Rattle.serial.specs.Shards.{Shard}
use Rattle.shards.specs.Clips.{IsBatchClip}
use Rattle.replay_output.specs.declared.options.Options.{Options}
use Rattle.wire.specs.Batches.{EndsWith, IsFaultAt}
use Rattle.replay_workers.specs.Run.{EndsAt, IsRunOver}
use Rattle.replay_shards.specs.declared.clips.Clips.{Clips}
use Rattle.replay_shards.specs.declared.answered.Answered.{Answered}
use Rattle.replay_shards.specs.declared.note.Note.{Note}
use Rattle.replay_shards.specs.Clips.{GivesClip, GivesNoClip, bytes_left, shard_of_clips}
use Rattle.replay_shards.specs.Notes.{note_in}
use Rattle.replay_sharded.specs.declared.shard_run.ShardRun.{ShardRun}
use Rattle.replay_sharded.specs.Files.{AreClipsOf, Reading, TakesClip, notes_left, reading_of, unread_file}
use Rattle.replay_sharded.specs.Runs.{IsRunOfShard, KeepsNotes, notes_by}
use Rattle.replay_sharded.proofs.Viewed.{run_viewed}

module _ {S : Type 0} (remaining : S → Option (List ℕ)) where
  -- nothing was read of streams without notes
  pub unread_all : (clips : List (Clips S)) → All (λ own. own.notes.items ≡ []) clips
      → map (reading_of remaining) clips ≡ map unread_file (map (bytes_left remaining) clips)
  unread_all [] none = refl
  unread_all (own ∷ clips) none =
      let Without : Clips S → Type 0 = λ own. own.notes.items ≡ [] in
      let first : reading_of remaining own ≡ unread_file (bytes_left remaining own) =
      ap (λ (notes : List Note). record { bytes = bytes_left remaining own; notes = notes }) (All-head Without own clips none) in
      let rest = unread_all clips (All-tail Without own clips none) in
      ap (λ (r : Reading). r ∷ map (reading_of remaining) clips) first
      ∙ ap (λ (l : List Reading). unread_file (bytes_left remaining own) ∷ l) rest

  -- streams of files and of a shard, without notes, are the clips of those files to it
  pub clips_are_of : (readers : List S) (found : Option Shard) (files : List (Option (List ℕ))) (own : Shard) (clips : List (Clips S))
      → map (bytes_left remaining) clips ≡ map remaining readers → All (λ stream. shard_of_clips stream ≡ found) clips
      → All (λ stream. stream.notes.items ≡ []) clips → found ≡ Some own → map remaining readers ≡ files
      → AreClipsOf remaining files own clips
  clips_are_of readers found files own clips left of none at read = record {
    of_files = unread_all clips none ∙ ap (map unread_file) (left ∙ read);
    of_shard = subst (λ (o : Option Shard). All (λ stream. shard_of_clips stream ≡ o) clips) at of;
  }

module _ {S : Type 0} (remaining : S → Option (List ℕ)) (shard : Shard) where
  abbrev IsOfShard : Clips S → Type 0
  IsOfShard clips = shard_of_clips clips ≡ Some shard

  one_step : (old new : Clips S) (clip : Batch) → IsOfShard old → GivesClip remaining old new clip
      → IsOfShard new × TakesClip shard (reading_of remaining old) (reading_of remaining new) clip
  one_step old new clip of gives =
      let noted = gives.clipped in
      let here : noted.shard ≡ shard = same_Some noted.shard shard (sym noted.before ∙ of) in (
        noted.after ∙ ap (λ (s : Shard). Some s) here,
        record {
          batch = gives.batch;
          taken = gives.taken;
          clipped = subst (λ (s : Shard). IsBatchClip s gives.batch clip) here noted.is_clip;
          notes = subst (λ (s : Shard). new.notes.items ≡ old.notes.items ++ note_in s gives.batch) here noted.notes;
        },
      )

  -- the notes that a stream has left are kept
  notes_of_left : (ended : List (Clips S)) (answered : List Answered) → map notes_by answered ≡ map notes_left ended
      → (proxy : ℕ) (left : Clips S) → EndsAt GivesNoClip ended proxy left
      → IsSomeAnd (slice_get answered proxy) (λ own. notes_by own ≡ notes_left left)
  notes_of_left ended answered same proxy left at =
      go (slice_get ended proxy) (slice_get answered proxy)
      (sym (slice_get-map notes_by answered proxy) ∙ ap (λ (l : List (List Note)). slice_get l proxy) same
      ∙ slice_get-map notes_left ended proxy) at
    where
      go : (end : Option (Clips S)) (own : Option Answered) → option_map notes_by own ≡ option_map notes_left end
          → IsSomeAnd end (EndsWith GivesNoClip left) → IsSomeAnd own (λ own. notes_by own ≡ notes_left left)
      go None own is ends = absurd ends
      go (Some last) None is ends = let bad : None ≡ Some (notes_left last) = is in cc
      go (Some last) (Some own) is (inl same) = same_Some (notes_by own) (notes_left last) is ∙ ap notes_left same
      go (Some last) (Some own) is (inr none) = same_Some (notes_by own) (notes_left last) is ∙ none.notes

  -- the run over clips of files is that of a shard
  pub run_of_shard : (options : Options) (files : List (Option (List ℕ))) (clips ended : List (Clips S)) (run : ShardRun)
      → AreClipsOf remaining files shard clips → map notes_by run.answered.items ≡ map notes_left ended
      → IsRunOver (GivesClip remaining) (λ own. IsAtEnd (bytes_left remaining own)) (λ own. IsFaultAt (bytes_left remaining own))
      (EndsAt GivesNoClip ended) options clips (map (λ own. own.lines.items) run.answered.items) run.failures.items run.complete run.stop
      → IsRunOfShard options files shard run
  run_of_shard options files clips ended run of notes ran =
      subst (λ (readings : List Reading). IsRunOver (TakesClip shard) (λ left. IsAtEnd left.bytes) (λ left. IsFaultAt left.bytes)
      (KeepsNotes run) options readings (map (λ own. own.lines.items) run.answered.items) run.failures.items run.complete run.stop)
      of.of_files
      (run_viewed (reading_of remaining) IsOfShard (GivesClip remaining) (λ own. IsAtEnd (bytes_left remaining own))
      (λ own. IsFaultAt (bytes_left remaining own)) (TakesClip shard) (λ left. IsAtEnd left.bytes) (λ left. IsFaultAt left.bytes)
      one_step (λ now is. is) (λ now e is. is) (EndsAt GivesNoClip ended) (KeepsNotes run)
      (λ proxy left holds kept. notes_of_left ended run.answered.items notes proxy left kept) options clips
      (map (λ own. own.lines.items) run.answered.items) run.failures.items run.complete run.stop of.of_shard ran)

pub if_ok_three : {X E : Type 0} (r : Result X E) (P Q R T : X → Type 0) → ((x : X) → P x → Q x → R x → T x) → IfOk r P → IfOk r Q
    → IfOk r R → IfOk r T
if_ok_three (Ok x) P Q R T all p q r = all x p q r
if_ok_three (Err e) P Q R T all p q r = tt

pub or_some : {X : Type 0} (o : Option X) (x : X) → option_or o (Some x) ≡ None → ⊥
or_some None x is = cc
or_some (Some y) x is = cc
