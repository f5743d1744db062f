-- The clip of a batch, and its note.
use Rattle.std.specs.Prelude.{◌≡◌, ℕ, ℤ, Bool, ◌||◌, if◌then◌else◌, ◌++◌, List, [], ◌∷◌, None, Some, IsSomeAnd}
use Rattle.std.proofs.Common.{refl, sym, ap, ap₂, ◌∙◌, inl, inr}
use Rattle.std.specs.List.{AllZip, list_any}
use Rattle.std.proofs.lemmas.Bool.{cases_Bool, cond-true, cond-false}
use Rattle.keyspace.specs.declared.batch.Batch.{Batch}
use Rattle.keyspace.specs.declared.txn.Txn.{Txn}
use Rattle.serial.specs.Shards.{Shard}
use Rattle.serial.proofs.callers.Reading.{the_value}
use Rattle.shards.specs.declared.clipped.Clipped.{Clipped}
use Rattle.shards.specs.Clips.{IsClipped, IsTxnClip}
use Rattle.wire.specs.Frames.{refusal_of}
use Rattle.wire.specs.declared.error.WireError.TheVariants as wire
use Rattle.replay_shards.specs.declared.clips.Clips.{Clips}
use Rattle.replay_shards.specs.declared.note.Note.{Note}
use Rattle.replay_shards.specs.Clips.{IsNotedClip, refusal_of_clips, shard_of_clips}
use Rattle.replay_shards.specs.Notes.{note_in, note_with, requests_report}

-- the clip requests reports as the batch does
same_requests : (shard : Shard) (ts us : List Txn) → AllZip (IsTxnClip shard) ts us
    → list_any requests_report us ≡ list_any requests_report ts
same_requests shard [] [] clips = refl
same_requests shard [] (u ∷ us) clips = absurd clips
same_requests shard (t ∷ ts) [] clips = absurd clips
same_requests shard (t ∷ ts) (u ∷ us) clips =
    ap₂ (λ (a b : Bool). a || b) clips.0.marked (same_requests shard ts us clips.1)

-- so its note is that of the batch
abbrev note_if : Bool → ℤ → List (List ℕ) → List Note
note_if some version reads = if some then record { version = version; reads = reads } ∷ [] else []

same_note : (shard : Shard) (batch : Batch) (clipped : Clipped) → IsClipped shard batch clipped
    → note_with clipped.reads clipped.batch ≡ note_in shard batch
same_note shard batch clipped is =
    let own = clipped.batch in
    ap (λ (some : Bool). note_if some own.version clipped.reads) (same_requests shard batch.txns own.txns is.batch.txns)
    ∙ ap₂ (λ (version : ℤ) (reads : List (List ℕ)). note_if (list_any requests_report batch.txns) version reads) is.batch.version is.reads

module _ {S : Type 0} where
  pub noted : (old new : Clips S) (batch : Batch) (clipped : Clipped)
      → IsSomeAnd (shard_of_clips old) (λ shard. IsClipped shard batch clipped) → shard_of_clips new ≡ shard_of_clips old
      → new.notes.items ≡ old.notes.items ++ note_with clipped.reads clipped.batch → IsNotedClip old new batch clipped.batch
  noted old new batch clipped is same kept =
      let found = the_value (λ (shard : Shard). IsClipped shard batch clipped) (shard_of_clips old) is in
      record {
        shard = found.0;
        before = found.1;
        after = same ∙ found.1;
        is_clip = found.2.batch;
        notes = kept ∙ ap (λ (l : List Note). old.notes.items ++ l) (same_note found.0 batch clipped found.2);
      }

  -- clips that aren't refused come from frames that aren't refused
  pub unrefused : (clips : Clips S) → refusal_of_clips clips ≡ None → refusal_of clips.frames ≡ None
  unrefused clips none =
      elim (cases_Bool clips.is_refused) [
        | inl refused ↦
            let clash : Some wire.Memory ≡ None = sym (cond-true _ _ _ refused) ∙ none in
            absurd (let never : ⊥ = cc in never)
        | inr other ↦ sym (cond-false _ _ _ other) ∙ none
      ]
