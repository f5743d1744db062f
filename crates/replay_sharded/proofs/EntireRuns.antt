-- If every combined answer is there, nothing failed in any shard. What a shard has read of a file then are the clips of all its batches.
use Rattle.std.specs.Prelude.{◌≡◌, ◌<◌, ◌||◌, ℕ, Bool, true, false, List, [], ◌∷◌, ◌++◌, length, map, vec_items, IfSome, Option, None, Some, slice_get, slice_index_or}
use Rattle.std.specs.Option.{option_or}
use Rattle.std.specs.List.{All, AllZip, list_any}
use Rattle.std.proofs.Common.{refl, sym, ap, subst, ◌∙◌, arith, append_assoc, append-nil}
use Rattle.std.proofs.lemmas.Bool.{true≢false}
use Rattle.std.proofs.lemmas.List.{length-map}
use Rattle.std.proofs.lemmas.List.Elements.{All-nil, All-cons}
use Rattle.std.proofs.lemmas.Option.{slice_get-get_or}
use Rattle.keys.proofs.callers.Lists.{some_at}
use Rattle.keyspace.specs.declared.batch.Batch.{Batch}
use Rattle.serial.specs.Shards.{Shard}
use Rattle.shards.specs.Clips.{IsBatchClip}
use Rattle.wire.specs.NextFrame.{TakesFrame}
use Rattle.replay_output.specs.Failures.{IsClean}
use Rattle.replay_output.specs.declared.failures.ProxyFailure.{ProxyFailure}
use Rattle.replay_output.specs.declared.options.style.Style.{Style}
use Rattle.wire.specs.Batches.{GivesEach}
use Rattle.replay_workers.proofs.callers.Lists.{all_at}
use Rattle.replay_shards.specs.Failures.{fault_of, first_some, has_loss}
use Rattle.replay_shards.specs.Notes.{note_in, notes_of}
use Rattle.replay_shards.specs.declared.note.Note.{Note}
use Rattle.replay_sharded.specs.declared.combined.Combined.{Combined}
use Rattle.replay_sharded.specs.declared.shard_run.ShardRun.{ShardRun}
use Rattle.replay_sharded.specs.Combined.{AreCombined, HasAllAnswers, HasProxies}
use Rattle.replay_sharded.specs.Files.{Reading, TakesClip}
use Rattle.replay_sharded.proofs.Taking.{zip_all_back}

or_none : {X : Type 0} (one other : Option X) → option_or one other ≡ None → (one ≡ None) × (other ≡ None)
or_none None other is = (refl, is)
or_none (Some x) other is = absurd (let no : ⊥ = cc in no)

or_false : (one other : Bool) → (one || other) ≡ false → (one ≡ false) × (other ≡ false)
or_false true other is = absurd (true≢false is)
or_false false other is = (refl, is)

not_true : (b : Bool) → (b ≡ true → ⊥) → b ≡ false
not_true true never = absurd (never refl)
not_true false never = refl

clean_each : (each : List ProxyFailure) → first_some (map fault_of each) ≡ None → list_any has_loss each ≡ false → All IsClean each
clean_each [] none kept = All-nil IsClean
clean_each (failure ∷ rest) none kept =
    let fault = or_none failure.fault (first_some (map fault_of rest)) none in
    let loss = or_false failure.lost (list_any has_loss rest) kept in
    All-cons IsClean failure rest (fault.0, loss.0) (clean_each rest fault.1 loss.1)

-- nothing failed in the shard, and its run is complete
pub record IsEntire (run : ShardRun) : Type 0 where
  pub complete : run.complete ≡ true
  pub clean : All IsClean run.failures.items

pub all_entire : (style : Style) (proxies : ℕ) (runs : List ShardRun) (combined : Combined) → AreCombined style runs combined
    → HasAllAnswers combined → All (HasProxies proxies) runs → All IsEntire runs
all_entire style proxies runs combined are all has = λ m e inside.
    let run = slice_index_or runs m e in
    let run_at = slice_get-get_or runs m e inside in
    let own = all_at (HasProxies proxies) runs m run has run_at in
    record {
      complete = are.complete.0 all.complete m e inside;
      clean = λ k d within.
          let failure_at = slice_get-get_or run.failures.items k d within in
          let below : k < proxies = omega (arith, within, run.failures.ok.0, own.failures) in
          let in_lines : k < length (map vec_items combined.lines.items) =
          omega (arith, below, are.lines_count proxies has, combined.lines.ok.0, length-map combined.lines.items vec_items) in
          let in_failures : k < length combined.failures.items =
          omega (arith, below, are.failures_count proxies has, combined.failures.ok.0) in
          let lines = some_at (map vec_items combined.lines.items) k in_lines in
          let failure = some_at combined.failures.items k in_failures in
          let clean = all_at IsClean combined.failures.items k failure.0 all.clean failure.1 in
          let together = are.each k lines.0 failure.0 lines.1 failure.1 in
          let no_fault = sym together.together.fault ∙ (sym together.fault ∙ clean.0) in
          let kept = not_true together.own.lost (λ is. true≢false (sym (together.lost is) ∙ clean.1)) in
          let each = clean_each together.failures no_fault (sym together.together.lost ∙ kept) in
          let Clean : ShardRun → Type 0 = λ run. IfSome (slice_get run.failures.items k) IsClean in
          let shards =
          zip_all_back (λ (run : ShardRun) (own : ProxyFailure). slice_get run.failures.items k ≡ Some own) Clean IsClean
          (λ run own at is. subst (λ (o : Option ProxyFailure). IfSome o IsClean) (sym at) is) runs together.failures
          together.of_shards each in
          subst (λ (o : Option ProxyFailure). IfSome o IsClean) failure_at (all_at Clean runs m run shards run_at);
    }

-- the batches whose clips were read, and their notes
pub originals_of : (shard : Shard) (first last : Reading) (clips : List Batch) → GivesEach (TakesClip shard) first last clips
    → (own : List Batch) × GivesEach TakesFrame first.bytes last.bytes own × AllZip (IsBatchClip shard) own clips
    × (last.notes ≡ first.notes ++ notes_of shard own)
originals_of shard first last [] same =
    ([], ap (λ (r : Reading). r.bytes) same, tt, ap (λ (r : Reading). r.notes) same ∙ sym (append-nil first.notes))
originals_of shard first last (clip ∷ rest) given =
    let step = given.1 in
    let later = originals_of shard given.0 last rest given.2 in (
      step.batch ∷ later.0,
      (given.0.bytes, step.taken, later.1),
      (step.clipped, later.2),
      later.3 ∙ ap (λ (l : List Note). l ++ notes_of shard later.0) step.notes
          ∙ append_assoc first.notes (note_in shard step.batch) (notes_of shard later.0),
    )
