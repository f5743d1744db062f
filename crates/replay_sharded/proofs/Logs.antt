-- With every combined answer there, the log of each shard takes the clips of the batches that it has read of each file. If the bytes of all
-- files are known, all shards have read the same.
use Rattle.std.specs.Prelude.{◌≡◌, ◌≤◌, ℕ, zero, suc, ℤ, List, [], ◌∷◌, length, map, IsSomeAnd, Option, None, Some, slice_get}
use Rattle.std.specs.Option.{option_map}
use Rattle.std.specs.List.{All, AllZip}
use Rattle.std.proofs.Common.{refl, sym, ap, subst, ◌∙◌, arith}
use Rattle.std.proofs.lemmas.List.{length-map}
use Rattle.std.proofs.lemmas.List.Elements.{All-head, All-tail}
use Rattle.std.proofs.lemmas.Option.{none-some, same_Some, slice_get-map}
use Rattle.keyspace.specs.declared.batch.Batch.{Batch}
use Rattle.keyspace.specs.Run.{part}
use Rattle.serial.specs.Shards.{Shard, shards}
use Rattle.shards.specs.Clips.{IsBatchClip}
use Rattle.wire.specs.NextFrame.{TakesFrame}
use Rattle.resolver.specs.Resolver.{TakesOnlyFrom}
use Rattle.replay_output.specs.Failures.{IsClean}
use Rattle.replay_output.specs.declared.options.Options.{Options}
use Rattle.wire.specs.Batches.{GivesEach}
use Rattle.replay_workers.proofs.callers.Lists.{all_at, found, mapped_at}
use Rattle.replay_shards.specs.Answered.{notes_by}
use Rattle.replay_shards.specs.Notes.{notes_of}
use Rattle.replay_shards.specs.declared.answered.Answered.{Answered}
use Rattle.replay_shards.specs.declared.note.Note.{Note}
use Rattle.replay_sharded.specs.declared.shard_run.ShardRun.{ShardRun}
use Rattle.replay_sharded.specs.Files.{IsFileOf, IsKnown, unread_file}
use Rattle.replay_sharded.specs.Runs.{IsRunOfShard, lines_by}
use Rattle.replay_sharded.specs.Sharded.{HasRead, HasReadFiles, HaveAllRead, ShardLog}
use Rattle.replay_sharded.proofs.SameFile.{HasOneSpelling, same_batches}
use Rattle.replay_sharded.proofs.Sizes.{some_shard}
use Rattle.replay_sharded.proofs.Taking.{zip_length}
use Rattle.replay_sharded.proofs.EntireRuns.{IsEntire, originals_of}

pub same_file : HasOneSpelling → (file : Option (List ℕ)) (one other : List Batch) → IsKnown file → IsFileOf file one → IsFileOf file other
    → one ≡ other
same_file law file one other known first second =
    same_batches law known.0 first.left second.left one other
    (subst (λ (o : Option (List ℕ)). GivesEach TakesFrame o first.left one) known.1 first.frames)
    (subst (λ (o : Option (List ℕ)). GivesEach TakesFrame o second.left other) known.1 second.frames) first.at_end second.at_end

module _ {X Y : Type 0} (R : X → Y → Type 0) where
  -- what each item has, as a list
  pub choose : (xs : List X) → ((place : ℕ) (x : X) → slice_get xs place ≡ Some x → (y : Y) × R x y)
      → (ys : List Y) × AllZip R xs ys
  choose [] each = ([], tt)
  choose (x ∷ xs) each =
      let first = each zero x refl in
      let rest = choose xs (λ place. each (suc place)) in
      (first.0 ∷ rest.0, (first.1, rest.1))

  -- beside what is so of each at its place
  pub choose_at : (Q : ℕ → Y → Type 0) (xs : List X)
      → ((place : ℕ) (x : X) → slice_get xs place ≡ Some x → (y : Y) × R x y × Q place y)
      → (ys : List Y) × AllZip R xs ys × ((place : ℕ) (y : Y) → slice_get ys place ≡ Some y → Q place y)
  choose_at Q [] each = ([], tt, λ place y at. absurd (none-some y at))
  choose_at Q (x ∷ xs) each =
      let first = each zero x refl in
      let rest = choose_at (λ place. Q (suc place)) xs (λ place. each (suc place)) in
      (first.0 ∷ rest.0, (first.1, rest.1), later Q first.0 rest.0 first.2 rest.2)
    where
      later : (Q : ℕ → Y → Type 0) (y : Y) (ys : List Y) → Q zero y
          → ((place : ℕ) (z : Y) → slice_get ys place ≡ Some z → Q (suc place) z)
          → (place : ℕ) (z : Y) → slice_get (y ∷ ys) place ≡ Some z → Q place z
      later Q y ys first rest zero z at = subst (Q zero) (same_Some y z at) first
      later Q y ys first rest (suc place) z at = rest place z at

  pub zip_at : (xs : List X) (ys : List Y) (place : ℕ) (x : X) (y : Y) → AllZip R xs ys → slice_get xs place ≡ Some x
      → slice_get ys place ≡ Some y → R x y
  zip_at [] ys place x y zip at other = absurd (none-some x at)
  zip_at (first ∷ xs) [] place x y zip at other = absurd zip
  zip_at (first ∷ xs) (second ∷ ys) zero x y zip at other =
      let same : first ≡ x = cc in
      let also : second ≡ y = cc in
      subst (λ (x : X). R x y) same (subst (λ (y : Y). R first y) also zip.0)
  zip_at (first ∷ xs) (second ∷ ys) (suc place) x y zip at other = zip_at xs ys place x y zip.1 at other

-- Of the proxy, these batches are what the shard has read: its log takes their clips, and the notes are theirs.
abbrev pub IsReadOf : Shard → ShardRun → (ℕ → List Batch) → ℕ → List Batch → Type 0
IsReadOf shard run log_part proxy own =
    AllZip (IsBatchClip shard) own (log_part proxy)
    × IsSomeAnd (slice_get run.answered.items proxy) (λ answered. notes_by answered ≡ notes_of shard own)

-- what a shard has read of a file: the clips of all its batches
pub file_read : (options : Options) (files : List (Option (List ℕ))) (shard : Shard) (run : ShardRun)
    (ran : IsRunOfShard options files shard run) → IsEntire run → (proxy : ℕ) (file : Option (List ℕ))
    → slice_get files proxy ≡ Some file
    → (own : List Batch) × IsFileOf file own × IsReadOf shard run (part ran.log) proxy own
file_read options files shard run ran entire proxy file at =
    let first = mapped_at unread_file files proxy file at in
    let lines = found (map unread_file files) (map lines_by run.answered.items) proxy (unread_file file) ran.received_count first in
    let failure = found (map unread_file files) run.failures.items proxy (unread_file file) ran.failures_count first in
    let served = ran.each proxy (unread_file file) lines.0 failure.0 first lines.1 failure.1 in
    let all = served.all_batches entire.complete in
    let clean = all_at IsClean run.failures.items proxy failure.0 entire.clean failure.1 in
    let batches = originals_of shard (unread_file file) served.left served.read served.frames_read in (
      batches.0,
      record { left = served.left.bytes; frames = batches.1; at_end = served.all_read all clean.0 },
      (
        subst (λ (l : List Batch). AllZip (IsBatchClip shard) batches.0 l) all batches.2,
        subst (λ (l : List Note). IsSomeAnd (slice_get run.answered.items proxy) (λ answered. notes_by answered ≡ l)) batches.3
            served.kept,
      ),
    )

-- the log of a run, and its notes
abbrev pub shard_log : (options : Options) (files : List (Option (List ℕ))) (shard : Shard) (run : ShardRun)
    → IsRunOfShard options files shard run → ShardLog
shard_log options files shard run ran = record { log = ran.log; notes = map notes_by run.answered.items }

-- notes that are there
noted : (o : Option Answered) (notes : List Note) → IsSomeAnd o (λ answered. notes_by answered ≡ notes)
    → option_map notes_by o ≡ Some notes
noted None notes is = absurd is
noted (Some answered) notes is = ap (λ (l : List Note). Some l) is

-- the log takes the clips of the batches that the shard has read of the files
pub has_read : (options : Options) (files : List (Option (List ℕ))) (shard : Shard) (run : ShardRun)
    (ran : IsRunOfShard options files shard run) → IsEntire run
    → HasReadFiles options.window files shard (shard_log options files shard run ran)
has_read options files shard run ran entire =
    let read = choose_at IsFileOf (IsReadOf shard run (part ran.log)) files (file_read options files shard run ran entire) in (
      read.0,
      read.1,
      record {
        takes = record {
          proxies =
              subst (λ (n : ℕ). TakesOnlyFrom n ran.log) (length-map files unread_file ∙ sym (zip_length IsFileOf files read.0 read.1))
              ran.proxies;
          clips = λ proxy own at. (read.2 proxy own at).0;
          chain = ran.chain;
          finish = ran.finish (ran.no_stop entire.complete);
        };
        notes = λ proxy own at.
            slice_get-map notes_by run.answered.items proxy
            ∙ noted (slice_get run.answered.items proxy) (notes_of shard own) (read.2 proxy own at).1;
      },
    )

-- of each shard
abbrev pub logs_of : (options : Options) (files : List (Option (List ℕ))) (shards : List Shard) (runs : List ShardRun)
    → AllZip (IsRunOfShard options files) shards runs → All IsEntire runs
    → (logs : List ShardLog) × AllZip (HasReadFiles options.window files) shards logs
logs_of options files [] [] ran entire = ([], tt)
logs_of options files [] (run ∷ runs) ran entire = absurd ran
logs_of options files (shard ∷ shards) [] ran entire = absurd ran
logs_of options files (shard ∷ shards) (run ∷ runs) ran entire =
    let log = has_read options files shard run ran.0 (All-head IsEntire run runs entire) in
    let rest = logs_of options files shards runs ran.1 (All-tail IsEntire run runs entire) in
    (shard_log options files shard run ran.0 ∷ rest.0, (log, rest.1))

-- known bytes are read in one way
same_files : HasOneSpelling → (files : List (Option (List ℕ))) (some other : List (List Batch)) → All IsKnown files
    → AllZip IsFileOf files some → AllZip IsFileOf files other → some ≡ other
same_files law [] [] [] known first second = refl
same_files law [] [] (two ∷ other) known first second = absurd second
same_files law [] (one ∷ some) other known first second = absurd first
same_files law (file ∷ files) [] other known first second = absurd first
same_files law (file ∷ files) (one ∷ some) [] known first second = absurd second
same_files law (file ∷ files) (one ∷ some) (two ∷ other) known first second =
    ap (λ (own : List Batch). own ∷ some) (same_file law file one two (All-head IsKnown file files known) first.0 second.0)
    ∙ ap (λ (rest : List (List Batch)). two ∷ rest)
    (same_files law files some other (All-tail IsKnown file files known) first.1 second.1)

-- so all shards have read what one of them has
all_read : HasOneSpelling → (window : ℤ) (files : List (Option (List ℕ))) (sent : List (List Batch)) → All IsKnown files
    → AllZip IsFileOf files sent → (shards : List Shard) (logs : List ShardLog) → AllZip (HasReadFiles window files) shards logs
    → AllZip (HasRead window sent) shards logs
all_read law window files sent known of [] [] each = tt
all_read law window files sent known of [] (own ∷ logs) each = absurd each
all_read law window files sent known of (shard ∷ shards) [] each = absurd each
all_read law window files sent known of (shard ∷ shards) (own ∷ logs) each =
    let read = each.0 in (
      subst (λ (l : List (List Batch)). HasRead window l shard own) (same_files law files read.0 sent known read.1 of) read.2,
      all_read law window files sent known of shards logs each.1,
    )

-- what the first shard has read
first_read : (window : ℤ) (files : List (Option (List ℕ))) (shards : List Shard) (logs : List ShardLog) → 1 ≤ length shards
    → AllZip (HasReadFiles window files) shards logs → (sent : List (List Batch)) × AllZip IsFileOf files sent
first_read window files [] logs some each = absurd (omega (arith, some))
first_read window files (shard ∷ shards) [] some each = absurd each
first_read window files (shard ∷ shards) (own ∷ logs) some each = (each.0.0, each.0.1)

pub known_read : HasOneSpelling → (window : ℤ) (points : List (List ℕ)) (files : List (Option (List ℕ))) (logs : List ShardLog)
    → AllZip (HasReadFiles window files) (shards points) logs → All IsKnown files
    → (sent : List (List Batch)) × HaveAllRead window points files logs sent
known_read law window points files logs each known =
    let sent = first_read window files (shards points) logs (some_shard [] points) each in (
      sent.0,
      record {
        each_file = sent.1;
        each_shard = all_read law window files sent.0 known sent.1 (shards points) logs each;
      },
    )
