-- Every batch has its combined answer, as often as it was sent.
use Rattle.std.proofs.Common.{◌≡◌, ◌≤◌, ℕ, List, [], ◌∷◌, ◌++◌, length, refl, ap, subst, ◌∙◌, arith, inl, inr}
use Rattle.std.specs.Prelude.{ℤ, Bool, Some, slice_get}
use Rattle.std.specs.List.{AllZip}
use Rattle.std.specs.Ordering.{int_eq}
use Rattle.std.proofs.lemmas.Bool.{cases_Bool, cond-false}
use Rattle.std.proofs.lemmas.Bool.Decides.{Decides-int_eq}
use Rattle.std.proofs.lemmas.List.{length-append}
use Rattle.keyspace.specs.declared.answer.Answer.{Answer}
use Rattle.keyspace.specs.declared.batch.Batch.{Batch}
use Rattle.keyspace.specs.Run.{Step, answers, part}
use Rattle.serial.specs.Shards.{Shard, shards}
use Rattle.shards.specs.Clips.{IsBatchClip}
use Rattle.replay_shards.specs.Merging.{IsOfMatch, answers_at, at_version, common, version_of_match}
use Rattle.replay_sharded.specs.Sharded.{IsLogOfShard, answers_by_shard}
use Rattle.keys.proofs.callers.Counts.{count_both, count_first, count_of, one_if}
use Rattle.replay_sharded.proofs.Answering.{answered_once, none_held, version_of_batch}
use Rattle.replay_sharded.proofs.Resolved.{AreAllAnswered, AreMergedOf, notes_by_shard}
use Rattle.replay_sharded.proofs.Sizes.{some_shard}
use Rattle.replay_sharded.proofs.Taking.{zip_length}

-- Lists with as many items of each version are as long.
module _ {X Y : Type 0} (f : X → ℤ) (g : Y → ℤ) where
  -- an item of the version, after some and before others
  abbrev HasOne : ℤ → List Y → Type 0
  HasOne version ys = (before : List Y) × (y : Y) × (after : List Y) × (ys ≡ before ++ y ∷ after) × (g y ≡ version)

  one_of : (version : ℤ) (ys : List Y) → 1 ≤ length (at_version g version ys) → HasOne version ys
  one_of version [] some = absurd (omega (arith, some))
  one_of version (y ∷ ys) some =
      elim (cases_Bool (int_eq (g y) version)) [
        | inl same ↦ ([], y, ys, refl, (Decides-int_eq (g y) version).0 same)
        | inr differs ↦
            let none = cond-false (int_eq (g y) version) (y ∷ at_version g version ys) (at_version g version ys) differs in
            let rest = one_of version ys (subst (λ (l : List Y). 1 ≤ length l) none some) in
            (y ∷ rest.0, rest.1, rest.2, ap (λ (l : List Y). y ∷ l) rest.3, rest.4)
      ]

  -- without one of the version in each
  one_fewer : (x : X) (xs : List X) (ys : List Y) (one : HasOne (f x) ys) (version : ℤ)
      → length (at_version f version (x ∷ xs)) ≡ length (at_version g version ys)
      → length (at_version f version xs) ≡ length (at_version g version (one.0 ++ one.2))
  one_fewer x xs ys one version same =
      let left : X → Bool = λ (item : X). int_eq (f item) version in
      let right : Y → Bool = λ (item : Y). int_eq (g item) version in
      let a = count_first left x xs in
      let b = ap (count_of right) one.3 in
      let c = count_both right one.0 (one.1 ∷ one.2) in
      let d = count_first right one.1 one.2 in
      let e = count_both right one.0 one.2 in
      let h = ap (λ (v : ℤ). one_if (int_eq v version)) one.4 in
      omega (arith, same, a, b, c, d, e, h)

  as_long : (xs : List X) (ys : List Y)
      → ((version : ℤ) → length (at_version f version xs) ≡ length (at_version g version ys)) → length xs ≡ length ys
  as_long [] [] same = refl
  as_long [] (y ∷ ys) same =
      let v = g y in
      let one = same v in
      let first = count_first (λ (item : Y). int_eq (g item) v) y ys in
      let is = ap one_if ((Decides-int_eq v v).1 refl) in
      absurd (omega (arith, one, first, is))
  as_long (x ∷ xs) ys same =
      let v = f x in
      let first = count_first (λ (item : X). int_eq (f item) v) x xs in
      let is = ap one_if ((Decides-int_eq v v).1 refl) in
      let all = same v in
      let one = one_of v ys (omega (arith, first, is, all)) in
      let rest = as_long xs (one.0 ++ one.2) (λ version. one_fewer x xs ys one version (same version)) in
      let entire = ap (λ (l : List Y). length l) one.3 in
      let longer = length-append one.0 (one.1 ∷ one.2) in
      let shorter = length-append one.0 one.2 in
      omega (arith, rest, entire, longer, shorter)

module _ (version : ℤ) where
  abbrev batches_at : List Batch → List Batch
  batches_at own = at_version version_of_batch version own

  -- clips have the versions of their batches
  clips_at : (shard : Shard) (own clips : List Batch) → AllZip (IsBatchClip shard) own clips
      → length (batches_at clips) ≡ length (batches_at own)
  clips_at shard [] [] zip = refl
  clips_at shard [] (clip ∷ clips) zip = absurd zip
  clips_at shard (b ∷ own) [] zip = absurd zip
  clips_at shard (b ∷ own) (clip ∷ clips) zip =
      let test : Batch → Bool = λ (b : Batch). int_eq (version_of_batch b) version in
      let x = count_first test clip clips in
      let y = count_first test b own in
      let z = ap (λ (v : ℤ). one_if (int_eq v version)) zip.0.version in
      let rest = clips_at shard own clips zip.1 in
      omega (arith, x, y, z, rest)

  module _ (window : ℤ) (sent : List (List Batch)) (proxy : ℕ) (own : List Batch) (at : slice_get sent proxy ≡ Some own) where
    -- a shard answers the version as often as the proxy has sent it
    of_shard : (shard : Shard) (log : List Step) → IsLogOfShard window sent shard log
        → length (answers_at version (answers window log proxy)) ≡ length (batches_at own)
    of_shard shard log of =
        answered_once proxy version window log (none_held window log of.finish)
        ∙ clips_at shard own (part log proxy) (of.clips proxy own at)

    -- and so do all of them
    of_shards : (each : List Shard) (logs : List (List Step)) → 1 ≤ length each → AllZip (IsLogOfShard window sent) each logs
        → common version (answers_by_shard window logs proxy) ≡ length (batches_at own)
    of_shards [] logs some of = absurd (omega (arith, some))
    of_shards (shard ∷ each) [] some of = absurd of
    of_shards (shard ∷ []) (log ∷ []) some of = of_shard shard log of.0
    of_shards (shard ∷ []) (log ∷ next ∷ logs) some of = absurd of.1
    of_shards (shard ∷ second ∷ each) (log ∷ []) some of = absurd of.1
    of_shards (shard ∷ second ∷ each) (log ∷ next ∷ logs) some of =
        let first = of_shard shard log of.0 in
        let rest = of_shards (second ∷ each) (next ∷ logs) (omega arith) of.1 in
        omega (arith, first, rest)

pub all_answered : (points : List (List ℕ)) (window : ℤ) (sent : List (List Batch)) (logs : List (List Step))
    (together : List (List Answer)) → AllZip (IsLogOfShard window sent) (shards points) logs
    → AreMergedOf points window sent logs together → AreAllAnswered sent together
all_answered points window sent logs together of merged proxy own answers at there =
    let all = merged proxy own answers at there in
    zip_length (IsOfMatch (notes_by_shard points own)) all.0 answers all.2
    ∙ as_long version_of_match version_of_batch all.0 own (λ version.
    all.1.count version ∙ of_shards version window sent proxy own at (shards points) logs (some_shard [] points) of)
