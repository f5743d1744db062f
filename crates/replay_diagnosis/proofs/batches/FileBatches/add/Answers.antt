use Rattle.std.proofs.Common.{◌≡◌, ℤ, ◌≤ℤ◌, ◌⊎◌, ◌∷◌, [], ◌++◌, Some, sym, subst, w64, to_z, of_z, rules}
use Rattle.std.proofs.lemmas.Int.{to_z-of_z}
use Rattle.replay_diagnosis.specs.Following.{HasLeast}
use Rattle.replay_diagnosis.proofs.Following.{least_of_both, least_of_one}
use Rattle.replay_diagnosis.proofs.batches.FileBatches.add.Goals as goal

pub returns : goal.returns
returns c =
    let batch = c.args.batch.now in
    let same : to_z w64 (of_z w64 c.least.result) ≡ c.least.result = to_z-of_z w64 c.least.result (search rules) in
    let previous : to_z w64 (of_z w64 batch.previous) ≡ batch.previous = to_z-of_z w64 batch.previous (search rules) in
    let le = subst (λ (v : ℤ). c.least.result ≤ℤ v) previous c.least.ensures.previous in
    let either = subst (λ (v : ℤ). (c.least.result ≡ v) ⊎ (c.args.self.now.least_previous ≡ Some c.least.result)) previous
    c.least.ensures.either in
    record {
      added = λ batches has.
          subst (λ (v : ℤ). HasLeast (batches ++ batch ∷ []) (Some v)) (sym same)
          (least_of_both c.args.self.now.least_previous c.least.result batch.previous batches (batch ∷ [])
          c.least.ensures.so_far le either has (least_of_one batch));
    }
