use Rattle.std.proofs.Common.{◌≡◌, ℤ, ◌≤ℤ◌, ◌⊎◌, ◌++◌, Some, sym, subst, w64, to_z, of_z, rules}
use Rattle.std.proofs.lemmas.Int.{to_z-of_z}
use Rattle.replay_diagnosis.specs.Following.{HasLeast}
use Rattle.replay_diagnosis.proofs.Following.{least_of_both}
use Rattle.replay_diagnosis.proofs.batches.FileBatches.join.Goals as goal

pub returns-in-Some : goal.returns-in-Some
returns-in-Some c =
    let other = c.in-Some.previous in
    let same : to_z w64 (of_z w64 c.least.result) ≡ c.least.result = to_z-of_z w64 c.least.result (search rules) in
    let previous : to_z w64 (of_z w64 other) ≡ other = to_z-of_z w64 other (search rules) in
    let le = subst (λ (v : ℤ). c.least.result ≤ℤ v) previous c.least.ensures.previous in
    let either = subst (λ (v : ℤ). (c.least.result ≡ v) ⊎ (c.args.self.now.least_previous ≡ Some c.least.result)) previous
    c.least.ensures.either in
    record {
      joined = λ batches more has has_more.
          subst (λ (v : ℤ). HasLeast (batches ++ more) (Some v)) (sym same)
          (least_of_both c.args.self.now.least_previous c.least.result other batches more
          c.least.ensures.so_far le either has
          (subst (HasLeast more) c.in-Some.is has_more));
    }
