-- Lemmas for callers: where nothing failed, standard error gets no line.
use Rattle.std.specs.Prelude.{◌≡◌, ℕ, suc, ◌+◌, Bool, false, List, [], ◌∷◌, ◌++◌}
use Rattle.std.specs.List.{All, flat_map, enumerate_from}
use Rattle.std.proofs.Common.{refl, ap, ◌∙◌, arith}
use Rattle.replay_output.specs.declared.failures.ProxyFailure.{ProxyFailure}
use Rattle.replay_output.specs.declared.failures.Ending.{Ending}
use Rattle.replay_output.specs.Failures.{
  fault_line,
  loss_line,
  lines_of_failure,
  ending_line,
  failure_lines,
  IsClean,
  NothingFailed,
}
use Rattle.replay_output.specs.Unwritten.{unwritten_line}

clean_line : (proxy : ℕ) (failure : ProxyFailure) → IsClean failure → lines_of_failure (proxy, failure) ≡ []
clean_line proxy failure clean =
    ap (λ f. fault_line proxy f ++ loss_line proxy failure.lost) clean.0 ∙ ap (loss_line proxy) clean.1

clean_lines : (first : ℕ) (failures : List ProxyFailure) → All IsClean failures
    → flat_map lines_of_failure (enumerate_from first failures) ≡ []
clean_lines first [] clean = refl
clean_lines first (failure ∷ failures) clean =
    ap (λ l. l ++ flat_map lines_of_failure (enumerate_from (first + 1) failures))
    (clean_line first failure (clean 0 failure (omega arith)))
    ∙ clean_lines (first + 1) failures (λ k d inside. clean (suc k) d (omega arith))

pub no_lines : (failures : List ProxyFailure) (ending : Ending) → NothingFailed failures ending
    → failure_lines failures ending ≡ []
no_lines failures ending nothing =
    ap (λ l. l ++ ending_line ending) (clean_lines 0 failures nothing.proxies)
    ∙ ap ending_line nothing.complete

-- nor for records, if all were written
pub no_unwritten_lines : (first : ℕ) (unwritten : List Bool) → All (λ failed. failed ≡ false) unwritten
    → flat_map unwritten_line (enumerate_from first unwritten) ≡ []
no_unwritten_lines first [] all = refl
no_unwritten_lines first (failed ∷ unwritten) all =
    let here : unwritten_line (first, failed) ≡ [] = ap (λ (f : Bool). unwritten_line (first, f)) (all 0 failed (omega arith)) in
    ap (λ l. l ++ flat_map unwritten_line (enumerate_from (first + 1) unwritten)) here
    ∙ no_unwritten_lines (first + 1) unwritten (λ k d inside. all (suc k) d (omega arith))
