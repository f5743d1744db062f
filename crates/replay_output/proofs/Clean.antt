-- Where nothing failed there is no line of it.
use Rattle.std.specs.Prelude.{◌≡◌, ℕ, zero, suc, ◌<◌, List, [], ◌∷◌, length, Option, slice_set, slice_index_or as get_or, true}
use Rattle.std.proofs.Common.{refl, ap, arith}
use Rattle.std.specs.Io.KnownBytes.{Appends, Keeps}
use Rattle.wire.proofs.callers.Given.{appends_nothing}
use Rattle.replay_output.specs.declared.failures.ProxyFailure.{ProxyFailure}
use Rattle.replay_output.specs.declared.failures.Ending.{Ending}
use Rattle.replay_output.specs.Failures.{failure_lines, with_loss, NothingFailed}
use Rattle.replay_output.proofs.callers.Quiet.{no_lines}

pub Keeps-from_clean : (old new : Option (List ℕ)) (failures : List ProxyFailure) (ending : Ending)
    → NothingFailed failures ending → Appends old new (failure_lines failures ending) → Keeps old new
Keeps-from_clean old new failures ending nothing appends =
    appends_nothing old new (rw (no_lines failures ending nothing) at appends)

pub with_loss-set : (failures : List ProxyFailure) (proxy : ℕ) (none : ProxyFailure) → proxy < length failures
    → slice_set failures proxy (record (get_or failures proxy none) { lost = true }) ≡ with_loss proxy failures
with_loss-set [] proxy none inside = absurd (omega arith)
with_loss-set (failure ∷ failures) zero none inside = refl
with_loss-set (failure ∷ failures) (suc proxy) none inside =
    ap (λ l. failure ∷ l) (with_loss-set failures proxy none (omega arith))
