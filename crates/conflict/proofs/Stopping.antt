-- Why a set stops where it doesn't resolve a batch, if it does.
use Rattle.std.proofs.Common.{◌≡◌, None, refl}
use Rattle.conflict.specs.declared.error.SetStop.{SetStop}
use Rattle.conflict.specs.declared.error.SetStop.TheVariants.{Memory, ArenaFull}
use Rattle.conflict.specs.declared.when_full.WhenFull.{WhenFull}
use Rattle.conflict.specs.declared.when_full.WhenFull.TheVariants.{Stop, Refuse}
use Rattle.conflict.specs.ConflictSet.{stop_after}

-- a refused batch is no reason
pub refused_continues : (w : WhenFull) (s : SetStop) → w ≡ Refuse → s ≡ ArenaFull → stop_after w s ≡ None
refused_continues Refuse ArenaFull w s = refl
refused_continues Refuse Memory w s = absurd (cc)
refused_continues Stop s w e = absurd (cc)

-- a set that continues has refused a batch
pub refused_if : (w : WhenFull) (s : SetStop) → stop_after w s ≡ None → (w ≡ Refuse) × (s ≡ ArenaFull)
refused_if Stop s e = absurd (cc)
refused_if Refuse Memory e = absurd (cc)
refused_if Refuse ArenaFull e = (refl, refl)
