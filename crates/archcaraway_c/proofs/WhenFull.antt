-- What a set is that doesn't resolve a batch: it has stopped, or it has refused the batch.
use Rattle.std.proofs.Common.{◌≡◌, ◌⊎◌, inl, inr, refl, sym, ◌∙◌, ap, ap₂}
use Rattle.std.specs.Prelude.{ℤ, Option, Some, None, List}
use Rattle.keyspace.specs.Writes.{Write}
use Rattle.conflict.specs.declared.error.SetStop.{SetStop}
use Rattle.conflict.specs.declared.error.SetStop.TheVariants.{Memory, ArenaFull}
use Rattle.conflict.specs.declared.when_full.WhenFull.{WhenFull}
use Rattle.conflict.specs.declared.when_full.WhenFull.TheVariants as when
use Rattle.conflict.specs.ConflictSet.{SetState, stop_after, Remembers}
use Rattle.archcaraway_c.specs.SetObject.{AreSetParts, MetNow}

module _ (w : WhenFull) (met : SetStop) (old new : SetState) where
  -- a set that refuses a batch is as before
  abbrev pub Refused : Type 0
  Refused = w ≡ when.Refuse → met ≡ ArenaFull → new ≡ old

-- of the stops before and after
pub met_after : (w : WhenFull) (met : SetStop) (old new : SetState) (before after : Option SetStop) → before ≡ None
    → after ≡ stop_after w met → Refused w met old new
    → MetNow w (record old { stop = before }) (record new { stop = after }) met
met_after when.Stop met old new before after none is refused = is
met_after when.Refuse Memory old new before after none is refused = is
met_after when.Refuse ArenaFull old new before after none is refused =
    ap₂ (λ (set : SetState) (stop : Option SetStop). record set { stop = stop }) (refused refl refl) (is ∙ sym none)

-- a set that has no stop after it has refused the batch
continues_if : (w : WhenFull) (met : SetStop) → stop_after w met ≡ None → (w ≡ when.Refuse) × (met ≡ ArenaFull)
continues_if when.Stop met e = absurd (cc)
continues_if when.Refuse Memory e = absurd (cc)
continues_if when.Refuse ArenaFull e = (refl, refl)

-- and its parts are as they were
pub parts_after : (w : WhenFull) (met : SetStop) (old new : SetState) (last : ℤ) (before after : Option SetStop)
    → AreSetParts old last before → before ≡ None → after ≡ stop_after w met → Refused w met old new
    → (ws : List Write) × Remembers new ws → AreSetParts new last after
parts_after w met old new last before after parts none is refused remembers =
    let same = λ (e : after ≡ None). let how = continues_if w met (sym is ∙ e) in refused how.0 how.1 in
    record {
      resolved = λ e. ap (λ (set : SetState). set.resolved) (same e) ∙ parts.resolved none;
      continues = λ e. ap (λ (set : SetState). set.stop) (same e) ∙ parts.continues none;
      remembers = remembers;
    }

pub kept_or_stopped : (w : WhenFull) (met : SetStop) (old new : SetState) → MetNow w old new met
    → (new ≡ old) ⊎ (new.stop ≡ Some met)
kept_or_stopped when.Stop met old new h = inr h
kept_or_stopped when.Refuse Memory old new h = inr h
kept_or_stopped when.Refuse ArenaFull old new h = inl h
