-- Reading batch after batch.
use Rattle.std.proofs.Common.{List, [], ◌∷◌, ◌++◌, refl, ap, subst}
use Rattle.std.specs.Prelude.{Option}
use Rattle.keyspace.specs.declared.batch.Batch.{Batch}
use Rattle.wire.specs.declared.error.WireError.{WireError}
use Rattle.wire.specs.Batches.{GivesEach}
use Rattle.replay_workers.specs.Worker.{SendsBatches}

-- one batch more
pub gives_also : {X : Type 0} (Gives : X → X → Batch → Type 0) (old between new : X) (batches : List Batch) (batch : Batch)
    → GivesEach Gives old between batches → Gives between new batch → GivesEach Gives old new (batches ++ batch ∷ [])
gives_also Gives old between new [] batch given next =
    (new, subst (λ now. Gives now new batch) given next, refl)
gives_also Gives old between new (first ∷ rest) batch given next =
    (given.0, given.1, gives_also Gives given.0 between new rest batch given.2 next)

-- the same of a view of the states
module _ {X Y : Type 0} (view : X → Y) (Gives : X → X → Batch → Type 0) (Viewed : Y → Y → Batch → Type 0)
    (seen : (old new : X) (batch : Batch) → Gives old new batch → Viewed (view old) (view new) batch) where
  pub gives_seen : (first last : X) (batches : List Batch) → GivesEach Gives first last batches
      → GivesEach Viewed (view first) (view last) batches
  gives_seen first last [] same = ap view same
  gives_seen first last (batch ∷ rest) given =
      (view given.0, seen first given.0 batch given.1, gives_seen given.0 last rest given.2)

  pub sends_seen : (IsEnd : Y → Type 0) (IsFault : Y → WireError → Type 0) (first : X) (before now : List Batch)
      (fault : Option WireError) (unsent : Option Batch)
      → SendsBatches Gives (λ x. IsEnd (view x)) (λ x e. IsFault (view x) e) first before now fault unsent
      → SendsBatches Viewed IsEnd IsFault (view first) before now fault unsent
  sends_seen IsEnd IsFault first before now fault unsent sends = record {
    batches = sends.batches;
    left = view sends.left;
    sent = sends.sent;
    frames = gives_seen first sends.left _ sends.frames;
    all = sends.all;
    first_fault = sends.first_fault;
  }
