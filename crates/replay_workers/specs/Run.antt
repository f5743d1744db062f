-- A run, beside the reference resolver: what was read of each file, and what its proxy was answered. This project's
-- own.
use Rattle.std.specs.Prelude.{◌≡◌, ◌≢◌, ℕ, ◌<◌, ◌≤◌, ℤ, Bool, true, false, ◌&&◌, List, [], ◌∷◌, ◌++◌, length, Option, None, Some, IfSome, IsSomeAnd, slice_get}
use Rattle.std.specs.List.{All}
use Rattle.std.specs.Io.KnownBytes.{IsAtEnd}
use Rattle.keyspace.specs.declared.batch.Batch.{Batch}
use Rattle.keyspace.specs.Chain.{IsChain}
use Rattle.keyspace.specs.Processed.{Processed}
use Rattle.keyspace.specs.Run.{Step, run, answers, part}
use Rattle.serial.specs.Serial.{IsSerializable}
use Rattle.serial.specs.Replies.{IsCommittedAt, ReportsCommitted}
use Rattle.lane.specs.declared.port.TheConstants.{MAX_SENT}
use Rattle.wire.specs.declared.error.WireError.{WireError}
use Rattle.wire.specs.declared.error.WireError.TheVariants as wire
use Rattle.resolver.specs.declared.client.Client.{Client}
use Rattle.limits.specs.declared.stop.Stop.{Stop}
use Rattle.resolver.specs.declared.turn.Account.{Account}
use Rattle.resolver.specs.Core.{IsPrefix}
use Rattle.resolver.specs.Observed.{HasSeen}
use Rattle.resolver.specs.Resolver.{TakesOnlyFrom, FinishesLast}
use Rattle.replay_summary.specs.declared.occupancy.Occupancy.{Occupancy}
use Rattle.replay_output.specs.declared.failures.ProxyFailure.{ProxyFailure}
use Rattle.replay_output.specs.declared.options.style.Style.{Style}
use Rattle.replay_output.specs.declared.line.Line.{Line}
use Rattle.replay_output.specs.declared.options.Options.{Options}
use Rattle.replay_output.specs.declared.options.reports.Reports.{Reports}
use Rattle.replay_workers.specs.declared.outcome.RunOutcome.{RunOutcome}
use Rattle.replay_output.specs.Line.{answers_of, IsLineOf}
use Rattle.replay_workers.specs.Occupied.{IsOccupancyOf}
use Rattle.replay_workers.specs.Stops.{IsStopOf}
use Rattle.wire.specs.Batches.{GivesEach, EndsWith, IsFaultAt}
use Rattle.replay_workers.specs.Reporting.{TakesResolved}

-- every answer was taken, and every batch that was read was sent
abbrev pub is_complete : RunOutcome → Account → Bool
is_complete outcome account = account.complete && outcome.all_sent

-- the lanes of the client have this capacity
abbrev pub HasCapacity : ℕ → Client → Type 0
HasCapacity capacity client = (client.requests.capacity ≡ capacity) × (client.replies.capacity ≡ capacity)

-- the stream at the index is one that has given no more batches than this state
abbrev pub EndsAt : {X : Type 0} → (X → X → Type 0) → List X → ℕ → X → Type 0
EndsAt Stays ended proxy left = IsSomeAnd (slice_get ended proxy) (EndsWith Stays left)

-- Some stream gave a batch that the log doesn't take: it was the last that was given, and could not be sent, since its proxy's lane has
-- taken as many batches as a lane takes. The log holds these.
pub record LeavesBatchOver {X : Type 0} (Gives : X → X → Batch → Type 0) (streams : List X) (log : List Step) : Type 0 where
  pub proxy : ℕ
  pub first : X
  pub of_proxy : slice_get streams proxy ≡ Some first
  pub batch : Batch
  pub left : X
  pub read : GivesEach Gives first left (part log proxy ++ batch ∷ [])
  pub worn : MAX_SENT ≤ length (part log proxy)

module _ {X : Type 0} (Gives : X → X → Batch → Type 0) (IsEnd : X → Type 0) (IsFault : X → WireError → Type 0) where
  -- What became of one stream in this state, by whether the run is complete and the stop that it met: its batches and the lines of its
  -- proxy, beside those of the reference resolver. `Kept` is true of the state that is left.
  pub record IsServedOver (Kept : X → Type 0) (window : ℤ) (style : Style) (log : List Step) (complete : Bool) (stop : Option Stop)
      (first : X) (proxy : ℕ) (lines : List Line) (failure : ProxyFailure) : Type 0 where
    -- these batches were given, and the stream is left in this state
    pub read : List Batch
    pub left : X
    pub frames_read : GivesEach Gives first left read
    pub kept : Kept left
    -- the log holds them once, in order; all of them if all is complete, whatever fault the file has
    pub batches : IsPrefix (part log proxy) read
    pub all_batches : complete ≡ true → read ≡ part log proxy
    -- also all of them if no stop was met, unless the proxy's lane has taken as many batches as a lane takes
    pub all_unless_worn : stop ≡ None → length (part log proxy) < MAX_SENT → read ≡ part log proxy
    -- if the log holds all that was given, the stream ended, or at a fault
    pub all_read : read ≡ part log proxy → failure.fault ≡ None → IsEnd left
    -- a fault other than these two is that of what is left
    pub first_fault : IfSome failure.fault (λ e. e ≢ wire.Memory → e ≢ wire.Read → IsFault left e)
    -- the lines are those of the answers of the reference resolver, in order and once; of all where no stop was met and
    -- nothing was lost
    pub received : IsPrefix (answers_of lines) (answers window log proxy)
    pub all_received : stop ≡ None → failure.lost ≡ false → answers_of lines ≡ answers window log proxy
    -- whatever stop was met, the answers of the log without its last step are among them, unless something was lost
    pub all_before_last :
        failure.lost ≡ false → (before : List Step) (last : Step) → log ≡ before ++ last ∷ []
        → IsPrefix (answers window before proxy) (answers_of lines)
    -- a transaction that they report as committed is committed
    pub reported :
        (version : ℤ) (j : ℕ) → ReportsCommitted (answers_of lines) version j
        → IsCommittedAt (run window log).processed proxy version j
    pub lines_reported : All (IsLineOf style proxy) lines

  -- What became of all streams, beside one log of the reference resolver. `received` and `failures` are of each proxy, at its number, and
  -- `Kept` holds of its state at the end.
  pub record IsRunOver (Kept : ℕ → X → Type 0) (options : Options) (streams : List X) (received : List (List Line))
      (failures : List ProxyFailure) (complete : Bool) (stop : Option Stop) : Type 0 where
    pub log : List Step
    pub proxies : TakesOnlyFrom (length streams) log
    pub received_count : length received ≡ length streams
    pub failures_count : length failures ≡ length streams
    pub each :
        (proxy : ℕ) (first : X) (lines : List Line) (failure : ProxyFailure) →
        slice_get streams proxy ≡ Some first → slice_get received proxy ≡ Some lines →
        slice_get failures proxy ≡ Some failure →
        IsServedOver (Kept proxy) options.window options.style log complete stop first proxy lines failure
    -- what was processed follows the chain of versions
    pub chain : IsChain options.window (run options.window log).processed
    -- so what was committed can be run one transaction at a time, in the order of commit, and each reads what it has read
    pub serializable : IsSerializable (run options.window log).processed
    -- if no stop was met, no batch is left unanswered
    pub finish : stop ≡ None → FinishesLast log
    -- If all is complete, no stop was met. If neither is so, a lane has taken as many batches as a lane takes.
    pub no_stop : complete ≡ true → stop ≡ None
    pub incomplete : complete ≡ false → stop ≡ None → LeavesBatchOver Gives streams log
    -- the stop is that of the log
    pub met : IfSome stop (IsStopOf options.limit options.window log)

  -- What became of all streams, and an observer of which this is true has seen what is processed over the same log: all of it, unless a
  -- stop was met.
  pub record IsObservedRunOver (Kept : ℕ → X → Type 0) (Seen : List Processed → Type 0) (options : Options) (streams : List X)
      (received : List (List Line)) (failures : List ProxyFailure) (complete : Bool) (stop : Option Stop) : Type 0 where
    pub run : IsRunOver Kept options streams received failures complete stop
    pub seen : HasSeen Seen stop options.window run.log

  -- The same, and this is how full the resolver was over that log.
  pub record IsMeasuredRunOver (Kept : ℕ → X → Type 0) (Seen : List Processed → Type 0) (occupancy : Occupancy) (options : Options)
      (streams : List X) (received : List (List Line)) (failures : List ProxyFailure) (complete : Bool) (stop : Option Stop) : Type 0 where
    pub observed : IsObservedRunOver Kept Seen options streams received failures complete stop
    pub occupied : IsOccupancyOf stop options.limit options.window observed.run.log occupancy

-- The same of files whose readers reported these bytes, and of the batches that are resolved for those of their frames.

abbrev pub IsServed : Reports → ℤ → Style → List Step → Bool → Option Stop → Option (List ℕ) → ℕ → List Line → ProxyFailure → Type 0
IsServed reports = IsServedOver (TakesResolved reports) IsAtEnd IsFaultAt (λ _. Unit {0})

abbrev pub LeavesBatch : Reports → List (Option (List ℕ)) → List Step → Type 0
LeavesBatch reports = LeavesBatchOver (TakesResolved reports)

abbrev pub IsRun : Options → List (Option (List ℕ)) → List (List Line) → List ProxyFailure → Bool → Option Stop → Type 0
IsRun options = IsRunOver (TakesResolved options.reports) IsAtEnd IsFaultAt (λ _ _. Unit {0}) options

abbrev pub IsObservedRun : (List Processed → Type 0) → Options → List (Option (List ℕ)) → List (List Line) → List ProxyFailure → Bool
    → Option Stop → Type 0
IsObservedRun Seen options =
    IsObservedRunOver (TakesResolved options.reports) IsAtEnd IsFaultAt (λ _ _. Unit {0}) Seen options

abbrev pub IsMeasuredRun : (List Processed → Type 0) → Occupancy → Options → List (Option (List ℕ)) → List (List Line) → List ProxyFailure
    → Bool → Option Stop → Type 0
IsMeasuredRun Seen occupancy options =
    IsMeasuredRunOver (TakesResolved options.reports) IsAtEnd IsFaultAt (λ _ _. Unit {0}) Seen occupancy options
