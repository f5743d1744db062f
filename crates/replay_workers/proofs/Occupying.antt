-- How full a resolver is, from turn to turn.
use Rattle.std.specs.Prelude.{◌≡◌, ℕ, ◌≤◌, ℤ, pos, negsuc, ◌-ℤ◌, ◌≤ℤ◌, true, false, ◌++◌, min, max, List, [], ◌∷◌, length, take, Option, None, Some, IfSome, Result, Ok, Err, IfErr, OnOk, is_err}
use Rattle.std.specs.Int.{int_max}
use Rattle.std.proofs.Common.{refl, sym, ap, subst, ◌∙◌, inl, inr, append-nil, arith}
use Rattle.std.proofs.lemmas.Bool.{cases_lt, false≢true}
use Rattle.std.proofs.lemmas.List.{length_push, take-append-le, take_all, take_min}
use Rattle.keyspace.specs.Processed.{Processed, version_of}
use Rattle.keyspace.specs.Run.{Step, Take, Finish, run}
use Rattle.limits.specs.declared.stop.Stop.{Stop}
use Rattle.resolver.specs.declared.turn.Turn.{Turn}
use Rattle.stepmap.specs.StepMap.{AreSteps}
use Rattle.resolver.specs.Core.{IsIn, RemembersWindow}
use Rattle.resolver.specs.Lanes.{sent_to}
use Rattle.resolver.specs.Observed.{HasSeen, Observes}
use Rattle.resolver.specs.Resolver.{ResolverState, StandsOver, TakesFrom, Finishes, TakesNoStep}
use Rattle.resolver.specs.Turns.{Turns}
use Rattle.resolver.proofs.callers.Standing.{IsIn-standing}
use Rattle.replay_summary.specs.declared.occupancy.Occupancy.{Occupancy}
use Rattle.replay_summary.specs.Occupancy.{occupancy_after}
use Rattle.replay_workers.specs.Occupied.{HasBoundaries, IsGreatestHeld, IsMeasured, IsOccupancyOf, IsOccupancyOver}
use Rattle.replay_workers.specs.Stops.{IsStopOf}
use Rattle.replay_workers.proofs.callers.Stopping.{IsAccountedWith, after_turn}

-- A number after some of the first steps of a log, and one after all of it: the greater one is that after some of them too.
greater_in : (Is : List Step → ℕ → Type 0) (log : List Step) (steps most now : ℕ) → Is (take steps log) most → Is log now
    → (n : ℕ) × Is (take n log) (max most now)
greater_in Is log steps most now first last = elim (cases_lt most now) [
  | inl less ↦
      let greater : now ≡ max most now = omega (arith, less) in
      let all : log ≡ take (length log) log = sym (take_all (length log) log (omega arith)) in
      (length log, subst (λ (n : ℕ). Is (take (length log) log) n) greater (subst (λ (l : List Step). Is l now) all last))
  | inr no_less ↦
      let greater : most ≡ max most now = omega (arith, no_less) in
      (steps, subst (λ (n : ℕ). Is (take steps log) n) greater first)
]

-- the first steps of a log are also those of a longer one
first_of_longer : (Is : List Step → ℕ → Type 0) (log more : List Step) (steps most : ℕ) → Is (take steps log) most
    → Is (take (min steps (length log)) (log ++ more)) most
first_of_longer Is log more steps most first =
    let same : take (min steps (length log)) (log ++ more) ≡ take steps log =
    take-append-le (min steps (length log)) log more (omega arith) ∙ take_min steps log in
    subst (λ (l : List Step). Is l most) (sym same) first

-- that many batches are held at the end of the log
abbrev Holds : ℤ → List Step → ℕ → Type 0
Holds window log count = length (run window log).held ≡ count

-- a log with one step more
greatest_more : (window : ℤ) (log : List Step) (x : Step) (most now : ℕ) → IsGreatestHeld window log most
    → Holds window (log ++ x ∷ []) now → IsGreatestHeld window (log ++ x ∷ []) (max most now)
greatest_more window log x most now before here =
    let longer = log ++ x ∷ [] in
    let at_end : length (run window longer).held ≡ now = here in
    let last : length (run window longer).held ≤ max most now = omega (arith, at_end) in
    let at = greater_in (Holds window) longer (min before.steps (length log)) most now
    (first_of_longer (Holds window) log (x ∷ []) before.steps most before.reached) here in
    record {
      none_more = λ n. elim (cases_lt (length log) n) [
        | inl beyond ↦
            let all : take n longer ≡ longer = take_all n longer (omega (arith, beyond, length_push log x)) in
            subst (λ (l : List Step). length (run window l).held ≤ max most now) (sym all) last
        | inr within ↦
            let first : take n longer ≡ take n log = take-append-le n log (x ∷ []) within in
            let earlier : length (run window (take n log)).held ≤ max most now = omega (arith, before.none_more n) in
            subst (λ (l : List Step). length (run window l).held ≤ max most now) (sym first) earlier
      ];
      steps = at.0;
      reached = at.1;
    }

-- the same log, once more
greatest_again : (window : ℤ) (log : List Step) (most now : ℕ) → IsGreatestHeld window log most → Holds window log now
    → IsGreatestHeld window log (max most now)
greatest_again window log most now before here =
    let at_end : length (run window log).held ≡ now = here in
    let all : take (length log) log ≡ log = take_all (length log) log (omega arith) in
    let least : length (run window log).held ≤ most =
    subst (λ (l : List Step). length (run window l).held ≤ most) all (before.none_more (length log)) in
    let greater : most ≡ max most now = omega (arith, at_end, least) in
    subst (λ (n : ℕ). IsGreatestHeld window log n) greater before

module _ (limit : ℕ) (window : ℤ) (log : List Step) (before : Occupancy) (held boundaries : ℕ) (over : IsOccupancyOver limit window log before)
    (within : boundaries ≤ limit) where
  at_most : boundaries ≤ max before.most_boundaries boundaries
  at_most = omega arith

  no_more : max before.most_boundaries boundaries ≤ limit
  no_more = omega (arith, over.within, within)

  abbrev HasFew : List Step → Type 0
  HasFew l = (count : ℕ) × HasBoundaries limit window l count × (count ≤ max before.most_boundaries boundaries)

  few_before : (n : ℕ) → HasFew (take n log)
  few_before n =
      let was = over.none_more n in
      let still : was.0 ≤ max before.most_boundaries boundaries = omega (arith, was.2) in
      (was.0, was.1, still)

  few_after : (x : Step) → HasBoundaries limit window (log ++ x ∷ []) boundaries → (n : ℕ) → HasFew (take n (log ++ x ∷ []))
  few_after x has n = elim (cases_lt (length log) n) [
    | inl beyond ↦
        let all : take n (log ++ x ∷ []) ≡ log ++ x ∷ [] = take_all n (log ++ x ∷ []) (omega (arith, beyond, length_push log x)) in
        subst HasFew (sym all) (boundaries, has, at_most)
    | inr no_more ↦
        let first : take n (log ++ x ∷ []) ≡ take n log = take-append-le n log (x ∷ []) no_more in
        subst HasFew (sym first) (few_before n)
  ]

  -- noted after one step more
  noted_more : (x : Step) → Holds window (log ++ x ∷ []) held → HasBoundaries limit window (log ++ x ∷ []) boundaries
      → IsOccupancyOver limit window (log ++ x ∷ []) (occupancy_after held boundaries before)
  noted_more x holds has =
      let at = greater_in (HasBoundaries limit window) (log ++ x ∷ []) (min over.steps (length log)) before.most_boundaries boundaries
      (first_of_longer (HasBoundaries limit window) log (x ∷ []) over.steps before.most_boundaries over.most_boundaries) has in
      record {
        held = greatest_more window log x before.most_held held over.held holds;
        boundaries = has;
        steps = at.0;
        most_boundaries = at.1;
        none_more = few_after x has;
        at_most = at_most;
        within = no_more;
      }

  -- noted again, after no step
  noted_again : Holds window log held → HasBoundaries limit window log boundaries
      → IsOccupancyOver limit window log (occupancy_after held boundaries before)
  noted_again holds has =
      let at = greater_in (HasBoundaries limit window) log over.steps before.most_boundaries boundaries over.most_boundaries has in
      record {
        held = greatest_again window log before.most_held held over.held holds;
        boundaries = has;
        steps = at.0;
        most_boundaries = at.1;
        none_more = few_before;
        at_most = at_most;
        within = no_more;
      }

-- the resolver represents this log, and met no stop
module _ (limit : ℕ) (window : ℤ) (r : ResolverState) (limit_is : r.core.set.map.limit ≡ limit) (window_is : r.core.set.window ≡ window)
    (none : r.core.stop ≡ None) (log : List Step) (stands : StandsOver r log) (steps : AreSteps r.core.set.map)
    (reaches : RemembersWindow r.core) where
  state : IsIn (run window log) (sent_to r.lanes) r.core
  state =
      subst (λ (w : ℤ). IsIn (run w log) (sent_to r.lanes) r.core) window_is
      (IsIn-standing r.core.stop log (sent_to r.lanes) r.core none stands.core)

  -- what it holds
  holds_of : Holds window log (length r.core.held)
  holds_of = ap length (sym state.held)

  -- and the boundaries of its conflict set
  boundaries_of : HasBoundaries limit window log (length r.core.set.map.boundaries)
  boundaries_of = record {
    set = r.core.set;
    steps = steps;
    edge =
        subst (λ (w : ℤ). r.core.set.map.edge ≤ℤ int_max (version_of (run window log).processed -ℤ w) (pos 0)) window_is
        (subst (λ (v : ℤ). r.core.set.map.edge ≤ℤ int_max (v -ℤ r.core.set.window) (pos 0)) state.version (reaches none));
    remembers = state.remembers;
    limit_is = limit_is;
    count_is = refl;
  }

-- an error is a stop that was met, and a turn without an error met none
pub stopped_if : {P : Type 0} (result : Result Turn Stop) (now : Option Stop) → is_err result ≡ true
    → IfErr result (λ met. now ≡ Some met) → now ≡ None → P
stopped_if (Ok did) now failed met none = absurd (false≢true failed)
stopped_if (Err stop) now failed met none =
    let both : ◌≡◌ {A = Option Stop} None (Some stop) = sym none ∙ met in
    cc

pub unstopped_if : {P : Type 0} (result : Result Turn Stop) (now : Option Stop) → is_err result ≡ false → OnOk result (now ≡ None)
    → (stop : Stop) → now ≡ Some stop → P
unstopped_if (Ok did) now succeeded none stop is =
    let both : ◌≡◌ {A = Option Stop} None (Some stop) = sym none ∙ is in
    cc
unstopped_if (Err met) now succeeded none stop is = absurd (false≢true (sym succeeded))

no_last : (before : List Step) (last : Step) → [] ≡ before ++ last ∷ [] → ⊥
no_last [] last is = absurd (omega (arith, ap length is))
no_last (first ∷ before) last is = absurd (omega (arith, ap length is))

-- a resolver that has taken nothing, and an observer that has seen nothing
pub measured_new : (Seen : List Processed → Type 0) (r : ResolverState) → StandsOver r [] → r.core.stop ≡ None → Seen []
    → AreSteps r.core.set.map → RemembersWindow r.core → (count : ℕ) → count ≡ length r.core.set.map.boundaries → count ≤ r.core.set.map.limit
    → IsMeasured Seen (record { most_held = 0; boundaries = count; most_boundaries = count }) r
measured_new Seen r stands none seen steps reaches count count_is within =
    let window = r.core.set.window in
    let limit = r.core.set.map.limit in
    let has : HasBoundaries limit window [] count =
    subst (HasBoundaries limit window []) (sym count_is) (boundaries_of limit window r refl refl none [] stands steps reaches) in
    let occupancy : Occupancy = record { most_held = 0; boundaries = count; most_boundaries = count } in
    let nothing : length (run window []).held ≡ 0 = refl in
    let none_held : length (run window []).held ≤ 0 = omega (arith, nothing) in
    let over : IsOccupancyOver limit window [] occupancy = record {
      held = record {
        none_more = λ n. subst (λ (l : List Step). length (run window l).held ≤ 0) (sym (take_all n [] (omega arith))) none_held;
        steps = 0;
        reached = refl;
      };
      boundaries = has;
      steps = 0;
      most_boundaries = has;
      none_more = λ n. subst (λ (l : List Step). (c : ℕ) × HasBoundaries limit window l c × (c ≤ count)) (sym (take_all n [] (omega arith)))
          (count, has, omega arith);
      at_most = omega arith;
      within = within;
    } in
    record {
      log = [];
      stands = stands;
      met = subst (λ (stop : Option Stop). IfSome stop (IsStopOf limit window [])) (sym none) tt;
      seen = record {
        list = [];
        seen = seen;
        no_others = ([], refl);
        all = λ _. refl;
        all_before_last = λ before last is. absurd (no_last before last is);
      };
      occupied = subst (λ (stop : Option Stop). IsOccupancyOf stop limit window [] occupancy) (sym none) over;
    }

-- What an observer has seen of the log before a turn and after it, and how full the resolver was. It is noted after a turn that met no stop.
module _ (old new : ResolverState) (result : Result Turn Stop) (turns : Turns result old new) (Before After : List Processed → Type 0)
    (taken : (proxy : ℕ) (took : TakesFrom proxy old new) → Observes Before After old new (Take proxy took.batch ∷ []))
    (finish : Finishes old new → Observes Before After old new (Finish ∷ []))
    (nothing : TakesNoStep old new → Observes Before After old new []) (before after : Occupancy)
    (notes : new.core.stop ≡ None → (after ≡ occupancy_after (length new.core.held) (length new.core.set.map.boundaries) before)
    × (length new.core.set.map.boundaries ≤ new.core.set.map.limit) × AreSteps new.core.set.map × RemembersWindow new.core)
    (keeps : (stop : Stop) → new.core.stop ≡ Some stop → after ≡ before) where
  abbrev window : ℤ
  window = old.core.set.window

  abbrev limit : ℕ
  limit = old.core.set.map.limit

  abbrev Saw : List Step → Type 0
  Saw log = HasSeen Before old.core.stop window log × IsOccupancyOf old.core.stop limit window log before

  abbrev Sees : List Step → Type 0
  Sees log = HasSeen After new.core.stop window log × IsOccupancyOf new.core.stop limit window log after

  window_is : new.core.set.window ≡ window
  window_is = turns.steps.continues.window

  limit_is : new.core.set.map.limit ≡ limit
  limit_is = turns.steps.continues.limit

  abbrev count : ℕ
  count = length new.core.set.map.boundaries

  within : new.core.stop ≡ None → count ≤ limit
  within is = omega (arith, (notes is).1, limit_is)

  -- a step was taken, and a stop met in it or none
  stepped : (log : List Step) (x : Step) → StandsOver new (log ++ x ∷ []) → IsOccupancyOver limit window log before
      → (stop : Option Stop) → new.core.stop ≡ stop → IsOccupancyOf stop limit window (log ++ x ∷ []) after
  stepped log x stands over None is =
      let longer = log ++ x ∷ [] in
      subst (λ (o : Occupancy). IsOccupancyOver limit window longer o) (sym (notes is).0)
      (noted_more limit window log before (length new.core.held) count over (within is) x
      (holds_of limit window new limit_is window_is is longer stands (notes is).2 (notes is).3)
      (boundaries_of limit window new limit_is window_is is longer stands (notes is).2 (notes is).3))
  stepped log x stands over (Some stop) is = record {
    before = log;
    last = x;
    log_is = refl;
    over = subst (λ (o : Occupancy). IsOccupancyOver limit window log o) (sym (keeps stop is)) over;
  }

  -- no step was taken
  rested : (log : List Step) → StandsOver new log → (stop : Option Stop) → new.core.stop ≡ stop
      → IsOccupancyOf stop limit window log before → IsOccupancyOf stop limit window log after
  rested log stands None is over =
      subst (λ (o : Occupancy). IsOccupancyOver limit window log o) (sym (notes is).0)
      (noted_again limit window log before (length new.core.held) count over (within is)
      (holds_of limit window new limit_is window_is is log stands (notes is).2 (notes is).3)
      (boundaries_of limit window new limit_is window_is is log stands (notes is).2 (notes is).3))
  rested log stands (Some stop) is occupied =
      subst (λ (o : Occupancy). IsOccupancyOf (Some stop) limit window log o) (sym (keeps stop is)) occupied

  unstopped_over : old.core.stop ≡ None → (log : List Step) → IsOccupancyOf old.core.stop limit window log before
      → IsOccupancyOver limit window log before
  unstopped_over was log occupied = subst (λ (stop : Option Stop). IsOccupancyOf stop limit window log before) was occupied

  pub measured_turn : IsMeasured Before before old → IsMeasured After after new
  measured_turn m =
      let also : IsAccountedWith Sees new =
      after_turn old new turns.steps.continues Saw Sees
      (λ was proxy took log stands saw. (
        taken proxy took (negsuc 0) log stands saw.0,
        stepped log (Take proxy took.batch) (took.adds (negsuc 0) log stands) (unstopped_over was log saw.1) new.core.stop refl,
      ))
      (λ was step log stands saw. (
        finish step (negsuc 0) log stands saw.0,
        stepped log Finish (step.adds (negsuc 0) log stands) (unstopped_over was log saw.1) new.core.stop refl,
      ))
      (λ same step log stands saw. (
        subst (HasSeen After new.core.stop window) (append-nil log) (nothing step (negsuc 0) log stands saw.0),
        rested log (step.adds (negsuc 0) log stands) new.core.stop refl
            (subst (λ (stop : Option Stop). IsOccupancyOf stop limit window log before) (sym same) saw.1),
      ))
      result turns
      (record { log = m.log; stands = m.stands; met = m.met; also = (m.seen, m.occupied) }) in
      record {
        log = also.log;
        stands = also.stands;
        met = also.met;
        seen = subst (λ (w : ℤ). HasSeen After new.core.stop w also.log) (sym window_is) also.also.0;
        occupied =
            subst (λ (w : ℤ). IsOccupancyOf new.core.stop new.core.set.map.limit w also.log after) (sym window_is)
            (subst (λ (l : ℕ). IsOccupancyOf new.core.stop l window also.log after) (sym limit_is) also.also.1);
      }
