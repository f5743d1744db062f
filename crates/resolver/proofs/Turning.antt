-- A step, after which answers are handed out and reply lanes closed.
use Rattle.std.proofs.Common.{◌≡◌, ◌≢◌, ℕ, ◌+◌, ◌<◌, Bool, true, false, List, [], ◌∷◌, ◌++◌, length, Option, Some, None, Result, Ok, Err, sym, ap, subst, ◌∙◌, refl, inl, inr, arith}
use Rattle.std.specs.Prelude.{ℤ, ◌⊎◌, ◌↔◌, is_some, IfSome, IfNone, slice_get}
use Rattle.std.proofs.lemmas.Bool.{true≢false}
use Rattle.std.proofs.lemmas.Option.{slice_get_cases, slice_get_past, none-some}
use Rattle.keyspace.specs.declared.answer.Answer.{Answer}
use Rattle.keyspace.specs.Processed.{Processed}
use Rattle.keyspace.specs.Run.{State, Step, Take, Finish, run}
use Rattle.lane.specs.Lane.{PortContinues, IntakeContinues}
use Rattle.resolver.specs.Owed.{owed_to, owed_count}
use Rattle.conflict.specs.ConflictSet.{SetState}
use Rattle.resolver.specs.Core.{CoreState, Continues, StopsAtLimit}
use Rattle.keyspace.specs.declared.batch.Batch.{Batch}
use Rattle.resolver.proofs.DeliveredAnswers.{StopsAtLimit-moved}
use Rattle.resolver.specs.Lanes.{Lanes, Each, LanesContinue, taken_from, sent_to, all_ended, IsLookedThrough, ComesBefore, IsFull}
use Rattle.resolver.specs.Resolver.{ResolverState, StandsOverFrom, IsThrough, TakesFrom, Finishes, TakesNoStep, StepsFor, taken_by}
use Rattle.resolver.specs.Turns.{TurnSteps}
use Rattle.resolver.specs.OpeningLog.{log_from}
use Rattle.resolver.specs.Observed.{HasSeen, Observes, ObservesStep}
use Rattle.resolver.specs.declared.turn.Turn.{Turn}
use Rattle.resolver.specs.declared.turn.Turn.TheVariants as turn
use Rattle.limits.specs.declared.stop.Stop.{Stop}
use Rattle.resolver.specs.Parts.{Parts, AreParts, resolver_of}
use Rattle.resolver.proofs.AtIndex.{field_same, both_at, lanes_at}
use Rattle.resolver.proofs.DeliveryStep.{IsDelivery, list_all-same}
use Rattle.resolver.proofs.Closing.{ClosedOver}

-- one change after another
pub Each-then : (P Q R : ℕ → Lanes → Lanes → Type 0) {old mid new : List Lanes}
    → ((p : ℕ) (l m n : Lanes) → P p l m → Q p m n → R p l n) → Each P old mid → Each Q mid new → Each R old new
Each-then P Q R {old} {mid} {new} then e f = record {
  count = f.count ∙ e.count;
  each = λ p l n at_old at_new.
      elim (both_at old mid e.count p) [
        | inl both ↦ then p l both.1 n (e.each p l both.1 at_old both.3) (f.each p both.1 n both.3 at_new)
        | inr past ↦ absurd (none-some l (sym (slice_get_past old p past.0) ∙ at_old))
      ];
}

-- the lanes of a proxy, after answers were handed out and the reply lane perhaps closed
pub record AnswersLane (owed : List Answer) (old new : Lanes) : Type 0 where
  pub requests : new.requests ≡ old.requests
  pub ended : new.ended ≡ old.ended
  pub replies : PortContinues old.replies new.replies
  pub full : owed ≢ [] → IsFull old new

pub record AnswersOver (old new : ResolverState) : Type 0 where
  pub stands : (version : ℤ) (log : List Step) → StandsOverFrom version old log → StandsOverFrom version new log
  pub stop : new.core.stop ≡ old.core.stop
  pub lanes : Each (λ p l m. AnswersLane (owed_to p new.core.owed) l m) old.lanes new.lanes

-- once it was handed out and then closed
closed_lane : (owed : List Answer) (l m n : Lanes) → (owed ≢ [] → IsFull l m)
    → (m ≡ record l { replies = m.replies }) × PortContinues l.replies m.replies
    → n ≡ record m { replies = record m.replies { closed = n.replies.closed } } → AnswersLane owed l n
closed_lane owed l m n full delivered closed = record {
  requests = ap (λ (x : Lanes). x.requests) closed ∙ ap (λ (x : Lanes). x.requests) delivered.0;
  ended = ap (λ (x : Lanes). x.ended) closed ∙ ap (λ (x : Lanes). x.ended) delivered.0;
  replies = subst (λ (x : Lanes). PortContinues l.replies x.replies) (sym closed) (record {
    lane = delivered.1.lane;
    capacity = delivered.1.capacity;
    seen_taken = delivered.1.seen_taken;
    looks = delivered.1.looks;
  });
  full = λ some. subst (IsFull l) (sym closed) (full some);
}

pub answers_over : (old mid new : ResolverState) → IsDelivery old mid → ClosedOver mid new → AnswersOver old new
answers_over old mid new h k = record {
  stands = λ version log s. k.stands version log (h.stands version log s);
  stop = ap (λ c. c.stop) k.core ∙ h.same.stop;
  lanes =
      Each-then
      (λ p l m. (owed_to p new.core.owed ≢ [] → IsFull l m)
      × ((m ≡ record l { replies = m.replies }) × PortContinues l.replies m.replies))
      (λ _ l m. m ≡ record l { replies = record l.replies { closed = m.replies.closed } })
      (λ p l m. AnswersLane (owed_to p new.core.owed) l m)
      (λ p l m n a b. closed_lane (owed_to p new.core.owed) l m n a.0 a.1 b)
      (record {
        count = h.lanes.count;
        each = λ p l m at_old at_new. (
          λ some. h.owed.each p l m at_old at_new
              (λ none. some (ap (λ c. owed_to p c.owed) k.core ∙ none)),
          h.lanes.each p l m at_old at_new,
        );
      })
      k.lanes;
}

module _ (mid new : ResolverState) (a : AnswersOver mid new) where
  pub none_taken : (p : ℕ) → taken_from new.lanes p ≡ taken_from mid.lanes p
  none_taken =
      field_same (λ (l : Lanes). l.requests.taken) mid.lanes new.lanes a.lanes.count
      (λ p l m at_old at_new. ap (λ r. r.taken) (a.lanes.each p l m at_old at_new).requests)

  pub ended_same : all_ended new.lanes ≡ all_ended mid.lanes
  ended_same =
      list_all-same (λ l. l.ended) mid.lanes new.lanes a.lanes.count
      (λ p l m at_old at_new. (a.lanes.each p l m at_old at_new).ended)

-- what was said of the step holds once answers were handed out and lanes closed
module _ {old mid given new : ResolverState} (h : IsDelivery mid given) (k : ClosedOver given new) where
  abbrev pub TakesFrom-on : (proxy : ℕ) → TakesFrom proxy old mid → TakesFrom proxy old new
  TakesFrom-on proxy t =
      let a = answers_over mid given new h k in
      record {
        known = t.known;
        batch = t.batch;
        taken = λ other. none_taken mid new a other ∙ t.taken other;
        adds = λ version log s. a.stands version (log ++ Take proxy t.batch ∷ []) (t.adds version log s);
      }

  pub Finishes-on : Finishes old mid → Finishes old new
  Finishes-on f =
      let a = answers_over mid given new h k in
      record {
        before = f.before;
        after = ended_same mid new a ∙ f.after;
        taken = λ p. none_taken mid new a p ∙ f.taken p;
        adds = λ version log s. a.stands version (log ++ Finish ∷ []) (f.adds version log s);
      }

  pub TakesNoStep-on : TakesNoStep old mid → TakesNoStep old new
  TakesNoStep-on n =
      let a = answers_over mid given new h k in
      record {
        ended = ended_same mid new a ∙ n.ended;
        taken = λ p. none_taken mid new a p ∙ n.taken p;
        adds = λ version log s. a.stands version log (n.adds version log s);
      }

-- and so does what the observer has seen, which sees nothing of it
module _ {old mid given new : ResolverState} (h : IsDelivery mid given) (k : ClosedOver given new)
    {before after : List Processed → Type 0} (sees : ObservesStep before after old mid) where
  seen_on : (steps : List Step) → Observes before after old mid steps → Observes before after old new steps
  seen_on steps observes version log s seen =
      subst (λ stop. HasSeen after stop old.core.set.window (log_from version (length old.lanes) (log ++ steps)))
      (sym (answers_over mid given new h k).stop) (observes version log s seen)

  taken_before : (p : ℕ) → taken_from mid.lanes p ≡ taken_from new.lanes p
  taken_before p = sym (none_taken mid new (answers_over mid given new h k) p)

  ended_before : all_ended mid.lanes ≡ all_ended new.lanes
  ended_before = sym (ended_same mid new (answers_over mid given new h k))

  pub sees_taken_on : (proxy : ℕ) (took : TakesFrom proxy old new)
      → Observes before after old new (Take proxy took.batch ∷ [])
  sees_taken_on proxy took =
      seen_on (Take proxy took.batch ∷ [])
      (sees.taken proxy took.batch (λ other. taken_before other ∙ took.taken other))

  pub sees_finish_on : Finishes old new → Observes before after old new (Finish ∷ [])
  sees_finish_on f =
      seen_on (Finish ∷ []) (sees.finish f.before (ended_before ∙ f.after) (λ p. taken_before p ∙ f.taken p))

  pub sees_nothing_on : TakesNoStep old new → Observes before after old new []
  sees_nothing_on n = seen_on [] (sees.nothing (ended_before ∙ n.ended) (λ p. taken_before p ∙ n.taken p))

module _ {before : List Lanes} {mid given new : ResolverState} (h : IsDelivery mid given) (k : ClosedOver given new) where
  -- what was looked through
  pub looked_on : (Which : ℕ → Type 0) → Each (λ p l m. Which p → IsLookedThrough l m) before mid.lanes
      → Each (λ p l m. Which p → IsLookedThrough l m) before new.lanes
  looked_on Which looked =
      Each-then (λ p l m. Which p → IsLookedThrough l m) (λ p l m. AnswersLane (owed_to p new.core.owed) l m)
      (λ p l m. Which p → IsLookedThrough l m)
      (λ p l m n first then which.
      elim (first which) [
        | inl ended ↦ inl (then.ended ∙ ended)
        | inr seen ↦
            inr (subst (λ r. (l.requests.looks < r.looks) × (length r.taken ≡ r.seen_sent)) (sym then.requests) seen)
      ])
      looked (answers_over mid given new h k).lanes

  pub full_on : Each (λ _ l m. m.replies ≡ l.replies) before mid.lanes
      → Each (λ p l m. owed_to p new.core.owed ≢ [] → IsFull l m) before new.lanes
  full_on same =
      Each-then (λ _ l m. m.replies ≡ l.replies) (λ p l m. AnswersLane (owed_to p new.core.owed) l m)
      (λ p l m. owed_to p new.core.owed ≢ [] → IsFull l m)
      (λ p l m n first then some.
      elim (then.full some) [
        | inl worn ↦ inl worn
        | inr full ↦ inr (omega (arith, ap (λ r. r.looks) first, full.0), full.1)
      ])
      same (answers_over mid given new h k).lanes

  pub lanes_on : Each (λ _ l m. LanesContinue l m) before mid.lanes → Each (λ _ l m. LanesContinue l m) before new.lanes
  lanes_on continued =
      Each-then (λ _ l m. LanesContinue l m) (λ p l m. AnswersLane (owed_to p new.core.owed) l m)
      (λ _ l m. LanesContinue l m)
      (λ p l m n first then. record {
        requests = subst (IntakeContinues l.requests) (sym then.requests) first.requests;
        replies = record {
          lane = then.replies.lane ∙ first.replies.lane;
          capacity = then.replies.capacity ∙ first.replies.capacity;
          seen_taken = omega (arith, then.replies.seen_taken, first.replies.seen_taken);
          looks = omega (arith, then.replies.looks, first.replies.looks);
        };
        ended = λ was. then.ended ∙ first.ended was;
      })
      continued (answers_over mid given new h k).lanes

-- of all lanes
pub all_looked_on : {before : List Lanes} {mid given new : ResolverState} → IsDelivery mid given → ClosedOver given new
    → Each (λ _ l m. IsLookedThrough l m) before mid.lanes → Each (λ _ l m. IsLookedThrough l m) before new.lanes
all_looked_on h k looked =
    let on = looked_on h k (λ _. Unit {0}) (record { count = looked.count; each = λ p l m was is _. looked.each p l m was is }) in
    record { count = on.count; each = λ p l m was is. on.each p l m was is tt }

-- a stop that was met before the turn
pub stopped_on : {old mid given new : ResolverState} → IsDelivery mid given → ClosedOver given new → mid ≡ old
    → TakesNoStep old new
stopped_on {old} {mid} h k same =
    TakesNoStep-on h k
    (subst (λ r. TakesNoStep old r) (sym same) (record { ended = refl; taken = λ p. refl; adds = λ version log s. s }))

-- a stop that was met in the turn
pub stop_met_on : {old mid given new : ResolverState} → IsDelivery mid given → ClosedOver given new
    → (old.core.stop ≡ None → ((proxy : ℕ) × TakesFrom proxy old mid) ⊎ Finishes old mid)
    → old.core.stop ≡ None → ((proxy : ℕ) × TakesFrom proxy old new) ⊎ Finishes old new
stop_met_on h k met running =
    elim (met running) [
      | inl took ↦ inl (took.0, TakesFrom-on h k took.0 took.1)
      | inr finishes ↦ inr (Finishes-on h k finishes)
    ]

-- what a turn answers, by what the step has taken and whether the reply lanes are closed
abbrev pub reported_turn : Option ℕ → Bool → Turn
reported_turn (Some proxy) closed = turn.Took proxy
reported_turn None true = turn.Done
reported_turn None false = turn.Idle

taken-reported : (taken : Option ℕ) (closed : Bool) → taken_by (reported_turn taken closed) ≡ taken
taken-reported (Some proxy) closed = refl
taken-reported None true = refl
taken-reported None false = refl

-- or by the stop that it met
abbrev pub answered : Bool → Result (Option ℕ) Stop → Result Turn Stop
answered closed (Ok taken) = Ok (reported_turn taken closed)
answered closed (Err met) = Err met

pub done-reported : (taken : Option ℕ) (closed : Bool) → reported_turn taken closed ≡ turn.Done → (taken ≡ None) × (closed ≡ true)
done-reported (Some other) closed is = cc
done-reported None true is = (refl, refl)
done-reported None false is = cc

-- the reply lanes are closed where the resolver is through
pub closed_by : (parts : Parts) (new : ResolverState) → AreParts parts → resolver_of parts ≡ new
    → ((p : ℕ) (l : Lanes) → slice_get new.lanes p ≡ Some l → (l.replies.closed ≡ true) ↔ IsThrough new)
    → IsThrough new → parts.closed ≡ true
closed_by parts new are is closed through =
    elim (slice_get_cases parts.all_lanes 0).1 [
      | inl k ↦
          let at = lanes_at parts.all_lanes 0 k.0 k.2 in
          sym (are.closed 0 k.0.lanes at)
          ∙ (closed 0 k.0.lanes (ap (λ (r : ResolverState). slice_get r.lanes 0) (sym is) ∙ at)).1 through
      | inr past ↦ absurd (omega (arith, past.0, are.some))
    ]

none_taken_where : (taken : Option ℕ) → ((proxy : ℕ) → taken ≡ Some proxy → ⊥) → taken ≡ None
none_taken_where None not = refl
none_taken_where (Some proxy) not = absurd (not proxy refl)

-- when a turn answers that all is done
module _ (mid new : ResolverState) (a : AnswersOver mid new) (taken : Option ℕ) (closed : Bool)
    (running : mid.core.stop ≡ None) where
  pub done_means : (closed ≡ true → IsThrough new) → reported_turn taken closed ≡ turn.Done
      → (all_ended new.lanes ≡ true) × (owed_count new.core.owed ≡ 0)
  done_means through is =
      let ends = through (done-reported taken closed is).1 in (
        elim ends.no_more [
          | inl ended ↦ ended
          | inr stopped ↦ absurd (true≢false (sym stopped ∙ ap is_some (a.stop ∙ running)))
        ],
        ends.nothing_owed,
      )

  pub done_where : (IsThrough new → closed ≡ true) → ((proxy : ℕ) → taken ≡ Some proxy → all_ended mid.lanes ≡ false)
      → (all_ended new.lanes ≡ true) × (owed_count new.core.owed ≡ 0) → reported_turn taken closed ≡ turn.Done
  done_where through still_open both =
      let is_closed = through (record { nothing_owed = both.1; no_more = inl both.0 }) in
      let none : taken ≡ None = none_taken_where taken (λ proxy is.
      true≢false (sym both.0 ∙ ended_same mid new a ∙ still_open proxy is)) in
      rw (none, is_closed) refl

-- the conflict set and the batch at which the core stopped are the same once answers were handed out and lanes closed
module _ {mid given new : ResolverState} (h : IsDelivery mid given) (k : ClosedOver given new) where
  pub same_set : new.core.set ≡ mid.core.set
  same_set = ap (λ (c : CoreState). c.set) k.core ∙ ap (λ (b : CoreState). b.set) h.same.core

  sent_same : (p : ℕ) → sent_to new.lanes p ≡ sent_to given.lanes p
  sent_same =
      field_same (λ (l : Lanes). l.replies.sent) given.lanes new.lanes k.lanes.count
      (λ p l m at_old at_new. ap (λ (x : Lanes). x.replies.sent) (k.lanes.each p l m at_old at_new))

  pub stops_on : (limit : ℕ) (window : ℤ) (proxy : ℕ) (batch : Batch) (state : State)
      → StopsAtLimit limit window proxy batch state (sent_to mid.lanes) mid.core
      → StopsAtLimit limit window proxy batch state (sent_to new.lanes) new.core
  stops_on limit window proxy batch state stops =
      subst (λ (c : CoreState). StopsAtLimit limit window proxy batch state (sent_to new.lanes) c) (sym k.core)
      (subst (StopsAtLimit limit window proxy batch state (sent_to new.lanes)) (sym h.same.core)
      (StopsAtLimit-moved (sent_to mid.lanes) (sent_to new.lanes) mid.core given.core.owed h.same.proxies
      (λ p inside. ap (λ xs. xs ++ owed_to p given.core.owed) (sent_same p) ∙ h.made p) limit window proxy batch
      state stops))

if_some : (P Q : ℕ → Type 0) → ((n : ℕ) → P n → Q n) → (o : Option ℕ) → IfSome o P → IfSome o Q
if_some P Q f None p = p
if_some P Q f (Some n) p = f n p

if_none : (P Q : Type 0) → (P → Q) → (o : Option ℕ) → IfNone o P → IfNone o Q
if_none P Q f None p = f p
if_none P Q f (Some n) p = p

-- a stop that was met earlier is answered again
still_answered : (closed : Bool) (stop : Option Stop) (r : Result (Option ℕ) Stop) → IfSome stop (λ met. r ≡ Err met)
    → IfSome stop (λ met. answered closed r ≡ Err met)
still_answered closed None r stays = tt
still_answered closed (Some met) r stays = ap (answered closed) stays

same_Err : {x y : Stop} → ◌≡◌ {A = Result Turn Stop} (Err x) (Err y) → x ≡ y
same_Err is = cc

-- the step of a turn, once answers were handed out and lanes closed
module _ (old mid given new : ResolverState) (h : IsDelivery mid given) (k : ClosedOver given new) where
  steps_for : (taken : Option ℕ) → StepsFor taken old mid → StepsFor taken old new
  steps_for (Some proxy) took = TakesFrom-on h k proxy took
  steps_for None (inl finishes) = inl (Finishes-on h k finishes)
  steps_for None (inr nothing) = inr (TakesNoStep-on h k nothing)

  stop_on : new.core.stop ≡ mid.core.stop
  stop_on = ap (λ (c : CoreState). c.stop) k.core ∙ h.same.stop

  next_on : new.next ≡ mid.next
  next_on = k.next ∙ h.same.next

  -- the lanes from which nothing was taken before the batch of this proxy, looked through
  abbrev passed_by : List Lanes → ℕ → Type 0
  passed_by lanes proxy = Each (λ passed l m. ComesBefore old.next passed proxy → IsLookedThrough l m) old.lanes lanes

  continues_on : Continues old.core mid.core → Continues old.core new.core
  continues_on c = record {
    window = ap (λ (set : SetState). set.window) (same_set h k) ∙ c.window;
    limit = ap (λ (set : SetState). set.map.limit) (same_set h k) ∙ c.limit;
    proxies = ap (λ (core : CoreState). length core.owed) k.core ∙ h.same.proxies ∙ c.proxies;
  }

  pub steps_on : (closed : Bool) (r : Result (Option ℕ) Stop) → TurnSteps (λ taken. taken) r old mid
      → TurnSteps taken_by (answered closed r) old new
  steps_on closed (Ok taken) s =
      let is = sym (taken-reported taken closed) in
      record {
        log = subst (λ t. StepsFor t old new) is (steps_for taken s.log);
        stop_met = tt;
        stop = tt;
        stop_stays = still_answered closed old.core.stop (Ok taken) s.stop_stays;
        no_stop = stop_on ∙ s.no_stop;
        looked_through =
            subst (λ t. IfNone t (Each (λ _ l m. IsLookedThrough l m) old.lanes new.lanes)) is
            (if_none (Each (λ _ l m. IsLookedThrough l m) old.lanes mid.lanes)
            (Each (λ _ l m. IsLookedThrough l m) old.lanes new.lanes) (all_looked_on h k) taken s.looked_through);
        passed =
            subst (λ t. IfSome t (passed_by new.lanes)) is
            (if_some (passed_by mid.lanes) (passed_by new.lanes)
            (λ proxy. looked_on h k (λ p. ComesBefore old.next p proxy)) taken s.passed);
        next =
            subst (λ t. IfSome t (λ proxy. new.next ≡ proxy + 1)) is
            (if_some (λ proxy. mid.next ≡ proxy + 1) (λ proxy. new.next ≡ proxy + 1)
            (λ proxy after. next_on ∙ after) taken s.next);
        next_stays =
            subst (λ t. IfNone t (new.next ≡ old.next)) is
            (if_none (mid.next ≡ old.next) (new.next ≡ old.next) (λ stays. next_on ∙ stays) taken s.next_stays);
        gate_full = λ running full. absurd cc;
        arena_full = λ running full. absurd cc;
        lanes = lanes_on h k s.lanes;
        continues = continues_on s.continues;
      }
  steps_on closed (Err met) s = record {
    log = tt;
    stop_met = stop_met_on h k s.stop_met;
    stop = stop_on ∙ s.stop;
    stop_stays = still_answered closed old.core.stop (Err met) s.stop_stays;
    no_stop = tt;
    looked_through = tt;
    passed = tt;
    next = tt;
    next_stays = tt;
    gate_full = λ running full.
        let found = s.gate_full running (ap Err (same_Err full)) in
        (found.0, TakesFrom-on h k found.0 found.1, found.2, found.3);
    arena_full = λ running full version log stands.
        let found = s.arena_full running (ap Err (same_Err full)) version log stands in
        let set = old.core.set in
        let entire = log_from version (length old.lanes) log in (
          found.0,
          TakesFrom-on h k found.0 found.1,
          stops_on h k set.map.limit set.window found.0 found.1.batch (run set.window entire) found.2,
        );
    lanes = lanes_on h k s.lanes;
    continues = continues_on s.continues;
  }
