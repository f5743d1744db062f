-- A look for a batch at the lanes, and what it makes of the resolver.
use Rattle.std.proofs.Common.{
  ◌≡◌,
  ◌≢◌,
  ℕ,
  ◌+◌,
  ◌<◌,
  ◌≤◌,
  ◌==◌,
  cond,
  Bool,
  true,
  false,
  List,
  [],
  ◌∷◌,
  ◌++◌,
  length,
  suc,
  Option,
  Some,
  None,
  append-nil,
  get_or,
  sym,
  ap,
  subst,
  ◌∙◌,
  refl,
  inl,
  inr,
  arith,
}
use Rattle.std.specs.Prelude.{ℤ, ◌⊎◌, slice_get, IsSome, IfSome, Result, Err}
use Rattle.std.specs.Vec.{with_items}
use Rattle.std.specs.declared.vec.Vec.{Vec}
use mathlib.Core.Bool.{beq}
use Rattle.std.proofs.lemmas.Bool.{cases_Bool, cases_lt, eqb-true, eqb-false, true≢false, and_parts, and_from}
use Rattle.std.proofs.lemmas.List.{length-map, with_items_is}
use Rattle.std.proofs.lemmas.List.Folds.{list_all_at}
use Rattle.std.proofs.lemmas.Option.{slice_get-get_or, slice_get_within, get_or_from_slice_get}
use Rattle.keyspace.specs.declared.batch.Batch.{Batch}
use Rattle.keyspace.specs.Processed.{Processed}
use Rattle.keyspace.specs.Run.{Step, Take, Finish, run}
use Rattle.lane.specs.Lane.{IntakeContinues, PortContinues, HasEnded}
use Rattle.resolver.specs.Core.{CoreState, Given, Continues, StopsAtLimit}
use Rattle.resolver.specs.Owed.{owed_to, owed_count}
use Rattle.resolver.specs.Stands.{Stands}
use Rattle.resolver.specs.Lanes.{
  Lanes,
  Each,
  LanesContinue,
  taken_from,
  sent_to,
  all_ended,
  TakesOne,
  TakesNone,
  ComesBefore,
  IsLookedThrough,
}
use Rattle.resolver.specs.OpeningLog.{log_from}
use Rattle.limits.specs.declared.stop.Stop.{Stop}
use Rattle.resolver.specs.Resolver.{ResolverState, StandsOverFrom, TakesFrom, Finishes, TakesNoStep, IsThrough}
use Rattle.resolver.specs.Turns.{TurnSteps}
use Rattle.resolver.specs.Observed.{HasSeen, ObservesStep}
use Rattle.resolver.specs.Parts.{
  ProxyLanesView,
  lanes_of,
  Parts,
  resolver_of,
  AreParts,
  EachProxy,
  TakesFromProxy,
  FindsOne,
  FindsNone,
  owed_with,
}
use Rattle.resolver.proofs.AtIndex.{
  lanes_at,
  proxy_lanes_at,
  both_at,
  field_at,
  field_past,
  each_lanes,
  owed_with-length,
  owed_with-same,
}
use Rattle.resolver.proofs.DeliveredAnswers.{
  delivered_to,
  delivered_same,
  made_delivered,
  StandsBy-moved,
  StopsAtLimit-moved,
  stands_with,
  stands_without,
}
use Rattle.resolver.proofs.FromVersion.{log_from-more}
use Rattle.resolver.proofs.Logged.{stands_taken, stands_finished, stands_same}
use Rattle.resolver.proofs.Observing.{seen_more}
use Rattle.resolver.proofs.SeenSteps.{step_taken, step_finished, step_none, observes_nothing}
use Rattle.resolver.proofs.callers.Later.{lanes_same}

-- an intake that hasn't changed continues
intake_same : {T : Type 0} (v : _) → IntakeContinues {T = T} v v
intake_same v = record {
  lane = refl;
  capacity = refl;
  seen_sent = omega arith;
  seen_close = λ is. is;
  looks = omega arith;
}

port_same : {T : Type 0} (v : _) → PortContinues {T = T} v v
port_same v = record { lane = refl; capacity = refl; seen_taken = omega arith; looks = omega arith }

-- what a look keeps of a pair of lanes, by the batches that it has taken there
pub record Looks (batches : List Batch) (l m : ProxyLanesView) : Type 0 where
  pub taken : m.lanes.requests.taken ≡ l.lanes.requests.taken ++ batches
  pub requests : IntakeContinues l.lanes.requests m.lanes.requests
  pub ended : l.lanes.ended ≡ true → m.lanes.ended ≡ true
  pub at_end : (l.lanes.ended ≡ true → HasEnded l.lanes.requests) → m.lanes.ended ≡ true → HasEnded m.lanes.requests
  pub replies : m.lanes.replies ≡ l.lanes.replies
  pub waiting : m.waiting ≡ l.waiting

looks_none : (l m : ProxyLanesView) → TakesFromProxy None l m → Looks [] l m
looks_none l m t = record {
  taken = t.taken;
  requests = t.requests;
  ended = t.ended;
  at_end = λ _. t.at_end;
  replies = t.replies;
  waiting = t.waiting;
}

looks_some : (batch : Batch) (l m : ProxyLanesView) → TakesFromProxy (Some batch) l m → Looks (batch ∷ []) l m
looks_some batch l m t = record {
  taken = t.taken;
  requests = t.requests;
  ended = t.ended;
  at_end = λ _. t.at_end;
  replies = t.replies;
  waiting = t.waiting;
}

looks_same : (l m : ProxyLanesView) → m ≡ l → Looks [] l m
looks_same l m is = subst (λ (x : ProxyLanesView). Looks [] l x) (sym is) record {
  taken = sym (append-nil l.lanes.requests.taken);
  requests = intake_same l.lanes.requests;
  ended = λ e. e;
  at_end = λ e. e;
  replies = refl;
  waiting = refl;
}

-- of each pair of lanes, if nothing was taken
abbrev pub LooksAtAll : List ProxyLanesView → List ProxyLanesView → Type 0
LooksAtAll = EachProxy (λ p l m. Looks [] l m)

-- and where this batch was taken from this proxy
abbrev pub LooksFor : ℕ → Batch → List ProxyLanesView → List ProxyLanesView → Type 0
LooksFor proxy batch = EachProxy (λ p l m. Looks (cond (proxy == p) (batch ∷ []) []) l m)

decide_before : (first p q : ℕ) → ComesBefore first p q ⊎ (ComesBefore first p q → ⊥)
decide_before first p q =
    elim (cases_lt p first) [
      | inl before ↦
          elim (cases_lt q first) [
            | inl wraps ↦
                elim (cases_lt p q) [
                  | inl under ↦ inl (inr (wraps, inr under))
                  | inr over ↦
                      inr (λ c. elim c [
                        | inl d ↦ absurd (omega (arith, before, d.0))
                        | inr d ↦ elim d.1 [
                          | inl e ↦ absurd (omega (arith, before, e))
                          | inr e ↦ absurd (omega (arith, over, e))
                        ]
                      ])
                ]
            | inr straight ↦
                inr (λ c. elim c [
                  | inl d ↦ absurd (omega (arith, before, d.0))
                  | inr d ↦ absurd (omega (arith, straight, d.0))
                ])
          ]
      | inr from ↦
          elim (cases_lt p q) [
            | inl under ↦ inl (inl (omega (arith, from), under))
            | inr over ↦
                elim (cases_lt q first) [
                  | inl wraps ↦ inl (inr (wraps, inl (omega (arith, from))))
                  | inr straight ↦
                      inr (λ c. elim c [
                        | inl d ↦ absurd (omega (arith, over, d.1))
                        | inr d ↦ absurd (omega (arith, straight, d.0))
                      ])
                ]
          ]
    ]

pub looks_for : (first proxy : ℕ) (batch : Batch) (old new : List ProxyLanesView)
    → FindsOne (λ p. ComesBefore first p proxy) proxy batch old new → LooksFor proxy batch old new
looks_for first proxy batch old new f = record {
  count = f.found.count;
  each = λ p l m was is.
      elim (cases_Bool (proxy == p)) [
        | inl own ↦
            subst (λ b. Looks (cond b (batch ∷ []) []) l m) (sym own)
            (looks_some batch l m (f.found.each p l m was is (sym (eqb-true proxy p own))))
        | inr other ↦
            let apart : p ≢ proxy = λ e. eqb-false proxy p other (sym e) in
            subst (λ b. Looks (cond b (batch ∷ []) []) l m) (sym other)
            (elim (decide_before first p proxy) [
              | inl before ↦ looks_none l m (f.looked.each p l m was is before)
              | inr not_before ↦ looks_same l m (f.others.each p l m was is not_before apart)
            ])
      ];
}

pub looks_at_all : (old new : List ProxyLanesView) → FindsNone (λ p. p < length old) old new → LooksAtAll old new
looks_at_all old new f = record {
  count = f.looked.count;
  each = λ p l m was is. looks_none l m (f.looked.each p l m was is (slice_get_within old p l was));
}

-- what follows for the resolver's parts, whatever was taken
module _ (taken : ℕ → List Batch) (old new : List ProxyLanesView) (e : EachProxy (λ p l m. Looks (taken p) l m) old new) where
  count_lanes : length (lanes_of new) ≡ length (lanes_of old)
  count_lanes = length-map new (λ l. l.lanes) ∙ e.count ∙ sym (length-map old (λ l. l.lanes))

  pub lanes_continue : Each (λ p l m. LanesContinue l m) (lanes_of old) (lanes_of new)
  lanes_continue =
      each_lanes (λ p l m. Looks (taken p) l m) (λ p l m. LanesContinue l m) old new
      (λ p k n was is looks. record {
        requests = looks.requests;
        replies = subst (PortContinues k.lanes.replies) (sym looks.replies) (port_same k.lanes.replies);
        ended = looks.ended;
      }) e

  pub replies_same : Each (λ p l m. m.replies ≡ l.replies) (lanes_of old) (lanes_of new)
  replies_same =
      each_lanes (λ p l m. Looks (taken p) l m) (λ p l m. m.replies ≡ l.replies) old new
      (λ p k n was is looks. looks.replies) e

  taken_more : (p : ℕ) → p < length (lanes_of old)
      → taken_from (lanes_of new) p ≡ taken_from (lanes_of old) p ++ taken p
  taken_more p inside =
      elim (both_at old new e.count p) [
        | inl at ↦
            field_at (λ (l : Lanes). l.requests.taken) (lanes_of new) p at.1.lanes (lanes_at new p at.1 at.3)
            ∙ (e.each p at.0 at.1 at.2 at.3).taken
            ∙ ap (λ bs. bs ++ taken p)
            (sym (field_at (λ (l : Lanes). l.requests.taken) (lanes_of old) p at.0.lanes (lanes_at old p at.0 at.2)))
        | inr past ↦ absurd (omega (arith, inside, past.0, length-map old (λ l. l.lanes)))
      ]

  taken_past : (p : ℕ) → length (lanes_of old) ≤ p
      → taken_from (lanes_of new) p ≡ taken_from (lanes_of old) p
  taken_past p past =
      field_past (λ (l : Lanes). l.requests.taken) (lanes_of new) p (omega (arith, past, count_lanes))
      ∙ sym (field_past (λ (l : Lanes). l.requests.taken) (lanes_of old) p past)

  delivered_on : (p : ℕ) → delivered_to new p ≡ delivered_to old p
  delivered_on =
      delivered_same old new e.count (λ p k n was is.
      let looks = e.each p k n was is in
      cc (ap (λ r. r.sent) looks.replies, looks.waiting))

  -- a core stands over the pairs of lanes as they are now
  pub stands_now : (core : CoreState) → length old ≡ length core.owed → (log : List Step)
      → Stands core log (delivered_to old) → Stands (resolver_of record {
        core = core;
        all_lanes = new;
        next = 0;
        finished = false;
        closed = false;
      }).core log (sent_to (lanes_of new))
  stands_now core count log stands =
      stands_with core new (e.count ∙ count) log
      (StandsBy-moved (delivered_to old) (delivered_to new) core core.owed refl
      (λ p inside. ap (λ xs. xs ++ owed_to p core.owed) (delivered_on p)) core.stop log stands)

  -- those that had ended had been taken from to the end, and so have those that have ended now
  pub ended_now : ((p : ℕ) (l : Lanes) → slice_get (lanes_of old) p ≡ Some l → l.ended ≡ true → HasEnded l.requests)
      → (p : ℕ) (m : Lanes) → slice_get (lanes_of new) p ≡ Some m → m.ended ≡ true → HasEnded m.requests
  ended_now before p m at =
      let n = proxy_lanes_at new p m at in
      let k = get_or old p n.0 in
      let inside = slice_get_within new p n.0 n.1 in
      let was = slice_get-get_or old p n.0 (omega (arith, inside, e.count)) in
      subst (λ (x : Lanes). x.ended ≡ true → HasEnded x.requests) n.2
      ((e.each p k n.0 was n.1).at_end (before p k.lanes (lanes_at old p k was)))

  pub closed_now : (closed : Bool)
      → ((p : ℕ) (l : Lanes) → slice_get (lanes_of old) p ≡ Some l → l.replies.closed ≡ closed)
      → (p : ℕ) (m : Lanes) → slice_get (lanes_of new) p ≡ Some m → m.replies.closed ≡ closed
  closed_now closed before p m at =
      let n = proxy_lanes_at new p m at in
      let k = get_or old p n.0 in
      let inside = slice_get_within new p n.0 n.1 in
      let was = slice_get-get_or old p n.0 (omega (arith, inside, e.count)) in
      ap (λ (x : Lanes). x.replies.closed) (sym n.2) ∙ ap (λ r. r.closed) (e.each p k n.0 was n.1).replies
      ∙ before p k.lanes (lanes_at old p k was)

more : {X : Type 0} (b : Bool) (xs : List X) (x : X) → xs ++ cond b (x ∷ []) [] ≡ cond b (xs ++ x ∷ []) xs
more true xs x = refl
more false xs x = append-nil xs

not_eqb : (p q : ℕ) → p ≢ q → (p == q) ≡ false
not_eqb p q apart =
    elim (cases_Bool (p == q)) [
      | inl same ↦ absurd (apart (eqb-true p q same))
      | inr other ↦ other
    ]

-- some pair of lanes hasn't ended
not_all_ended : (all_lanes : List ProxyLanesView) (p : ℕ) (k : ProxyLanesView) → slice_get all_lanes p ≡ Some k
    → k.lanes.ended ≡ false → all_ended (lanes_of all_lanes) ≡ false
not_all_ended all_lanes p k at still =
    let at_lanes = lanes_at all_lanes p k at in
    list_all_at (λ (l : Lanes). l.ended) (lanes_of all_lanes) p k.lanes
    (slice_get_within (lanes_of all_lanes) p k.lanes at_lanes)
    (ap (λ (l : Lanes). l.ended) (get_or_from_slice_get (lanes_of all_lanes) p k.lanes k.lanes at_lanes) ∙ still)

-- what stays the same of the core does so of the resolver's core
pub continue_with : (old new : Parts) → Continues old.core new.core
    → Continues (resolver_of old).core (resolver_of new).core
continue_with old new g = record {
  window = g.window;
  limit = g.limit;
  proxies =
      owed_with-length new.all_lanes new.core.owed ∙ g.proxies
      ∙ sym (owed_with-length old.all_lanes old.core.owed);
}

-- what is found among the pairs of lanes of a vector, and written back to it
module _ {Z : Type 0} (v : Vec ProxyLanesView Z) (all_lanes seen : List ProxyLanesView) (value : seen ≡ v.items) where
  found_all_lanes : length all_lanes ≡ length seen → (with_items v all_lanes).items ≡ all_lanes
  found_all_lanes many = with_items_is v all_lanes (many ∙ ap length value ∙ sym v.ok.0)

  pub found_in : (first proxy : ℕ) (batch : Batch) → FindsOne (λ p. ComesBefore first p proxy) proxy batch seen all_lanes
      → FindsOne (λ p. ComesBefore first p proxy) proxy batch v.items (with_items v all_lanes).items
  found_in first proxy batch f =
      subst (FindsOne (λ p. ComesBefore first p proxy) proxy batch v.items) (sym (found_all_lanes f.found.count))
      (subst (λ old. FindsOne (λ p. ComesBefore first p proxy) proxy batch old all_lanes) value f)

  pub none_found_in : FindsNone (λ p. p < length seen) seen all_lanes
      → FindsNone (λ p. p < length v.items) v.items (with_items v all_lanes).items
  none_found_in f =
      subst (FindsNone (λ p. p < length v.items) v.items) (sym (found_all_lanes f.looked.count))
      (subst (λ old. FindsNone (λ p. p < length old) old all_lanes) value f)

pub none_of : {T : Type 0} (o : Option T) → ((x : T) → o ≡ Some x → ⊥) → o ≡ None
none_of None not = refl
none_of (Some x) not = absurd (not x refl)

pub same_bools : (a b : Bool) → beq a b ≡ true → a ≡ b
same_bools true true is = refl
same_bools true false is = sym is
same_bools false true is = is
same_bools false false is = refl

pub other_than_false : (a b : Bool) → b ≡ false → beq a b ≡ false → a ≡ true
other_than_false true b is not = refl
other_than_false false true is not = sym is
other_than_false false false is not = sym not

pub continue_itself : (b : CoreState) → Continues b b
continue_itself b = record { window = refl; limit = refl; proxies = refl }

-- no stop has been met before, by the parts
pub was_running : {r s : ResolverState} → r ≡ s → r.core.stop ≡ None → s.core.stop ≡ None
was_running is running = sym (ap (λ (x : ResolverState). x.core.stop) is) ∙ running

-- the step if a stop had been met before
pub steps_stopped : (met : Stop) (r : ResolverState) → r.core.stop ≡ Some met
    → TurnSteps {T = Option ℕ} (λ taken. taken) (Err met) r r
steps_stopped met r stopped = record {
  log = tt;
  stop_met = λ running. absurd cc;
  stop = stopped;
  stop_stays =
      subst (λ s. IfSome s (λ m. ◌≡◌ {A = Result (Option ℕ) Stop} (Err met) (Err m))) (sym stopped) refl;
  no_stop = tt;
  looked_through = tt;
  passed = tt;
  next = tt;
  next_stays = tt;
  gate_full = λ running. absurd cc;
  arena_full = λ running. absurd cc;
  lanes = lanes_same r.lanes;
  continues = continue_itself r.core;
}

-- A batch of a proxy was taken and admitted.
module _ (old new : Parts) (first proxy : ℕ) (batch : Batch)
    (f : FindsOne (λ p. ComesBefore first p proxy) proxy batch old.all_lanes new.all_lanes)
    (are : AreParts old) (running : old.core.stop ≡ None) (continues : Continues old.core new.core)
    (finished : new.finished ≡ old.finished) (closed : new.closed ≡ old.closed) (next : new.next ≡ proxy + 1) where
  looks : LooksFor proxy batch old.all_lanes new.all_lanes
  looks = looks_for first proxy batch old.all_lanes new.all_lanes f

  abbrev taken : ℕ → List Batch
  taken p = cond (proxy == p) (batch ∷ []) []

  -- the pair of lanes from which it was taken
  found : (k : ProxyLanesView) × (n : ProxyLanesView) × (slice_get old.all_lanes proxy ≡ Some k) × (slice_get new.all_lanes proxy ≡ Some n)
  found =
      elim (both_at old.all_lanes new.all_lanes looks.count proxy) [
        | inl at ↦ at
        | inr past ↦ absurd (omega (arith, past.0, f.known))
      ]

  took : TakesFromProxy (Some batch) found.0 found.1
  took = f.found.each proxy found.0 found.1 found.2 found.3 refl

  still_before : found.0.lanes.ended ≡ false
  still_before =
      elim (cases_Bool found.0.lanes.ended) [
        | inl ended ↦ absurd (true≢false (sym (took.ended ended) ∙ took.still_open refl))
        | inr still ↦ still
      ]

  pub some_before : all_ended (lanes_of old.all_lanes) ≡ false
  some_before = not_all_ended old.all_lanes proxy found.0 found.2 still_before

  pub some_after : all_ended (lanes_of new.all_lanes) ≡ false
  some_after = not_all_ended new.all_lanes proxy found.1 found.3 (took.still_open refl)

  pub parts_taken : AreParts new
  parts_taken = record {
    count = looks.count ∙ are.count ∙ sym continues.proxies;
    few = omega (arith, looks.count, are.few);
    some = omega (arith, looks.count, are.some);
    in_range = omega (arith, looks.count, next, f.known);
    finished = λ still. finished ∙ are.finished running ∙ some_before ∙ sym some_after;
    ended = ended_now taken old.all_lanes new.all_lanes looks are.ended;
    closed = closed_now taken old.all_lanes new.all_lanes looks new.closed (λ p l at. are.closed p l at ∙ sym closed);
    through = λ is.
        elim (are.through (sym closed ∙ is)).no_more [
          | inl all ↦ absurd (true≢false (sym all ∙ some_before))
          | inr stopped ↦ absurd (true≢false (sym (subst IsSome running stopped)))
        ];
  }

  pub takes_one : TakesOne proxy batch (lanes_of old.all_lanes) (lanes_of new.all_lanes)
  takes_one other =
      elim (cases_lt other (length (lanes_of old.all_lanes))) [
        | inl inside ↦
            taken_more taken old.all_lanes new.all_lanes looks other inside
            ∙ more (proxy == other) (taken_from (lanes_of old.all_lanes) other) batch
        | inr past ↦
            let long = length-map old.all_lanes (λ l. l.lanes) in
            let apart : proxy ≢ other = λ e. absurd (omega (arith, e, past, long, f.known)) in
            taken_past taken old.all_lanes new.all_lanes looks other (omega (arith, past))
            ∙ ap (λ b. cond b (taken_from (lanes_of old.all_lanes) other ++ batch ∷ []) (taken_from (lanes_of old.all_lanes) other))
            (sym (not_eqb proxy other apart))
      ]

  pub takes_from : ((log : List Step) (given : Given) → Stands old.core log given
      → Stands new.core (log ++ Take proxy batch ∷ []) given) → TakesFrom proxy (resolver_of old) (resolver_of new)
  takes_from stands = record {
    known = omega (arith, f.known, length-map old.all_lanes (λ l. l.lanes));
    batch = batch;
    taken = takes_one;
    adds = λ version log s.
        let entire = log_from version (length (lanes_of old.all_lanes)) log in
        stands_taken (resolver_of old) (resolver_of new) version log (replies_same taken old.all_lanes new.all_lanes looks).count
        (λ p l m was is. ap (λ r. r.closed) ((replies_same taken old.all_lanes new.all_lanes looks).each p l m was is))
        running s proxy batch takes_one some_before some_after
        (stands_now taken old.all_lanes new.all_lanes looks new.core (are.count ∙ sym continues.proxies) (entire ++ Take proxy batch ∷ [])
        (stands entire (delivered_to old.all_lanes) (stands_without old.core old.all_lanes are.count entire s.core)));
  }

  -- with what holds of the batch
  pub takes_when : (Q : Batch → Type 0) → Q batch → ((log : List Step) (given : Given) → Stands old.core log given
      → Stands new.core (log ++ Take proxy batch ∷ []) given)
      → (p : ℕ) × (t : TakesFrom p (resolver_of old) (resolver_of new)) × Q t.batch
  unfolding takes_from
  takes_when Q q stands = (proxy, takes_from stands, q)

  pub takes_over : (Q : ℕ → Batch → Type 0) → Q proxy batch → ((log : List Step) (given : Given)
      → Stands old.core log given → Stands new.core (log ++ Take proxy batch ∷ []) given)
      → (p : ℕ) × (t : TakesFrom p (resolver_of old) (resolver_of new)) × Q p t.batch
  unfolding takes_from
  takes_over Q q stands = (proxy, takes_from stands, q)

  pub stops_at_limit : (version : ℤ) (log : List Step) → StandsOverFrom version (resolver_of old) log
      → ((log : List Step) (given : Given) → Stands old.core log given
      → StopsAtLimit old.core.set.map.limit old.core.set.window proxy batch
      (run old.core.set.window log) given new.core)
      → StopsAtLimit old.core.set.map.limit old.core.set.window proxy batch
      (run old.core.set.window (log_from version (length (lanes_of old.all_lanes)) log))
      (sent_to (lanes_of new.all_lanes)) (resolver_of new).core
  stops_at_limit version log s stops =
      let entire = log_from version (length (lanes_of old.all_lanes)) log in
      let many : length new.all_lanes ≡ length new.core.owed = looks.count ∙ are.count ∙ sym continues.proxies in
      StopsAtLimit-moved (delivered_to old.all_lanes) (sent_to (lanes_of new.all_lanes)) new.core
      (owed_with new.all_lanes new.core.owed) (owed_with-length new.all_lanes new.core.owed)
      (λ p inside.
      made_delivered new.all_lanes new.core.owed many p inside
      ∙ ap (λ xs. xs ++ owed_to p new.core.owed) (delivered_on taken old.all_lanes new.all_lanes looks p))
      old.core.set.map.limit old.core.set.window proxy batch (run old.core.set.window entire)
      (stops entire (delivered_to old.all_lanes) (stands_without old.core old.all_lanes are.count entire s.core))

  -- the observer has seen what the core showed it
  pub sees_taken : (before after : List Processed → Type 0)
      → ((log : List Step) (given : Given) → Stands old.core log given
      → before (run old.core.set.window log).processed
      → HasSeen after new.core.stop old.core.set.window (log ++ Take proxy batch ∷ []))
      → ObservesStep before after (resolver_of old) (resolver_of new)
  sees_taken before after sees =
      step_taken before after (resolver_of old) (resolver_of new) proxy batch takes_one
      (λ version log s seen.
      let proxies = length (lanes_of old.all_lanes) in
      let entire = log_from version proxies log in
      subst (HasSeen after new.core.stop old.core.set.window)
      (log_from-more version proxies proxies log (Take proxy batch ∷ []) refl)
      (sees entire (delivered_to old.all_lanes) (stands_without old.core old.all_lanes are.count entire s.core)
      (subst before (seen.all running) seen.seen)))

  pub replies_taken : Each (λ p l m. m.replies ≡ l.replies) (lanes_of old.all_lanes) (lanes_of new.all_lanes)
  replies_taken = replies_same taken old.all_lanes new.all_lanes looks

  pub lanes_taken : Each (λ p l m. LanesContinue l m) (lanes_of old.all_lanes) (lanes_of new.all_lanes)
  lanes_taken = lanes_continue taken old.all_lanes new.all_lanes looks

  pub passed_taken : Each (λ p l m. ComesBefore first p proxy → IsLookedThrough l m) (lanes_of old.all_lanes) (lanes_of new.all_lanes)
  passed_taken =
      each_lanes (λ p l m. ComesBefore first p proxy → TakesFromProxy None l m)
      (λ p l m. ComesBefore first p proxy → IsLookedThrough l m) old.all_lanes new.all_lanes
      (λ p k n was is through comes. (through comes).through) f.looked

  pub continues_taken : Continues (resolver_of old).core (resolver_of new).core
  continues_taken = continue_with old new continues

-- a lane that has ended stays so, and so do all
all_stay : (old new : List ProxyLanesView) → length new ≡ length old
    → ((p : ℕ) (k n : ProxyLanesView) → slice_get old p ≡ Some k → slice_get new p ≡ Some n → k.lanes.ended ≡ true
    → n.lanes.ended ≡ true) → all_ended (lanes_of old) ≡ true → all_ended (lanes_of new) ≡ true
all_stay [] [] same each all = refl
all_stay [] (n ∷ new) same each all = absurd (omega (arith, same))
all_stay (k ∷ old) [] same each all = absurd (omega (arith, same))
all_stay (k ∷ old) (n ∷ new) same each all =
    let both = and_parts k.lanes.ended (all_ended (lanes_of old)) all in
    and_from n.lanes.ended (all_ended (lanes_of new)) (each 0 k n refl refl both.0)
    (all_stay old new (omega (arith, same)) (λ p. each (suc p)) both.1)

-- All lanes were looked at, and no batch was taken.
module _ (old new : Parts) (f : FindsNone (λ p. p < length old.all_lanes) old.all_lanes new.all_lanes) (are : AreParts old)
    (running : old.core.stop ≡ None) (continues : Continues old.core new.core) (closed : new.closed ≡ old.closed)
    (next : new.next ≡ old.next) where
  abbrev nothing : ℕ → List Batch
  nothing p = []

  at_all : LooksAtAll old.all_lanes new.all_lanes
  at_all = looks_at_all old.all_lanes new.all_lanes f

  pub takes_none : TakesNone (lanes_of old.all_lanes) (lanes_of new.all_lanes)
  takes_none p =
      elim (cases_lt p (length (lanes_of old.all_lanes))) [
        | inl inside ↦
            taken_more nothing old.all_lanes new.all_lanes at_all p inside
            ∙ append-nil (taken_from (lanes_of old.all_lanes) p)
        | inr past ↦ taken_past nothing old.all_lanes new.all_lanes at_all p (omega (arith, past))
      ]

  pub still_all : all_ended (lanes_of old.all_lanes) ≡ true → all_ended (lanes_of new.all_lanes) ≡ true
  still_all = all_stay old.all_lanes new.all_lanes at_all.count (λ p k n was is. (at_all.each p k n was is).ended)

  pub parts_looked : (new.core.stop ≡ None → new.finished ≡ all_ended (lanes_of new.all_lanes))
      → (new.closed ≡ true → IsThrough (resolver_of new)) → AreParts new
  parts_looked finished through = record {
    count = at_all.count ∙ are.count ∙ sym continues.proxies;
    few = omega (arith, at_all.count, are.few);
    some = omega (arith, at_all.count, are.some);
    in_range = omega (arith, at_all.count, next, are.in_range);
    finished = finished;
    ended = ended_now nothing old.all_lanes new.all_lanes at_all are.ended;
    closed = closed_now nothing old.all_lanes new.all_lanes at_all new.closed (λ p l at. are.closed p l at ∙ sym closed);
    through = through;
  }

  pub replies_looked : Each (λ p l m. m.replies ≡ l.replies) (lanes_of old.all_lanes) (lanes_of new.all_lanes)
  replies_looked = replies_same nothing old.all_lanes new.all_lanes at_all

  pub lanes_looked : Each (λ p l m. LanesContinue l m) (lanes_of old.all_lanes) (lanes_of new.all_lanes)
  lanes_looked = lanes_continue nothing old.all_lanes new.all_lanes at_all

  pub all_looked : Each (λ p l m. IsLookedThrough l m) (lanes_of old.all_lanes) (lanes_of new.all_lanes)
  all_looked =
      each_lanes (λ p l m. p < length old.all_lanes → TakesFromProxy None l m) (λ p l m. IsLookedThrough l m) old.all_lanes
      new.all_lanes (λ p k n was is looked. (looked (slice_get_within old.all_lanes p k was)).through) f.looked

  pub continues_looked : Continues (resolver_of old).core (resolver_of new).core
  continues_looked = continue_with old new continues

  stands_looked : (log : List Step) → Stands new.core log (delivered_to old.all_lanes)
      → Stands (resolver_of new).core log (sent_to (lanes_of new.all_lanes))
  stands_looked = stands_now nothing old.all_lanes new.all_lanes at_all new.core (are.count ∙ sym continues.proxies)

  -- where it is found that not the same have ended as when the core was finished, it wasn't
  pub newly_ended : (ended : Bool) → ended ≡ all_ended (lanes_of new.all_lanes) → beq ended old.finished ≡ false
      → old.finished ≡ false
  newly_ended ended is differs =
      elim (cases_Bool old.finished) [
        | inl was ↦
            let all = still_all (sym (are.finished running) ∙ was) in
            absurd (true≢false (sym (ap (λ b. beq b old.finished) (is ∙ all) ∙ ap (beq true) was) ∙ differs))
        | inr not ↦ not
      ]

  -- all have ended now, and the core was finished
  module _ (before : old.finished ≡ false) (after : all_ended (lanes_of new.all_lanes) ≡ true) where
    not_before : all_ended (lanes_of old.all_lanes) ≡ false
    not_before = sym (are.finished running) ∙ before

    -- so no reply lane is closed
    pub open_before : new.closed ≡ true → IsThrough (resolver_of new)
    open_before is =
        elim (are.through (sym closed ∙ is)).no_more [
          | inl all ↦ absurd (true≢false (sym all ∙ not_before))
          | inr stopped ↦ absurd (true≢false (sym (subst IsSome running stopped)))
        ]

    pub finishes_now : ((log : List Step) (given : Given) → Stands old.core log given
        → Stands new.core (log ++ Finish ∷ []) given) → Finishes (resolver_of old) (resolver_of new)
    finishes_now stands = record {
      before = not_before;
      after = after;
      taken = takes_none;
      adds = λ version log s.
          let entire = log_from version (length (lanes_of old.all_lanes)) log in
          stands_finished (resolver_of old) (resolver_of new) version log replies_looked.count
          (λ p l m was is. ap (λ r. r.closed) (replies_looked.each p l m was is)) running s takes_none not_before after
          (stands_looked (entire ++ Finish ∷ [])
          (stands entire (delivered_to old.all_lanes) (stands_without old.core old.all_lanes are.count entire s.core)));
    }

    -- the observer has seen nothing more, and nothing more is processed
    pub sees_finish : (Seen : List Processed → Type 0) → ObservesStep Seen Seen (resolver_of old) (resolver_of new)
    sees_finish Seen =
        step_finished Seen Seen (resolver_of old) (resolver_of new) not_before after takes_none
        (λ version log s seen.
        let window = old.core.set.window in
        let proxies = length (lanes_of old.all_lanes) in
        let entire = log_from version proxies log in
        subst (HasSeen Seen new.core.stop window) (log_from-more version proxies proxies log (Finish ∷ []) refl)
        (seen_more Seen new.core.stop window entire Finish (subst Seen (seen.all running) seen.seen)))

  -- no more have ended than had
  module _ (core : new.core ≡ old.core) (same : new.finished ≡ old.finished)
      (ended : all_ended (lanes_of new.all_lanes) ≡ old.finished) where
    ended_same : all_ended (lanes_of new.all_lanes) ≡ all_ended (lanes_of old.all_lanes)
    ended_same = ended ∙ are.finished running

    pub through_still : new.closed ≡ true → IsThrough (resolver_of new)
    through_still is =
        let t = are.through (sym closed ∙ is) in
        record {
          nothing_owed =
              ap (λ (k : CoreState). owed_count (owed_with new.all_lanes k.owed)) core
              ∙ ap owed_count (owed_with-same old.all_lanes new.all_lanes old.core.owed at_all.count
              (λ p k n was is. (at_all.each p k n was is).waiting)) ∙ t.nothing_owed;
          no_more =
              elim t.no_more [
                | inl all ↦ inl (ended_same ∙ all)
                | inr stopped ↦ inr (subst (λ (k : CoreState). IsSome k.stop) (sym core) stopped)
              ];
        }

    was_at : (p : ℕ) (m : Lanes) → slice_get (lanes_of new.all_lanes) p ≡ Some m
        → (l : Lanes) × (slice_get (lanes_of old.all_lanes) p ≡ Some l)
    was_at p m at =
        let inside = slice_get_within (lanes_of new.all_lanes) p m at in (
          get_or (lanes_of old.all_lanes) p m,
          slice_get-get_or (lanes_of old.all_lanes) p m (omega (arith, inside, replies_looked.count)),
        )

    pub takes_no_step : TakesNoStep (resolver_of old) (resolver_of new)
    takes_no_step = record {
      ended = ended_same;
      taken = takes_none;
      adds = λ version log s.
          let entire = log_from version (length (lanes_of old.all_lanes)) log in
          stands_same (resolver_of old) (resolver_of new) version log replies_looked.count
          (ap (λ (k : CoreState). k.stop) core) ended_same takes_none s
          (stands_looked entire (subst (λ (k : CoreState). Stands k entire (delivered_to old.all_lanes)) (sym core)
          (stands_without old.core old.all_lanes are.count entire s.core)))
          (λ still p m at shut. ended_same ∙ s.closed running p _ (was_at p m at).1
          (sym (ap (λ r. r.closed) (replies_looked.each p _ m (was_at p m at).1 at)) ∙ shut));
    }

    pub sees_nothing : (Seen : List Processed → Type 0) → ObservesStep Seen Seen (resolver_of old) (resolver_of new)
    sees_nothing Seen =
        step_none Seen Seen (resolver_of old) (resolver_of new) ended_same takes_none
        (observes_nothing Seen (resolver_of old) (resolver_of new) (ap (λ (k : CoreState). k.stop) core))
