-- What a client knows of the log, from *Lane* of both of its lanes.
use Rattle.std.proofs.Common.{◌≡◌, ℕ, suc, eqb, ◌<◌, ◌≤◌, ℤ, true, List, [], ◌∷◌, ◌++◌, length, map, Option, Some, None, sym, ap, subst, ◌∙◌, inl, inr, append-nil, append_assoc, length-append, arith}
use Rattle.std.specs.Prelude.{is_some, option_map, slice_get, slice_index_or, IsSomeAnd, Contains}
use Rattle.std.proofs.lemmas.Bool.{false≢true, eqb-true, eq-eqb}
use Rattle.std.proofs.lemmas.Option.{slice_get-map, slice_get_within, get_or_from_slice_get}
use Rattle.std.proofs.lemmas.List.{nil_from_length, length-map, same_from_push}
use Rattle.std.proofs.lemmas.List.Elements.{Contains-append_left}
use Rattle.std.proofs.lemmas.List.Folds.{sum_by-zero}
use Rattle.std.proofs.lemmas.List.Sums.{AllPass-from_list_all}
use Rattle.keyspace.specs.declared.answer.Answer.{Answer}
use Rattle.keyspace.specs.declared.answer.Answer.TheVariants as answer
use Rattle.keyspace.specs.Processed.{Processed}
use Rattle.keyspace.specs.Run.{State, Step, Finish, step, run, answers, answers_to, part}
use Rattle.keyspace.specs.Laws.{RunsAreChains, EachBatchIsAnswered, NoneIsHeldAfterFinish, held_of}
use Rattle.serial.specs.Serial.{ChainsAreSerializable}
use Rattle.serial.specs.Replies.{IsSent, IsCommittedAt, ReportsCommitted, AnswersReportVerdicts}
use Rattle.lane.specs.Lane.{Lane, HasEnded}
use Rattle.limits.specs.declared.stop.Stop.{Stop}
use Rattle.resolver.specs.declared.turn.Account.{Account}
use Rattle.resolver.specs.declared.client.Client.{Client}
use Rattle.resolver.specs.Owed.{owed_to, owed_count}
use Rattle.resolver.specs.Core.{CoreState, Given, IsPrefix, made_to}
use Rattle.resolver.specs.Stands.{Stands, StandsBy}
use Rattle.resolver.specs.OpeningLog.{opening_log, log_from}
use Rattle.resolver.specs.Lanes.{Lanes, has_ended, all_ended, sent_to}
use Rattle.resolver.specs.Resolver.{StandsOverFrom, TakesOnlyFrom, FinishesBy, FinishesLast}
use Rattle.resolver.specs.Parts.{ProxyLanesView, Parts, AreParts, lanes_of, owed_with, resolver_of}
use Rattle.resolver.specs.Settled.{SettledFrom, SettledFor, ReceivesAnswers, LearnsVerdicts, IsComplete}
use Rattle.keys.proofs.callers.Lists.{some_at}
use Rattle.resolver.proofs.Growing.{begins_itself, begins_then, begins_answers_to, grows_step}
use Rattle.resolver.proofs.Standing.{run-more, IsIn-standing}
use Rattle.resolver.proofs.OnlyFrom.{stands_only}
use Rattle.resolver.proofs.FromVersion.{Stands-as_many, part_of_proxy, known_sender}
use Rattle.resolver.proofs.Settling.{lanes_at}
use Rattle.resolver.proofs.Unchanged.{LanesHold}

-- a prefix of the full length is the entire list
begins_entire : {T : Type 0} (xs ys : List T) → IsPrefix xs ys → length xs ≡ length ys → xs ≡ ys
begins_entire xs ys begins same =
    let both = ap length begins.1 ∙ length-append xs begins.0 in
    let none = nil_from_length begins.0 (omega (arith, both, same)) in
    sym (append-nil xs) ∙ ap (λ rest. xs ++ rest) (sym none) ∙ sym begins.1

-- the answers made to a proxy begin those of the reference resolver
pub made_begins : (stop : Option Stop) (log : List Step) (given : Given) (core : CoreState)
    → StandsBy stop log given core → (proxy : ℕ) → proxy < length core.owed
    → IsPrefix (made_to proxy given core) (answers core.set.window log proxy)
made_begins None log given core stands proxy inside =
    subst (IsPrefix (made_to proxy given core)) (stands.answers proxy inside)
    (begins_itself (made_to proxy given core))
made_begins (Some stop) log given core stands proxy inside = stands.made.no_others proxy inside

-- and all answers of the log without its last step are among them
pub made_before_last : (stop : Option Stop) (log : List Step) (given : Given) (core : CoreState)
    → StandsBy stop log given core → (before : List Step) (last : Step) → log ≡ before ++ last ∷ [] → (proxy : ℕ)
    → proxy < length core.owed → IsPrefix (answers core.set.window before proxy) (made_to proxy given core)
made_before_last None log given core stands before last is proxy inside =
    let window = core.set.window in
    let now = run-more window before last in
    let entire = stands.answers proxy inside ∙ ap (λ steps. answers window steps proxy) is
    ∙ ap (λ (s : State). answers_to proxy s.answered) now in
    subst (IsPrefix (answers window before proxy)) (sym entire)
    (begins_answers_to proxy (run window before).answered (step window last (run window before)).answered
    (grows_step window last (run window before)).answered)
made_before_last (Some stop) log given core stands before last is proxy inside =
    let same = same_from_push stands.before before stands.last last (sym stands.log_is ∙ is) in
    subst (λ steps. IsPrefix (answers core.set.window steps proxy) (made_to proxy given core)) same.0
    (stands.made.all_before proxy inside)

-- an item of a prefix is one of the list
Contains-prefix : {T : Type 0} (xs ys : List T) (x : T) → IsPrefix xs ys → Contains xs x → Contains ys x
Contains-prefix xs ys x begins among =
    subst (λ zs. Contains zs x) (sym begins.1) (Contains-append_left xs begins.0 x among)

-- what holds of the value that there is
is_some_at : {X : Type 0} (P : X → Type 0) (o : Option X) (x : X) → o ≡ Some x → P x → IsSomeAnd o P
is_some_at P o x e h = subst (λ (o : Option _). IsSomeAnd o P) (sym e) h

-- where nothing is owed, nothing is owed to the proxy
owed_none : (owed : List (List Answer)) (proxy : ℕ) → owed_count owed ≡ 0 → proxy < length owed
    → owed_to proxy owed ≡ []
owed_none owed proxy none inside =
    let all = sym (sum_by-zero length owed) ∙ eq-eqb (owed_count owed) 0 none in
    nil_from_length (owed_to proxy owed)
    (eqb-true (length (owed_to proxy owed)) 0
    (AllPass-from_list_all (λ answers. eqb (length answers) 0) owed all proxy [] inside))

-- if all lanes have ended, each has
ended_at : (lanes : List Lanes) (proxy : ℕ) (l : Lanes) → all_ended lanes ≡ true → slice_get lanes proxy ≡ Some l
    → l.ended ≡ true
ended_at lanes proxy l all at =
    ap (λ k. k.ended) (sym (get_or_from_slice_get lanes proxy l l at))
    ∙ AllPass-from_list_all (λ k. k.ended) lanes all proxy l (slice_get_within lanes proxy l at)

length-owed_with : (all_lanes : List ProxyLanesView) (owed : List (List Answer)) → length all_lanes ≡ length owed
    → length (owed_with all_lanes owed) ≡ length all_lanes
length-owed_with [] owed same = sym same
length-owed_with (l ∷ all_lanes) [] same = sym same
length-owed_with (l ∷ all_lanes) (answers ∷ owed) same = ap suc (length-owed_with all_lanes owed (omega (arith, same)))

-- each client has taken every answer sent to it
abbrev pub EachTaken : List ProxyLanesView → List Client → Type 0
EachTaken all_lanes clients =
    (proxy : ℕ) (l : ProxyLanesView) (c : Client) → slice_get all_lanes proxy ≡ Some l → slice_get clients proxy ≡ Some c
    → c.replies.taken ≡ l.lanes.replies.sent

module _ (p : Parts) (are : AreParts p) (clients : List Client) (count : length clients ≡ length p.all_lanes) where
  abbrev lanes : List Lanes
  lanes = lanes_of p.all_lanes

  abbrev core : CoreState
  core = (resolver_of p).core

  -- a field of a proxy's lanes, read from the list of that field
  field : (proxy : ℕ) (l : ProxyLanesView) → slice_get p.all_lanes proxy ≡ Some l → {A : Type 0} (f : Lanes → A) (d : A)
      → slice_index_or (map f lanes) proxy d ≡ f l.lanes
  field proxy l at f d =
      get_or_from_slice_get (map f lanes) proxy (f l.lanes) d
      (slice_get-map f lanes proxy ∙ ap (option_map f) (lanes_at p.all_lanes proxy l at))

  -- a client's pair of lanes
  proxy_lanes_of : (proxy : ℕ) (c : Client) → slice_get clients proxy ≡ Some c
      → (l : ProxyLanesView) × (slice_get p.all_lanes proxy ≡ Some l)
  proxy_lanes_of proxy c at =
      let inside = slice_get_within clients proxy c at in
      some_at p.all_lanes proxy (omega (arith, inside, count))

  -- if all is complete, the reply lanes were closed
  was_closed : IsComplete (resolver_of p) clients → p.closed ≡ true
  was_closed complete =
      let some = are.some in
      let l = some_at p.all_lanes 0 (omega (arith, some)) in
      let at = lanes_at p.all_lanes 0 l.0 l.1 in
      sym (are.closed 0 l.0.lanes at) ∙ complete.closed 0 l.0.lanes at

  -- and so all request lanes have ended
  have_ended : IsComplete (resolver_of p) clients → all_ended lanes ≡ true
  have_ended complete = elim (are.through (was_closed complete)).no_more [
    | inl ended ↦ ended
    | inr stop ↦ absurd (false≢true (ap is_some (sym complete.no_stop) ∙ stop))
  ]

  -- all is complete, by the parts
  pub complete_from : p.core.stop ≡ None → p.closed ≡ true → EachTaken p.all_lanes clients
      → IsComplete (resolver_of p) clients
  complete_from none closed taken = record {
    no_stop = none;
    closed = λ proxy k at. are.closed proxy k at ∙ closed;
    taken = λ proxy c at.
        let l = proxy_lanes_of proxy c at in
        taken proxy l.0 c l.1 at ∙ sym (field proxy l.0 l.1 (λ k. k.replies.sent) []);
  }

  pub complete_then : IsComplete (resolver_of p) clients
      → (p.core.stop ≡ None) × (p.closed ≡ true) × EachTaken p.all_lanes clients
  complete_then complete = (
    complete.no_stop,
    was_closed complete,
    λ proxy l c l_at c_at. complete.taken proxy c c_at ∙ field proxy l l_at (λ k. k.replies.sent) [],
  )

  -- a client that has taken answers to their end has taken all that were sent
  pub takes_all : LanesHold p.all_lanes clients → (proxy : ℕ) (c : Client) → slice_get clients proxy ≡ Some c
      → HasEnded c.replies → c.replies.taken ≡ sent_to lanes proxy
  takes_all holds proxy c at ended =
      let l = proxy_lanes_of proxy c at in
      let replies = (holds proxy l.0 c l.1 at).1 in
      begins_entire c.replies.taken l.0.lanes.replies.sent replies.in_order
      (ended.all ∙ replies.all_seen ended.close)
      ∙ sym (field proxy l.0 l.1 (λ k. k.replies.sent) [])

  module _ (version : ℤ) (log : List Step) (stands : StandsOverFrom version (resolver_of p) log) where
    abbrev opening : List Step
    opening = opening_log (length clients) version

    -- the log over which the reference resolver runs
    abbrev entire : List Step
    entire = log_from version (length clients) log

    as_many : length clients ≡ length lanes
    as_many = count ∙ sym (length-map p.all_lanes (λ k. k.lanes))

    core_stands : Stands core entire (sent_to lanes)
    core_stands = Stands-as_many core (sent_to lanes) version (length lanes) (length clients) log as_many stands.core

    -- the log finishes
    pub finishes : IsComplete (resolver_of p) clients → FinishesLast log
    finishes complete =
        subst (λ ended. FinishesBy ended log) (have_ended complete) (stands.finish complete.no_stop)

    -- and so no batch is held
    holds_none : NoneIsHeldAfterFinish → IsComplete (resolver_of p) clients → (run core.set.window entire).held ≡ []
    holds_none none complete =
        let last = finishes complete in
        let entire_is = ap (λ (steps : List Step). opening ++ steps) last.1 ∙ sym (append_assoc opening last.0 (Finish ∷ [])) in
        subst (λ steps. (run core.set.window steps).held ≡ []) (sym entire_is) (none core.set.window (opening ++ last.0))

    module _ (proxy : ℕ) (c : Client) (l : ProxyLanesView) (c_at : slice_get clients proxy ≡ Some c)
        (l_at : slice_get p.all_lanes proxy ≡ Some l) (requests : Lane c.requests l.lanes.requests)
        (replies : Lane l.lanes.replies c.replies) where
      at : slice_get lanes proxy ≡ Some l.lanes
      at = lanes_at p.all_lanes proxy l l_at

      inside : proxy < length core.owed
      inside =
          let within = slice_get_within p.all_lanes proxy l l_at in
          let many = length-owed_with p.all_lanes p.core.owed are.count in
          omega (arith, within, many)

      sent_is : sent_to lanes proxy ≡ l.lanes.replies.sent
      sent_is = field proxy l l_at (λ k. k.replies.sent) []

      -- the log that starts at the version takes the same from it
      part_same : part entire proxy ≡ part log proxy
      part_same = part_of_proxy version (length clients) log proxy (slice_get_within clients proxy c c_at)

      part_is : part log proxy ≡ l.lanes.requests.taken
      part_is = stands.parts proxy ∙ field proxy l l_at (λ k. k.requests.taken) []

      made_is : made_to proxy (sent_to lanes) core ≡ l.lanes.replies.sent ++ owed_to proxy core.owed
      made_is = ap (λ sent. sent ++ owed_to proxy core.owed) sent_is

      -- what was sent begins the answers of the reference resolver
      sent_begins : IsPrefix l.lanes.replies.sent (answers core.set.window entire proxy)
      sent_begins =
          begins_then l.lanes.replies.sent (made_to proxy (sent_to lanes) core) (answers core.set.window entire proxy)
          (owed_to proxy core.owed, made_is)
          (made_begins p.core.stop entire (sent_to lanes) core core_stands proxy inside)

      -- if the reply lanes were closed, all that was made was sent
      made_sent : p.closed ≡ true → made_to proxy (sent_to lanes) core ≡ l.lanes.replies.sent
      made_sent closed =
          let through = are.through closed in
          made_is
          ∙ ap (λ owed. l.lanes.replies.sent ++ owed) (owed_none core.owed proxy through.nothing_owed inside)
          ∙ append-nil l.lanes.replies.sent

      -- and is all of them, if the reply lanes were closed and no stop was met
      sent_all : p.closed ≡ true → p.core.stop ≡ None → l.lanes.replies.sent ≡ answers core.set.window entire proxy
      sent_all closed none =
          let state = IsIn-standing p.core.stop entire (sent_to lanes) core none core_stands in
          sym (made_sent closed) ∙ state.answers proxy inside

      all_taken : HasEnded l.lanes.requests → l.lanes.requests.taken ≡ c.requests.sent
      all_taken ended =
          begins_entire l.lanes.requests.taken c.requests.sent requests.in_order
          (ended.all ∙ requests.all_seen ended.close)

      -- if its answers have ended, the reply lanes were closed, and it has taken all that was sent
      closed_at : HasEnded c.replies → p.closed ≡ true
      closed_at ended = sym (are.closed proxy l.lanes at) ∙ replies.seen_close ended.close

      taken_entire : HasEnded c.replies → c.replies.taken ≡ l.lanes.replies.sent
      taken_entire ended =
          begins_entire c.replies.taken l.lanes.replies.sent replies.in_order (ended.all ∙ replies.all_seen ended.close)

      -- each of its batches has its answer, if none is held
      one_each : EachBatchIsAnswered → (run core.set.window entire).held ≡ []
          → c.replies.taken ≡ answers core.set.window entire proxy → part log proxy ≡ c.requests.sent
          → length c.replies.taken ≡ length c.requests.sent
      one_each once none received batches =
          let all_answered = once core.set.window entire proxy in
          let left = ap (λ held. length (held_of proxy held)) none in
          let as_answers = ap length received in
          let as_batches = ap length (part_same ∙ batches) in
          omega (arith, all_answered, left, as_answers, as_batches)

      -- it has received a prefix of the answers of the reference resolver
      received : IsPrefix c.replies.taken (answers core.set.window entire proxy)
      received =
          begins_then c.replies.taken l.lanes.replies.sent (answers core.set.window entire proxy) replies.in_order sent_begins

      -- the log holds a prefix of its batches
      batches : IsPrefix (part log proxy) c.requests.sent
      batches = subst (λ taken. IsPrefix taken c.requests.sent) (sym part_is) requests.in_order

      entire_batches : IsPrefix (part entire proxy) c.requests.sent
      entire_batches = subst (λ taken. IsPrefix taken c.requests.sent) (sym part_same) batches

      -- a transaction that was reported to it as committed is committed
      reported : AnswersReportVerdicts → (version : ℤ) (j : ℕ) → ReportsCommitted c.replies.taken version j
          → IsCommittedAt (run core.set.window entire).processed proxy version j
      reported known_verdicts version j reports =
          known_verdicts.reported core.set.window entire proxy version j (record {
            reply = reports.reply;
            is_received = Contains-prefix c.replies.taken _ (answer.Reply reports.reply) received reports.is_received;
            at_version = reports.at_version;
            verdict = reports.verdict;
          })

      module _ (once : EachBatchIsAnswered) (none : NoneIsHeldAfterFinish) (known_verdicts : AnswersReportVerdicts) (account : Account)
          (is : account.complete ≡ true → IsComplete (resolver_of p) clients) (stop : account.stop ≡ p.core.stop) where
        ended_is : has_ended lanes proxy ≡ l.lanes.ended
        ended_is = field proxy l l_at (λ k. k.ended) true

        requests_ended : has_ended lanes proxy ≡ true → HasEnded l.lanes.requests
        requests_ended ended = are.ended proxy l.lanes at (sym ended_is ∙ ended)

        all_batches : has_ended lanes proxy ≡ true → part log proxy ≡ c.requests.sent
        all_batches ended = part_is ∙ all_taken (requests_ended ended)

        all_received : account.complete ≡ true → c.replies.taken ≡ answers core.set.window entire proxy
        all_received done =
            (is done).taken proxy c c_at ∙ sent_is ∙ sent_all (was_closed (is done)) (is done).no_stop

        every_ended : account.complete ≡ true → has_ended lanes proxy ≡ true
        every_ended done = ended_is ∙ ended_at lanes proxy l.lanes (have_ended (is done)) at

        receives : ReceivesAnswers core.set.window opening log (sent_to lanes proxy) account proxy c
        receives = record {
          received = received;
          all_received = all_received;
          each_answered = λ done.
              one_each once (holds_none none (is done)) (all_received done) (all_batches (every_ended done));
          received_of_sent = subst (IsPrefix c.replies.taken) (sym sent_is) replies.in_order;
          all_sent = λ ended. taken_entire ended ∙ sym sent_is;
          all_unless_stopped = λ ended no_stop.
              taken_entire ended ∙ sent_all (closed_at ended) (sym stop ∙ no_stop);
          all_before_last = λ ended before last is_log.
              let entire_is = ap (λ (steps : List Step). opening ++ steps) is_log
              ∙ sym (append_assoc opening before (last ∷ [])) in
              subst (IsPrefix (answers core.set.window (opening ++ before) proxy))
              (made_sent (closed_at ended) ∙ sym (taken_entire ended))
              (made_before_last p.core.stop entire (sent_to lanes) core core_stands (opening ++ before) last entire_is proxy
              inside);
        }

        learns : LearnsVerdicts core.set.window opening log account proxy c
        learns = record {
          replies = λ reply among.
              known_verdicts.replies core.set.window entire proxy c.requests.sent entire_batches.0 entire_batches.1 reply
              (Contains-prefix c.replies.taken _ (answer.Reply reply) received among);
          all_replies = λ done entry there own.
              subst (λ taken. Contains taken (answer.Reply entry.reply)) (sym (all_received done))
              (subst (λ q. Contains (answers core.set.window entire q) (answer.Reply entry.reply)) own
              (known_verdicts.answered core.set.window entire entry there));
          all_reported = λ done version j committed.
              subst (λ taken. ReportsCommitted taken version j) (sym (all_received done))
              (known_verdicts.all_reported core.set.window entire proxy version j committed);
        }

        pub settled_for : SettledFor core.set.window opening log (has_ended lanes proxy) (sent_to lanes proxy) account proxy c
        settled_for = record {
          batches = batches;
          all_batches = all_batches;
          nothing_after = λ ended. requests.seen_close (requests_ended ended).close;
          all_ended = every_ended;
          receives = receives;
          learns = learns;
        }

    -- the headline, of all clients
    pub settled : LanesHold p.all_lanes clients → RunsAreChains → EachBatchIsAnswered → NoneIsHeldAfterFinish
        → ChainsAreSerializable → AnswersReportVerdicts
        → (account : Account)
        → (account.complete ≡ true → IsComplete (resolver_of p) clients) → account.stop ≡ p.core.stop
        → SettledFrom version core.set.window log lanes clients account
    settled holds chains once none serializable known_verdicts account is stop = record {
      serializable = serializable core.set.window (run core.set.window entire).processed (chains core.set.window entire);
      reported = λ proxy c at.
          let l = proxy_lanes_of proxy c at in
          let both = holds proxy l.0 c l.1 at in
          reported proxy c l.0 at l.1 both.0 both.1 known_verdicts;
      each = λ proxy c at.
          let l = proxy_lanes_of proxy c at in
          let both = holds proxy l.0 c l.1 at in
          settled_for proxy c l.0 at l.1 both.0 both.1 once none known_verdicts account is stop;
      proxies = only;
      from_clients = from_clients;
      chain = chains core.set.window entire;
      finish = λ done. finishes (is done);
      none_held = λ done. holds_none none (is done);
      no_stop = λ done. stop ∙ (is done).no_stop;
    }
      where
        only : TakesOnlyFrom (length clients) log
        only = subst (λ many. TakesOnlyFrom many log) (sym as_many) (stands_only version (resolver_of p) log stands)

        from_clients : (index : ℕ) (entry : Processed)
            → slice_get (run core.set.window entire).processed index ≡ Some entry
            → length (run core.set.window opening).processed ≤ index
            → IsSomeAnd (slice_get clients entry.proxy) (λ c. IsSent core.set.window entire c.requests.sent index entry)
        from_clients index entry at later =
            let known = known_sender core.set.window (length clients) log chains known_verdicts only version index entry at later in
            let c = some_at clients entry.proxy known in
            let l = proxy_lanes_of entry.proxy c.0 c.1 in
            let both = holds entry.proxy l.0 c.0 l.1 c.1 in
            let sent = entire_batches entry.proxy c.0 l.0 c.1 l.1 both.0 both.1 in
            is_some_at (λ c. IsSent core.set.window entire c.requests.sent index entry) (slice_get clients entry.proxy) c.0 c.1
            (known_verdicts.sent core.set.window entire index entry at c.0.requests.sent sent.0 sent.1)
