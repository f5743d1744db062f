-- Clients served in one thread: what each has sent and taken, beside a log for which the resolver stands.
use Rattle.std.proofs.Common.{◌≡◌, ℕ, zero, suc, ◌<◌, Bool, List, [], ◌∷◌, length, map, Some, set, refl, sym, ap, ap₂, subst, ◌∙◌, inl, inr, arith}
use Rattle.std.specs.Prelude.{ℤ, All, Option, None, IsSomeAnd, slice_get}
use Rattle.std.proofs.lemmas.Bool.{cases_eq}
use Rattle.std.proofs.lemmas.Option.{none-some, same_Some, slice_get_within, get_or_from_slice_get}
use Rattle.std.proofs.lemmas.List.{length-set}
use Rattle.std.proofs.lemmas.List.Elements.{All-get_or}
use Rattle.keyspace.specs.declared.answer.Answer.{Answer}
use Rattle.keyspace.specs.declared.batch.Batch.{Batch}
use Rattle.keyspace.specs.Processed.{Processed}
use Rattle.keyspace.specs.Run.{Step, run, answers, part}
use Rattle.serial.specs.Replies.{IsSent, IsCommittedAt, ReportsCommitted}
use Rattle.lane.specs.Lane.{PortContinues, IntakeContinues}
use Rattle.resolver.specs.declared.client.Client.{Client}
use Rattle.proved_callers.specs.declared.served_proxies.Served.{Served}
use Rattle.resolver.specs.Core.{Continues, IsPrefix}
use Rattle.resolver.specs.declared.turn.Account.{Account}
use Rattle.resolver.specs.Lanes.{Each, LanesContinue, has_ended, sent_to}
use Rattle.resolver.specs.Resolver.{ResolverState, IsResolving, TakesOnlyFrom, AreClients, IsNewClient}
use Rattle.resolver.specs.Settled.{Settled, SettledFor}
use Rattle.proved_callers.specs.Served.{ServedFor, IsOneOf, AreServed, HasDone, AreServing}
use Rattle.resolver.proofs.callers.Lists.{slice_get-set_same, slice_get-set_other}
use Rattle.resolver.proofs.callers.Later.{ClientContinues, port_same, intake_same, clients_same, clients_set, lanes_same, AreClients-later}
use Rattle.keys.proofs.callers.Lists.{some_at}

-- what stands at an index of a list, after a write there
written_at : {A : Type 0} (xs : List A) (i j : ℕ) (x y : A) → j ≡ i → i < length xs → slice_get (set xs i x) j ≡ Some y
    → x ≡ y
written_at xs i j x y here inside at =
    same_Some x y (sym (slice_get-set_same xs i x inside) ∙ ap (slice_get (set xs i x)) (sym here) ∙ at)

-- an element of a list of two that are the same
both_same : {A : Type 0} (x : A) (i : ℕ) (y : A) → slice_get (x ∷ x ∷ []) i ≡ Some y → x ≡ y
both_same x zero y at = same_Some x y at
both_same x (suc zero) y at = same_Some x y at
both_same x (suc (suc i)) y at = absurd (none-some y at)

module _ (window : ℤ) (r : ResolverState) (clients : List Client) (sent : List (List Batch))
    (taken : List (List Answer)) (are : AreServing window r clients sent taken) where
  -- and after a turn of the resolver
  pub serving_turned : (s : ResolverState) → IsResolving s → Continues r.core s.core
      → Each (λ _ l m. LanesContinue l m) r.lanes s.lanes → AreServing window s clients sent taken
  serving_turned s resolving continues lanes = record {
    resolving = resolving;
    window_is = continues.window ∙ are.window_is;
    same_lanes = AreClients-later r.lanes s.lanes clients clients are.same_lanes lanes (clients_same clients);
    sent_count = are.sent_count;
    taken_count = are.taken_count;
    each = are.each;
  }

  -- and after the client at a number has sent or taken something
  module _ (proxy : ℕ) (old new : Client) (at : slice_get clients proxy ≡ Some old) (continues : ClientContinues old new)
      (batches : List Batch) (answers : List Answer) (done : HasDone batches answers new) where
    inside : proxy < length clients
    inside = slice_get_within clients proxy old at

    each_moved : (other : ℕ) (c : Client) (bs : List Batch) (answers_taken : List Answer)
        → slice_get (set clients proxy new) other ≡ Some c → slice_get (set sent proxy batches) other ≡ Some bs
        → slice_get (set taken proxy answers) other ≡ Some answers_taken → HasDone bs answers_taken c
    each_moved other c bs answers_taken c_at bs_at reported_at = elim (cases_eq other proxy) [
      | inl here ↦
          let client = written_at clients proxy other new c here inside c_at in
          let sent_is = written_at sent proxy other batches bs here (omega (arith, inside, are.sent_count)) bs_at in
          let taken_is = written_at taken proxy other answers answers_taken here (omega (arith, inside, are.taken_count)) reported_at in
          record {
            sent = ap (λ k. k.requests.sent) (sym client) ∙ done.sent ∙ sent_is;
            taken = ap (λ k. k.replies.taken) (sym client) ∙ done.taken ∙ taken_is;
          }
      | inr elsewhere ↦
          are.each other c bs answers_taken (sym (slice_get-set_other clients proxy other new elsewhere) ∙ c_at)
          (sym (slice_get-set_other sent proxy other batches elsewhere) ∙ bs_at)
          (sym (slice_get-set_other taken proxy other answers elsewhere) ∙ reported_at)
    ]

    pub serving_moved : AreServing window r (set clients proxy new) (set sent proxy batches) (set taken proxy answers)
    serving_moved = record {
      resolving = are.resolving;
      window_is = are.window_is;
      same_lanes =
          AreClients-later r.lanes r.lanes clients (set clients proxy new) are.same_lanes (lanes_same r.lanes)
          (clients_set clients proxy old new at continues);
      sent_count = length-set sent proxy batches ∙ are.sent_count ∙ sym (length-set clients proxy new);
      taken_count = length-set taken proxy answers ∙ are.taken_count ∙ sym (length-set clients proxy new);
      each = each_moved;
    }

  -- after the client at a number has sent these batches
  pub serving_sent : (proxy : ℕ) (old new : Client) (before batches : List Batch) (answers : List Answer)
      → slice_get clients proxy ≡ Some old → slice_get sent proxy ≡ Some before → slice_get taken proxy ≡ Some answers
      → PortContinues old.requests new.requests → new.requests.sent ≡ batches → new.replies ≡ old.replies
      → AreServing window r (set clients proxy new) (set sent proxy batches) (set taken proxy answers)
  serving_sent proxy old new before batches answers at sent_at taken_at port sends replies =
      serving_moved proxy old new at
      (record {
        requests = port;
        replies = subst (IntakeContinues old.replies) (sym replies) (intake_same old.replies);
      })
      batches answers
      (record {
        sent = sends;
        taken = ap (λ t. t.taken) replies ∙ (are.each proxy old before answers at sent_at taken_at).taken;
      })

  -- after the client at a number has taken answers, which are these now
  pub serving_received : (proxy : ℕ) (old new : Client) (batches : List Batch) (before answers : List Answer)
      → slice_get clients proxy ≡ Some old → slice_get sent proxy ≡ Some batches → slice_get taken proxy ≡ Some before
      → IntakeContinues old.replies new.replies → new.replies.taken ≡ answers → new.requests ≡ old.requests
      → AreServing window r (set clients proxy new) (set sent proxy batches) (set taken proxy answers)
  serving_received proxy old new batches before answers at sent_at taken_at intake takes requests =
      serving_moved proxy old new at
      (record {
        requests = subst (PortContinues old.requests) (sym requests) (port_same old.requests);
        replies = intake;
      })
      batches answers
      (record {
        sent = ap (λ p. p.sent) requests ∙ (are.each proxy old batches before at sent_at taken_at).sent;
        taken = takes;
      })

-- the lists sent are those of the clients
sent_by : (clients : List Client) (sent : List (List Batch)) → length sent ≡ length clients
    → ((i : ℕ) (c : Client) (batches : List Batch) → slice_get clients i ≡ Some c → slice_get sent i ≡ Some batches
    → c.requests.sent ≡ batches)
    → map (λ c. c.requests.sent) clients ≡ sent
sent_by [] [] count each = refl
sent_by [] (b ∷ sent) count each = absurd (omega (arith, count))
sent_by (c ∷ clients) [] count each = absurd (omega (arith, count))
sent_by (c ∷ clients) (b ∷ sent) count each =
    ap₂ ◌∷◌ (each zero c b refl refl) (sent_by clients sent (omega (arith, count)) (λ i. each (suc i)))

pub serving_sent_by : (window : ℤ) (r : ResolverState) (clients : List Client) (sent : List (List Batch))
    (taken : List (List Answer)) → AreServing window r clients sent taken
    → map (λ c. c.requests.sent) clients ≡ sent
serving_sent_by window r clients sent taken are =
    sent_by clients sent are.sent_count (λ i c batches c_at batches_at.
    let many = are.taken_count in
    let inside = slice_get_within clients i c c_at in
    let answers = some_at taken i (omega (arith, many, inside)) in
    (are.each i c batches answers.0 c_at batches_at answers.1).sent)

-- a client of a list of new ones is new
pub new_at : (capacity : ℕ) (clients : List Client) (proxy : ℕ) (c : Client) → All (IsNewClient capacity) clients
    → slice_get clients proxy ≡ Some c → IsNewClient capacity c
new_at capacity clients proxy c new at =
    subst (IsNewClient capacity) (get_or_from_slice_get clients proxy c c at)
    (All-get_or (IsNewClient capacity) clients proxy c (slice_get_within clients proxy c at) new)

-- at the opening nothing was sent or taken
pub serving_opened : (window : ℤ) (r : ResolverState) (clients : List Client) (capacity : ℕ) → IsResolving r
    → r.core.set.window ≡ window → AreClients r.lanes clients → length clients ≡ 2
    → All (IsNewClient capacity) clients → AreServing window r clients ([] ∷ [] ∷ []) ([] ∷ [] ∷ [])
serving_opened window r clients capacity resolving window_is same count new = record {
  resolving = resolving;
  window_is = window_is;
  same_lanes = same;
  sent_count = sym count;
  taken_count = sym count;
  each = λ proxy c batches answers c_at batches_at answers_at.
      let is = new_at capacity clients proxy c new c_at in
      record {
        sent = ap (λ p. p.sent) is.requests ∙ both_same [] proxy batches batches_at;
        taken = ap (λ t. t.taken) is.replies ∙ both_same [] proxy answers answers_at;
      };
}

-- what was settled for a client, of its batches and answers
served_for : (window : ℤ) (log : List Step) (ended : Bool) (answers_sent : List Answer) (account : Account) (proxy : ℕ) (c : Client)
    (batches : List Batch) (answers_taken : List Answer) → SettledFor window [] log ended answers_sent account proxy c
    → ((version : ℤ) (j : ℕ) → ReportsCommitted c.replies.taken version j
    → IsCommittedAt (run window log).processed proxy version j)
    → HasDone batches answers_taken c → ServedFor window log account.complete proxy batches answers_taken
served_for window log ended answers_sent account proxy c batches answers_taken settled reported done = record {
  batches = subst (IsPrefix (part log proxy)) done.sent settled.batches;
  all_batches = λ yes. settled.all_batches (settled.all_ended yes) ∙ done.sent;
  in_order = subst (λ taken. IsPrefix taken (answers window log proxy)) done.taken settled.receives.received;
  all_received = λ yes. sym done.taken ∙ settled.receives.all_received yes;
  each_answered = λ yes. ap length (sym done.taken) ∙ settled.receives.each_answered yes ∙ ap length done.sent;
  reported = λ version j reports.
      reported version j (subst (λ taken. ReportsCommitted taken version j) (sym done.taken) reports);
  all_reported = λ yes version j is.
      subst (λ taken. ReportsCommitted taken version j) done.taken (settled.learns.all_reported yes version j is);
}

-- a list of one has no other element
pub only_one : {A : Type 0} (x : A) (i : ℕ) (y : A) → slice_get (x ∷ []) i ≡ Some y → y ≡ x
only_one x zero y at = sym (same_Some x y at)
only_one x (suc i) y at = absurd (none-some y at)

-- a batch that one of two proxies has sent, each of which has sent one
one_of_both : (first second : Batch) (entry : Processed) (proxy : ℕ) (batches : List Batch) (n : ℕ) → entry.proxy ≡ proxy
    → slice_get ((first ∷ []) ∷ (second ∷ []) ∷ []) proxy ≡ Some batches → slice_get batches n ≡ Some entry.batch
    → IsOneOf first second entry
one_of_both first second entry zero batches n own sent at =
    inl (own, only_one first n entry.batch (ap (λ bs. slice_get bs n) (same_Some (first ∷ []) batches sent) ∙ at))
one_of_both first second entry (suc zero) batches n own sent at =
    inr (own, only_one second n entry.batch (ap (λ bs. slice_get bs n) (same_Some (second ∷ []) batches sent) ∙ at))
one_of_both first second entry (suc (suc proxy)) batches n own sent at = absurd (none-some batches sent)

-- what holds of the value that there is
value_of : {X : Type 0} (P : X → Type 0) (o : Option X) → IsSomeAnd o P → (x : X) × (o ≡ Some x) × P x
value_of P None h = elim h [ ]
value_of P (Some x) h = (x, refl, h)

-- so the account that settles the clients speaks of both proxies
pub serving_settled : (window : ℤ) (r : ResolverState) (clients : List Client) (first second : Batch) (served : Served)
    → (are : AreServing window r clients ((first ∷ []) ∷ (second ∷ []) ∷ []) (served.first.items ∷ served.second.items ∷ []))
    → ((log : List Step) × Settled r.core.set.window log r.lanes clients served.account)
    → (log : List Step) × AreServed window log first second served
serving_settled window r clients first second served are settled = (
  log,
  record {
    serializable = all.serializable;
    proxy_0 = served_for window log (has_ended r.lanes 0) (sent_to r.lanes 0) served.account 0 client_0.0 (first ∷ [])
        served.first.items (all.each 0 client_0.0 client_0.1) (all.reported 0 client_0.0 client_0.1)
        (are.each 0 client_0.0 (first ∷ []) served.first.items client_0.1 refl refl);
    proxy_1 = served_for window log (has_ended r.lanes 1) (sent_to r.lanes 1) served.account 1 client_1.0 (second ∷ [])
        served.second.items (all.each 1 client_1.0 client_1.1) (all.reported 1 client_1.0 client_1.1)
        (are.each 1 client_1.0 (second ∷ []) served.second.items client_1.1 refl refl);
    from_both = from_both;
    proxies = subst (λ many. TakesOnlyFrom many log) (sym are.sent_count) all.proxies;
    chain = all.chain;
    finish = all.finish;
    none_held = all.none_held;
    no_stop = all.no_stop;
  },
)
  where
    log : List Step
    log = settled.0

    all : Settled window log r.lanes clients served.account
    all = subst (λ w. Settled w log r.lanes clients served.account) are.window_is settled.1

    client_0 : (c : Client) × (slice_get clients 0 ≡ Some c)
    client_0 = some_at clients 0 (let many = are.sent_count in omega (arith, many))

    client_1 : (c : Client) × (slice_get clients 1 ≡ Some c)
    client_1 = some_at clients 1 (let many = are.sent_count in omega (arith, many))

    from_both : (index : ℕ) (entry : Processed) → slice_get (run window log).processed index ≡ Some entry
        → IsOneOf first second entry
    from_both index entry at =
        let Sends : Client → Type 0 = λ c. IsSent window log c.requests.sent index entry in
        let c = value_of Sends (slice_get clients entry.proxy) (all.from_clients index entry at (omega arith)) in
        let inside = slice_get_within clients entry.proxy c.0 c.1 in
        let sent_many = are.sent_count in
        let taken_many = are.taken_count in
        let sent = some_at ((first ∷ []) ∷ (second ∷ []) ∷ []) entry.proxy (omega (arith, inside, sent_many)) in
        let taken = some_at (served.first.items ∷ served.second.items ∷ []) entry.proxy
        (omega (arith, inside, taken_many)) in
        let done = are.each entry.proxy c.0 sent.0 taken.0 c.1 sent.1 taken.1 in
        one_of_both first second entry entry.proxy sent.0 (length (part c.2.before entry.proxy)) refl sent.1
        (ap (λ bs. slice_get bs (length (part c.2.before entry.proxy))) (sym done.sent) ∙ c.2.next)
