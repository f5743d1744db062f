-- What each worker was given, and what it handed back.
use Rattle.std.specs.Prelude.{◌≡◌, ℕ, zero, suc, ◌+◌, Bool, true, false, List, [], ◌∷◌, ◌++◌, length, map, Option, Some, None, slice_get}
use Rattle.std.specs.List.{All, AllZip}
use Rattle.std.proofs.Common.{refl, sym, ap, subst, ◌∙◌, arith}
use Rattle.std.proofs.lemmas.Bool.{false≢true}
use Rattle.std.proofs.lemmas.List.{length-map, map-append}
use Rattle.std.proofs.lemmas.List.Elements.{All-nil, All-cons, All-head, All-tail, All-push}
use Rattle.std.proofs.lemmas.Option.{none-some, same_Some, get_or_from_slice_get}
use Rattle.keys.proofs.callers.Lists.{some_at}
use Rattle.keyspace.specs.declared.batch.Batch.{Batch}
use Rattle.lane.specs.Lane.{HasEnded}
use Rattle.wire.specs.declared.error.WireError.{WireError}
use Rattle.resolver.specs.declared.client.Client.{Client}
use Rattle.resolver.specs.Resolver.{IsNewClient, SameClients}
use Rattle.replay_output.specs.declared.options.style.Style.{Style}
use Rattle.replay_workers.specs.declared.outcome.RunOutcome.{RunOutcome}
use Rattle.replay_workers.specs.declared.threads.StartedWorkers.{StartedWorkers}
use Rattle.replay_workers.specs.declared.worker.Finished.{Finished}
use Rattle.replay_workers.specs.declared.threads.Worked.{Worked}
use Rattle.wire.specs.Batches.{EndsWith}
use Rattle.replay_workers.specs.Worker.{HasWorkedOver, ClientContinues}
use Rattle.replay_workers.specs.Threads.{Given, finished_of, given_each, given_to, HasWorkedOn, ReturnsBatch, IsOutcomeOf, failure_of}
use Rattle.replay_workers.specs.Run.{HasCapacity}
use Rattle.replay_workers.proofs.callers.Lists.{at_also, at_last}

-- whether a batch was handed back by now
returns_batch_also : (finished : List Finished) (f : Finished) (was now : Bool) (unsent : Option Batch) → f.unsent ≡ unsent
    → (was ≡ false → ReturnsBatch finished) → (was ≡ true → unsent ≡ None → now ≡ true) → now ≡ false
    → ReturnsBatch (finished ++ f ∷ [])
returns_batch_also finished f false now unsent is before sends none =
    let back = before refl in
    record {
      place = back.place;
      worker = back.worker;
      at = at_also finished back.place back.worker f back.at;
      batch = back.batch;
      unsent = back.unsent;
    }
returns_batch_also finished f true now None is before sends none =
    absurd (false≢true (sym none ∙ sends refl refl))
returns_batch_also finished f true now (Some batch) is before sends none =
    record { place = length finished; worker = f; at = at_last finished f; batch = batch; unsent = is }

-- one worker more has handed back
pub outcome_also : (finished : List Finished) (old new : RunOutcome) (f : Finished) → IsOutcomeOf finished old
    → new.clients.items ≡ old.clients.items ++ f.client ∷ [] → new.lines.items ≡ old.lines.items ++ f.lines ∷ []
    → new.failures.items ≡ old.failures.items ++ failure_of f ∷ []
    → (new.all_sent ≡ true → (old.all_sent ≡ true) × (f.unsent ≡ None))
    → (old.all_sent ≡ true → f.unsent ≡ None → new.all_sent ≡ true) → IsOutcomeOf (finished ++ f ∷ []) new
outcome_also finished old new f of clients lines failures sent sends = record {
  clients = clients ∙ ap (λ l. l ++ f.client ∷ []) of.clients ∙ sym (map-append (λ (f : Finished). f.client) finished (f ∷ []));
  results = record {
    lines = lines ∙ ap (λ l. l ++ f.lines ∷ []) of.results.lines ∙ sym (map-append (λ (f : Finished). f.lines) finished (f ∷ []));
    failures = failures ∙ ap (λ l. l ++ failure_of f ∷ []) of.results.failures ∙ sym (map-append failure_of finished (f ∷ []));
    all_sent = λ all.
        let both = sent all in
        All-push (λ (f : Finished). f.unsent ≡ None) finished f (of.results.all_sent both.0) both.1;
    unsent = returns_batch_also finished f old.all_sent new.all_sent f.unsent refl of.results.unsent sends;
  };
}

pub given_count : {B : Type 0} (style : Style) (share first : ℕ) (clients : List Client) (streams : List B)
    → length streams ≡ length clients → length (given_each style share first clients streams) ≡ length clients
given_count style share first [] streams same = refl
given_count style share first (c ∷ clients) [] same = absurd (omega (arith, same))
given_count style share first (c ∷ clients) (r ∷ streams) same =
    let rest = given_count style share (first + 1) clients streams (omega (arith, same)) in
    omega (arith, rest)

-- each task has a stream of which this is true
pub given_all : {B : Type 0} (P : B → Type 0) (style : Style) (share first : ℕ) (clients : List Client) (streams : List B)
    → All P streams → All (λ (given : Given B). P given.batches) (given_each style share first clients streams)
given_all P style share first [] streams all = All-nil (λ given. P given.batches)
given_all P style share first (c ∷ clients) [] all = All-nil (λ given. P given.batches)
given_all P style share first (c ∷ clients) (b ∷ streams) all =
    All-cons (λ given. P given.batches) _ (given_each style share (first + 1) clients streams) (All-head P b streams all)
    (given_all P style share (first + 1) clients streams (All-tail P b streams all))

-- as many workers were started as there are streams
pub started_count : {B : Type 0} (style : Style) (share : ℕ) (clients : List Client) (streams : List B) (workers : List (StartedWorkers B))
    → length streams ≡ length clients → map given_to workers ≡ given_each style share 0 clients streams
    → length workers ≡ length streams
started_count style share clients streams workers same given =
    sym (length-map workers given_to) ∙ ap length given ∙ given_count style share 0 clients streams same ∙ sym same

-- new clients that were handed back have the capacity of their lanes
pub capacities : (capacity : ℕ) (clients back : List Client) → All (IsNewClient capacity) clients
    → AllZip ClientContinues clients back → All (HasCapacity capacity) back
capacities capacity [] [] new goes = λ k d inside. absurd (omega arith)
capacities capacity [] (b ∷ back) new goes = absurd goes
capacities capacity (c ∷ clients) [] new goes = absurd goes
capacities capacity (c ∷ clients) (b ∷ back) new goes =
    let first = All-head (IsNewClient capacity) c clients new in
    All-cons (HasCapacity capacity) b back (
      goes.0.requests.capacity ∙ ap (λ p. p.capacity) first.requests,
      goes.0.replies.capacity ∙ ap (λ i. i.capacity) first.replies,
    )
    (capacities capacity clients back (All-tail (IsNewClient capacity) c clients new) goes.1)

pub capacities_stay : (capacity : ℕ) (old new : List Client) → SameClients old new → All (HasCapacity capacity) old
    → All (HasCapacity capacity) new
capacities_stay capacity old new same all place d inside =
    let c = some_at old place (omega (arith, inside, same.count)) in
    let e = some_at new place inside in
    let has : HasCapacity capacity c.0 =
    subst (HasCapacity capacity) (get_or_from_slice_get old place c.0 d c.1) (all place d (omega (arith, inside, same.count))) in
    let goes = same.each place c.0 e.0 c.1 e.1 in
    subst (HasCapacity capacity) (sym (get_or_from_slice_get new place e.0 d e.1))
    (goes.requests.capacity ∙ has.0, goes.replies.capacity ∙ has.1)

module _ {B : Type 0} (Gives : B → B → Batch → Type 0) (IsEnd : B → Type 0) (IsFault : B → WireError → Type 0)
    (Stays : B → B → Type 0) where
  -- a worker that ended with this stream
  abbrev pub Over : Style → ℕ → B → Client → Worked B → Type 0
  Over style proxy first given worked =
      HasWorkedOver Gives IsEnd IsFault (λ left. EndsWith Stays left worked.batches) style proxy first given worked.finished

  -- each client is handed back as the one that was given
  pub clients_back : (style : Style) (share first : ℕ) (clients : List Client) (streams : List B) (worked : List (Worked B))
      → length streams ≡ length clients
      → AllZip (HasWorkedOn Gives IsEnd IsFault Stays) (given_each style share first clients streams) worked
      → AllZip ClientContinues clients (map (λ (f : Finished). f.client) (finished_of worked))
  clients_back style share first [] streams [] same all = tt
  clients_back style share first [] streams (f ∷ worked) same all = absurd all
  clients_back style share first (c ∷ clients) [] worked same all = absurd (omega (arith, same))
  clients_back style share first (c ∷ clients) (r ∷ streams) [] same all = absurd all
  clients_back style share first (c ∷ clients) (r ∷ streams) (f ∷ worked) same all =
      (all.0.client, clients_back style share (first + 1) clients streams worked (omega (arith, same)) all.1)

  pub finished_count : (style : Style) (share first : ℕ) (clients : List Client) (streams : List B) (worked : List (Worked B))
      → length streams ≡ length clients
      → AllZip (HasWorkedOn Gives IsEnd IsFault Stays) (given_each style share first clients streams) worked
      → length worked ≡ length clients
  finished_count style share first [] streams [] same all = refl
  finished_count style share first [] streams (f ∷ worked) same all = absurd all
  finished_count style share first (c ∷ clients) [] worked same all = absurd (omega (arith, same))
  finished_count style share first (c ∷ clients) (r ∷ streams) [] same all = absurd all
  finished_count style share first (c ∷ clients) (r ∷ streams) (f ∷ worked) same all =
      let rest = finished_count style share (first + 1) clients streams worked (omega (arith, same)) all.1 in
      omega (arith, rest)

  -- each client has taken its answers to their end
  pub clients_ended : (given : List (Given B)) (worked : List (Worked B)) → AllZip (HasWorkedOn Gives IsEnd IsFault Stays) given worked
      → (place : ℕ) (c : Client) → slice_get (map (λ (f : Finished). f.client) (finished_of worked)) place ≡ Some c
      → HasEnded c.replies
  clients_ended given [] all place c at = absurd (none-some c at)
  clients_ended [] (f ∷ worked) all place c at = absurd all
  clients_ended (one ∷ given) (f ∷ worked) all zero c at =
      subst (λ (c : Client). HasEnded c.replies) (same_Some f.finished.client c at) all.0.ended
  clients_ended (one ∷ given) (f ∷ worked) all (suc place) c at = clients_ended given worked all.1 place c at

  -- the worker at this place was given the client and the stream at it, and its proxy is the place
  pub worked_at : (style : Style) (share first : ℕ) (clients : List Client) (streams : List B) (worked : List (Worked B))
      → length streams ≡ length clients
      → AllZip (HasWorkedOn Gives IsEnd IsFault Stays) (given_each style share first clients streams) worked
      → (place : ℕ) (own : B) (f : Worked B) → slice_get streams place ≡ Some own
      → slice_get worked place ≡ Some f
      → (c : Client) × (slice_get clients place ≡ Some c) × Over style (first + place) own c f
  worked_at style share first clients [] worked same all place own f at there = absurd (none-some own at)
  worked_at style share first [] (r ∷ streams) worked same all place own f at there = absurd (omega (arith, same))
  worked_at style share first (c ∷ clients) (r ∷ streams) [] same all place own f at there = absurd all
  worked_at style share first (c ∷ clients) (r ∷ streams) (g ∷ worked) same all zero own f at there = (
    c,
    refl,
    subst (λ (first : ℕ). Over style first own c f) (omega arith)
        (subst (λ (own : B). Over style first own c f) (same_Some r own at)
        (subst (λ (f : Worked B). Over style first r c f) (same_Some g f there) all.0)),
  )
  worked_at style share first (c ∷ clients) (r ∷ streams) (g ∷ worked) same all (suc place) own f at there =
      let rest = worked_at style share (first + 1) clients streams worked (omega (arith, same)) all.1 place own f at there in
      (rest.0, rest.1, subst (λ (proxy : ℕ). Over style proxy own rest.0 f) (omega arith) rest.2)
