-- A run, put together of what each worker has done and of what was settled.
use Rattle.std.specs.Prelude.{◌≡◌, ℕ, Bool, true, false, ◌&&◌, List, length, map, Option, Some, None, IfSome, IsSomeAnd, slice_get, vec_items}
use Rattle.std.specs.List.{AllZip, All}
use Rattle.std.proofs.Common.{refl, sym, ap, subst, ◌∙◌, arith}
use Rattle.std.proofs.lemmas.List.{length-map}
use Rattle.std.proofs.lemmas.Option.{same_Some}
use Rattle.keyspace.specs.declared.batch.Batch.{Batch}
use Rattle.keyspace.specs.Run.{Step}
use Rattle.wire.specs.declared.error.WireError.{WireError}
use Rattle.resolver.specs.declared.client.Client.{Client}
use Rattle.resolver.specs.declared.turn.Account.{Account}
use Rattle.resolver.specs.Lanes.{Lanes, has_ended, sent_to}
use Rattle.resolver.specs.Resolver.{TakesOnlyFrom, IsNewClient}
use Rattle.resolver.specs.Settled.{Settled}
use Rattle.replay_output.specs.declared.failures.ProxyFailure.{ProxyFailure}
use Rattle.replay_output.specs.declared.line.Line.{Line}
use Rattle.replay_output.specs.declared.options.Options.{Options}
use Rattle.replay_workers.specs.declared.outcome.RunOutcome.{RunOutcome}
use Rattle.replay_workers.specs.declared.threads.Worked.{Worked}
use Rattle.replay_workers.specs.declared.worker.Finished.{Finished}
use Rattle.wire.specs.Batches.{EndsWith}
use Rattle.replay_workers.specs.Worker.{HasWorkedOver}
use Rattle.replay_workers.specs.Threads.{given_each, finished_of, streams_of, HasWorkedOn, HasResultsOf, failure_of}
use Rattle.replay_workers.specs.Run.{EndsAt, IsServedOver, LeavesBatchOver, IsRunOver, is_complete}
use Rattle.replay_workers.specs.Stops.{IsStopOf}
use Rattle.replay_workers.proofs.callers.Lists.{all_at, found, both, mapped_at}
use Rattle.replay_workers.proofs.Serving.{kept_so, served, left_over}
use Rattle.replay_workers.proofs.Working.{finished_count, worked_at}

module _ {B : Type 0} (Gives : B → B → Batch → Type 0) (IsEnd : B → Type 0) (IsFault : B → WireError → Type 0)
    (Stays : B → B → Type 0) (options : Options) (share : ℕ) (streams : List B) (clients : List Client)
    (workers : List (Worked B)) (outcome : RunOutcome) (ended : List B) (log : List Step) (lanes : List Lanes) (account : Account)
    (same : length streams ≡ length clients) (new : All (IsNewClient options.capacity) clients)
    (worked : AllZip (HasWorkedOn Gives IsEnd IsFault Stays) (given_each options.style share 0 clients streams) workers)
    (of_finished : HasResultsOf (finished_of workers) outcome) (of_ended : ended ≡ streams_of workers)
    (settled : Settled options.window log lanes (map (λ (f : Finished). f.client) (finished_of workers)) account)
    (entire : account.stop ≡ None → account.complete ≡ true)
    (met : IfSome account.stop (IsStopOf options.limit options.window log)) where
  count : length workers ≡ length streams
  count = finished_count Gives IsEnd IsFault Stays options.style share 0 clients streams workers same worked ∙ sym same

  finished_at : (proxy : ℕ) (w : Worked B) → slice_get workers proxy ≡ Some w → slice_get (finished_of workers) proxy ≡ Some w.finished
  finished_at proxy w there = mapped_at (λ (w : Worked B). w.finished) workers proxy w there

  -- what the worker of the proxy has done, with the client that it was given
  record WorkerAt (proxy : ℕ) (first : B) (w : Worked B) : Type 0 where
    client : Client
    new_client : IsNewClient options.capacity client
    has_worked : HasWorkedOver Gives IsEnd IsFault (EndsAt Stays ended proxy) options.style proxy first client w.finished

  worker_at : (proxy : ℕ) (first : B) (w : Worked B) → slice_get streams proxy ≡ Some first → slice_get workers proxy ≡ Some w
      → WorkerAt proxy first w
  worker_at proxy first w at there =
      let given = worked_at Gives IsEnd IsFault Stays options.style share 0 clients streams workers same worked proxy first w at there in
      let so = λ (left : B) (ends : EndsWith Stays left w.batches).
      let here : slice_get ended proxy ≡ Some w.batches =
      ap (λ (l : List B). slice_get l proxy) of_ended ∙ mapped_at (λ (w : Worked B). w.batches) workers proxy w there in
      subst (λ (o : Option B). IsSomeAnd o (EndsWith Stays left)) (sym here) ends in
      record {
        client = given.0;
        new_client = all_at (IsNewClient options.capacity) clients proxy given.0 new given.1;
        has_worked =
            kept_so Gives IsEnd IsFault (λ (left : B). EndsWith Stays left w.batches) (EndsAt Stays ended proxy) so
            options.style proxy first given.0 w.finished
            (subst (λ (p : ℕ). HasWorkedOver Gives IsEnd IsFault (λ (left : B). EndsWith Stays left w.batches) options.style p first
            given.0 w.finished) (omega arith) given.2);
      }

  served_at : (proxy : ℕ) (first : B) (w : Worked B) → slice_get streams proxy ≡ Some first → slice_get workers proxy ≡ Some w
      → IsServedOver Gives IsEnd IsFault (EndsAt Stays ended proxy) options.window options.style log (is_complete outcome account)
      account.stop first proxy w.finished.lines.items (failure_of w.finished)
  served_at proxy first w at there =
      let worker = worker_at proxy first w at there in
      let client = worker.new_client in
      let here = mapped_at (λ (f : Finished). f.client) (finished_of workers) proxy w.finished (finished_at proxy w there) in
      served Gives IsEnd IsFault (EndsAt Stays ended proxy) options.window options.style log (has_ended lanes proxy) outcome.all_sent
      (sent_to lanes proxy) account first proxy worker.client w.finished (ap (λ p. p.sent) client.requests)
      (ap (λ p. p.closed) client.requests) (ap (λ i. i.taken) client.replies) worker.has_worked
      (settled.each proxy w.finished.client here) (settled.reported proxy w.finished.client here)
      (λ all. all_at (λ (f : Finished). f.unsent ≡ None) (finished_of workers) proxy w.finished (of_finished.all_sent all)
      (finished_at proxy w there))
      entire

  -- without a stop, what is missing is a batch that could not be sent
  leaves : is_complete outcome account ≡ false → account.stop ≡ None → LeavesBatchOver Gives streams log
  leaves not_all no_stop =
      let yes = entire no_stop in
      let not_sent : outcome.all_sent ≡ false = sym (ap (λ (b : Bool). b && outcome.all_sent) yes) ∙ not_all in
      let back = of_finished.unsent not_sent in
      let proxy = back.place in
      let w = found (finished_of workers) workers proxy back.worker (sym (length-map workers (λ (w : Worked B). w.finished))) back.at in
      let same_worker : w.0.finished ≡ back.worker =
      same_Some w.0.finished back.worker (sym (finished_at proxy w.0 w.1) ∙ back.at) in
      let first = found workers streams proxy w.0 (sym count) w.1 in
      let worker = worker_at proxy first.0 w.0 first.1 w.1 in
      let client = worker.new_client in
      let settled_for = settled.each proxy w.0.finished.client
      (mapped_at (λ (f : Finished). f.client) (finished_of workers) proxy w.0.finished (finished_at proxy w.0 w.1)) in
      let left = left_over Gives IsEnd IsFault (EndsAt Stays ended proxy) options.window options.style log (has_ended lanes proxy)
      (sent_to lanes proxy) account first.0 proxy worker.client w.0.finished back.batch (ap (λ p. p.sent) client.requests)
      (ap (λ p. p.closed) client.requests) worker.has_worked settled_for yes
      (ap (λ (f : Finished). f.unsent) same_worker ∙ back.unsent) in
      record {
        proxy = proxy;
        first = first.0;
        of_proxy = first.1;
        batch = back.batch;
        left = left.0;
        read = left.1;
        worn = left.2;
      }

  pub is_run : IsRunOver Gives IsEnd IsFault (EndsAt Stays ended) options streams (map vec_items outcome.lines.items)
      outcome.failures.items (is_complete outcome account) account.stop
  is_run = record {
    log = log;
    proxies =
        subst (λ (n : ℕ). TakesOnlyFrom n log)
        (length-map (finished_of workers) (λ (f : Finished). f.client) ∙ length-map workers (λ (w : Worked B). w.finished) ∙ count)
        settled.proxies;
    received_count =
        length-map outcome.lines.items vec_items ∙ ap length of_finished.lines
        ∙ length-map (finished_of workers) (λ (f : Finished). f.lines) ∙ length-map workers (λ (w : Worked B). w.finished) ∙ count;
    failures_count =
        ap length of_finished.failures ∙ length-map (finished_of workers) failure_of
        ∙ length-map workers (λ (w : Worked B). w.finished) ∙ count;
    each = λ proxy first lines failure at lines_at failure_at.
        let w = found streams workers proxy first count at in
        let f = w.0.finished in
        let there = finished_at proxy w.0 w.1 in
        let lines_here : slice_get (map vec_items outcome.lines.items) proxy ≡ Some f.lines.items =
        mapped_at vec_items outcome.lines.items proxy f.lines
        (ap (λ l. slice_get l proxy) of_finished.lines ∙ mapped_at (λ (f : Finished). f.lines) (finished_of workers) proxy f there) in
        let failure_here : slice_get outcome.failures.items proxy ≡ Some (failure_of f) =
        ap (λ l. slice_get l proxy) of_finished.failures ∙ mapped_at failure_of (finished_of workers) proxy f there in
        let here = served_at proxy first w.0 at w.1 in
        subst (λ (failure : ProxyFailure). IsServedOver Gives IsEnd IsFault (EndsAt Stays ended proxy) options.window options.style log
        (is_complete outcome account) account.stop first proxy lines failure)
        (same_Some (failure_of f) failure (sym failure_here ∙ failure_at))
        (subst (λ (lines : List Line). IsServedOver Gives IsEnd IsFault (EndsAt Stays ended proxy) options.window options.style log
        (is_complete outcome account) account.stop first proxy lines (failure_of f))
        (same_Some f.lines.items lines (sym lines_here ∙ lines_at)) here);
    chain = settled.chain;
    serializable = settled.serializable;
    finish = λ none. settled.finish (entire none);
    no_stop = λ all. settled.no_stop (both account.complete outcome.all_sent all).0;
    incomplete = leaves;
    met = met;
  }

  -- its log is that of these facts
  pub is_run_log : is_run.log ≡ log
  unfolding is_run
  is_run_log = refl
