-- Streams of which only a view is looked at, as the bytes left of a file.
use Rattle.std.specs.Prelude.{◌≡◌, ℕ, ℤ, Bool, List, [], ◌∷◌, map, Option}
use Rattle.std.proofs.Common.{refl, sym, ap, subst, ◌∙◌}
use Rattle.std.proofs.lemmas.List.{length-map}
use Rattle.std.proofs.lemmas.Option.{same_Some}
use Rattle.keyspace.specs.declared.batch.Batch.{Batch}
use Rattle.keyspace.specs.Run.{Step}
use Rattle.resolver.specs.declared.client.Client.{Client}
use Rattle.limits.specs.declared.stop.Stop.{Stop}
use Rattle.resolver.specs.Resolver.{TakesOnlyFrom}
use Rattle.wire.specs.declared.error.WireError.{WireError}
use Rattle.replay_output.specs.declared.failures.ProxyFailure.{ProxyFailure}
use Rattle.replay_output.specs.declared.line.Line.{Line}
use Rattle.replay_output.specs.declared.options.Options.{Options}
use Rattle.replay_output.specs.declared.options.style.Style.{Style}
use Rattle.replay_workers.specs.declared.worker.Finished.{Finished}
use Rattle.replay_workers.specs.Worker.{HasWorkedOver}
use Rattle.replay_workers.specs.Run.{IsServedOver, IsRunOver}
use Rattle.replay_workers.proofs.callers.Lists.{found, mapped_at}
use Rattle.replay_workers.proofs.callers.Reading.{gives_seen, sends_seen}

-- a view of a view
pub map_twice : {X Y Z : Type 0} (f : X → Y) (g : Y → Z) (xs : List X) → map (λ x. g (f x)) xs ≡ map g (map f xs)
map_twice f g [] = refl
map_twice f g (x ∷ xs) = ap (λ rest. g (f x) ∷ rest) (map_twice f g xs)

module _ {X Y : Type 0} (view : X → Y) (Gives : X → X → Batch → Type 0) (Viewed : Y → Y → Batch → Type 0) (IsEnd : Y → Type 0)
    (IsFault : Y → WireError → Type 0) (seen : (old new : X) (batch : Batch) → Gives old new batch → Viewed (view old) (view new) batch)
  where
    abbrev pub IsEndAfter : X → Type 0
    IsEndAfter now = IsEnd (view now)

    abbrev pub IsFaultAfter : X → WireError → Type 0
    IsFaultAfter now e = IsFault (view now) e

    -- what a worker has done
    pub worked_seen : (Kept : X → Type 0) (style : Style) (proxy : ℕ) (first : X) (given : Client) (finished : Finished)
        → HasWorkedOver Gives IsEndAfter IsFaultAfter Kept style proxy first given finished
        → HasWorkedOver Viewed IsEnd IsFault (λ _. Unit {0}) style proxy (view first) given finished
    worked_seen Kept style proxy first given finished worked =
        let sends = worked.sends in
        record {
          client = worked.client;
          sends = sends_seen view Gives Viewed seen IsEnd IsFault first given.requests.sent finished.client.requests.sent
              finished.fault finished.unsent sends;
          kept = tt;
          keeps = worked.keeps;
          leaves = worked.leaves;
          ended = worked.ended;
        }

    served_seen : (Kept : X → Type 0) (window : ℤ) (style : Style) (log : List Step) (complete : Bool) (stop : Option Stop) (first : X)
        (proxy : ℕ) (lines : List Line) (failure : ProxyFailure)
        → IsServedOver Gives IsEndAfter IsFaultAfter Kept window style log complete stop first proxy lines failure
        → IsServedOver Viewed IsEnd IsFault (λ _. Unit {0}) window style log complete stop (view first) proxy lines failure
    served_seen Kept window style log complete stop first proxy lines failure served = record {
      read = served.read;
      left = view served.left;
      frames_read = gives_seen view Gives Viewed seen first served.left served.read served.frames_read;
      kept = tt;
      batches = served.batches;
      all_batches = served.all_batches;
      all_unless_worn = served.all_unless_worn;
      all_read = served.all_read;
      first_fault = served.first_fault;
      received = served.received;
      all_received = served.all_received;
      all_before_last = served.all_before_last;
      reported = served.reported;
      lines_reported = served.lines_reported;
    }

    -- and a run
    pub run_seen : (Kept : ℕ → X → Type 0) (options : Options) (streams : List X) (received : List (List Line))
        (failures : List ProxyFailure) (complete : Bool) (stop : Option Stop)
        → IsRunOver Gives IsEndAfter IsFaultAfter Kept options streams received failures complete stop
        → IsRunOver Viewed IsEnd IsFault (λ _ _. Unit {0}) options (map view streams) received failures complete stop
    run_seen Kept options streams received failures complete stop run = record {
      log = run.log;
      proxies = subst (λ (n : ℕ). TakesOnlyFrom n run.log) (sym (length-map streams view)) run.proxies;
      received_count = run.received_count ∙ sym (length-map streams view);
      failures_count = run.failures_count ∙ sym (length-map streams view);
      each = λ proxy bytes lines failure at lines_at failure_at.
          let first = found (map view streams) streams proxy bytes (sym (length-map streams view)) at in
          let same : view first.0 ≡ bytes = same_Some (view first.0) bytes (sym (mapped_at view streams proxy first.0 first.1) ∙ at) in
          subst (λ (bytes : Y). IsServedOver Viewed IsEnd IsFault (λ _. Unit {0}) options.window options.style run.log complete stop bytes
          proxy lines failure) same
          (served_seen (Kept proxy) options.window options.style run.log complete stop first.0 proxy lines failure
          (run.each proxy first.0 lines failure first.1 lines_at failure_at));
      chain = run.chain;
      serializable = run.serializable;
      finish = run.finish;
      no_stop = run.no_stop;
      incomplete = λ not_all none.
          let leaves = run.incomplete not_all none in
          record {
            proxy = leaves.proxy;
            first = view leaves.first;
            of_proxy = mapped_at view streams leaves.proxy leaves.first leaves.of_proxy;
            batch = leaves.batch;
            left = view leaves.left;
            read = gives_seen view Gives Viewed seen leaves.first leaves.left _ leaves.read;
            worn = leaves.worn;
          };
      met = run.met;
    }

    -- over the same log
    pub run_seen_log : (Kept : ℕ → X → Type 0) (options : Options) (streams : List X) (received : List (List Line))
        (failures : List ProxyFailure) (complete : Bool) (stop : Option Stop)
        (run : IsRunOver Gives IsEndAfter IsFaultAfter Kept options streams received failures complete stop)
        → (run_seen Kept options streams received failures complete stop run).log ≡ run.log
    unfolding run_seen
    run_seen_log Kept options streams received failures complete stop run = refl
