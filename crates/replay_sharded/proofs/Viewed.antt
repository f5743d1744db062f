-- Streams of which only a view is looked at, while this holds of each of their states.
use Rattle.std.specs.Prelude.{◌≡◌, ◌≢◌, ℕ, ℤ, Bool, List, [], ◌∷◌, map, Option, Some, None, IfSome}
use Rattle.std.specs.List.{All}
use Rattle.std.proofs.Common.{sym, ap, subst, ◌∙◌}
use Rattle.std.proofs.lemmas.List.{length-map}
use Rattle.std.proofs.lemmas.Option.{same_Some}
use Rattle.keyspace.specs.declared.batch.Batch.{Batch}
use Rattle.keyspace.specs.Run.{Step}
use Rattle.limits.specs.declared.stop.Stop.{Stop}
use Rattle.resolver.specs.Resolver.{TakesOnlyFrom}
use Rattle.wire.specs.declared.error.WireError.{WireError}
use Rattle.wire.specs.declared.error.WireError.TheVariants as wire
use Rattle.replay_output.specs.declared.failures.ProxyFailure.{ProxyFailure}
use Rattle.replay_output.specs.declared.line.Line.{Line}
use Rattle.replay_output.specs.declared.options.Options.{Options}
use Rattle.replay_output.specs.declared.options.style.Style.{Style}
use Rattle.wire.specs.Batches.{GivesEach}
use Rattle.replay_workers.specs.Run.{IsServedOver, IsRunOver}
use Rattle.replay_workers.proofs.callers.Lists.{all_at, found, mapped_at}

module _ {X Y : Type 0} (view : X → Y) (Holds : X → Type 0) (Given : X → X → Batch → Type 0) (IsEndOf : X → Type 0)
    (IsFaultOf : X → WireError → Type 0) (Gives : Y → Y → Batch → Type 0) (IsEnd : Y → Type 0) (IsFault : Y → WireError → Type 0)
    (one_step : (old new : X) (batch : Batch) → Holds old → Given old new batch → Holds new × Gives (view old) (view new) batch)
    (ends : (now : X) → IsEndOf now → IsEnd (view now)) (faults : (now : X) (e : WireError) → IsFaultOf now e → IsFault (view now) e)
  where
    gives_viewed : (first last : X) (batches : List Batch) → Holds first → GivesEach Given first last batches
        → Holds last × GivesEach Gives (view first) (view last) batches
    gives_viewed first last [] holds same = (subst Holds (sym same) holds, ap view same)
    gives_viewed first last (batch ∷ rest) holds given =
        let now = one_step first given.0 batch holds given.1 in
        let later = gives_viewed given.0 last rest now.0 given.2 in
        (later.0, (view given.0, now.1, later.1))

    fault_viewed : (left : X) (fault : Option WireError) → IfSome fault (λ e. e ≢ wire.Memory → e ≢ wire.Read → IsFaultOf left e)
        → IfSome fault (λ e. e ≢ wire.Memory → e ≢ wire.Read → IsFault (view left) e)
    fault_viewed left None is = tt
    fault_viewed left (Some e) is = λ memory read. faults left e (is memory read)

    served_viewed : (Kept : X → Type 0) (KeptOf : Y → Type 0) → ((left : X) → Holds left → Kept left → KeptOf (view left))
        → (window : ℤ) (style : Style) (log : List Step) (complete : Bool) (stop : Option Stop) (first : X) (proxy : ℕ)
        (lines : List Line) (failure : ProxyFailure) → Holds first
        → IsServedOver Given IsEndOf IsFaultOf Kept window style log complete stop first proxy lines failure
        → IsServedOver Gives IsEnd IsFault KeptOf window style log complete stop (view first) proxy lines failure
    served_viewed Kept KeptOf keeps window style log complete stop first proxy lines failure holds served =
        let read = gives_viewed first served.left served.read holds served.frames_read in
        record {
          read = served.read;
          left = view served.left;
          frames_read = read.1;
          kept = keeps served.left read.0 served.kept;
          batches = served.batches;
          all_batches = served.all_batches;
          all_unless_worn = served.all_unless_worn;
          all_read = λ entire clean. ends served.left (served.all_read entire clean);
          first_fault = fault_viewed served.left failure.fault served.first_fault;
          received = served.received;
          all_received = served.all_received;
          all_before_last = served.all_before_last;
          reported = served.reported;
          lines_reported = served.lines_reported;
        }

    pub run_viewed : (Kept : ℕ → X → Type 0) (KeptOf : ℕ → Y → Type 0)
        → ((proxy : ℕ) (left : X) → Holds left → Kept proxy left → KeptOf proxy (view left))
        → (options : Options) (streams : List X) (received : List (List Line)) (failures : List ProxyFailure) (complete : Bool)
        (stop : Option Stop) → All Holds streams
        → IsRunOver Given IsEndOf IsFaultOf Kept options streams received failures complete stop
        → IsRunOver Gives IsEnd IsFault KeptOf options (map view streams) received failures complete stop
    run_viewed Kept KeptOf keeps options streams received failures complete stop hold run = record {
      log = run.log;
      proxies = subst (λ (n : ℕ). TakesOnlyFrom n run.log) (sym (length-map streams view)) run.proxies;
      received_count = run.received_count ∙ sym (length-map streams view);
      failures_count = run.failures_count ∙ sym (length-map streams view);
      each = λ proxy bytes lines failure at lines_at failure_at.
          let first = found (map view streams) streams proxy bytes (sym (length-map streams view)) at in
          let same : view first.0 ≡ bytes = same_Some (view first.0) bytes (sym (mapped_at view streams proxy first.0 first.1) ∙ at) in
          subst (λ (bytes : Y). IsServedOver Gives IsEnd IsFault (KeptOf proxy) options.window options.style run.log complete stop bytes
          proxy lines failure) same
          (served_viewed (Kept proxy) (KeptOf proxy) (keeps proxy) options.window options.style run.log complete stop first.0 proxy
          lines failure (all_at Holds streams proxy first.0 hold first.1) (run.each proxy first.0 lines failure first.1 lines_at failure_at));
      chain = run.chain;
      serializable = run.serializable;
      finish = run.finish;
      no_stop = run.no_stop;
      incomplete = λ not_all none.
          let leaves = run.incomplete not_all none in
          record {
            proxy = leaves.proxy;
            first = view leaves.first;
            of_proxy = mapped_at view streams leaves.proxy leaves.first leaves.of_proxy;
            batch = leaves.batch;
            left = view leaves.left;
            read = (gives_viewed leaves.first leaves.left _ (all_at Holds streams leaves.proxy leaves.first hold leaves.of_proxy) leaves.read).1;
            worn = leaves.worn;
          };
      met = run.met;
    }
