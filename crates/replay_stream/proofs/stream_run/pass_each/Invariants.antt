use Rattle.std.proofs.Common.{◌≡◌, ℕ, ◌<◌}
use Rattle.std.specs.Prelude.{true, Some, map, slice_get}
use Rattle.replay_stream.specs.declared.outlet.Outlet.{Outlet}
use Rattle.replay_stream.specs.Outlet.{AreNumbered, HasPassedAll, StreamsOn}
use Rattle.replay_stream.specs.Proxies.{outlets_of, threads_of}
use Rattle.replay_stream.specs.Sinks.{state_by}
use Rattle.replay_stream.proofs.stream_run.pass_each.Given as goal

abbrev pub invariant-loop-proxy : goal.invariant-loop-proxy
invariant-loop-proxy g l = record {
  style : l.printer.style ≡ l.initial.printer.style;
  numbered : AreNumbered (outlets_of l.proxies);
  threads : map threads_of l.proxies ≡ map threads_of l.initial.proxies;
  streams :
      StreamsOn l.initial.printer.style l.initial.printer.failed l.printer.failed
      (state_by g.O.Sink.given g.O.Sink.failures l.initial.out) (state_by g.O.Sink.given g.O.Sink.failures l.out)
      (outlets_of l.initial.proxies) (outlets_of l.proxies);
  passed : l.ended ≡ true → (q : ℕ) (m : Outlet) → q < l.proxy → slice_get (outlets_of l.proxies) q ≡ Some m → HasPassedAll m;
}
