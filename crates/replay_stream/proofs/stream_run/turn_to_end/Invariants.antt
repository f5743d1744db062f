use Rattle.std.proofs.Common.{◌≡◌}
use Rattle.std.specs.Prelude.{map}
use Rattle.replay_stream.specs.Ending.{ResolverContinues}
use Rattle.replay_stream.specs.Outlet.{AreNumbered, StreamsOn}
use Rattle.replay_stream.specs.Proxies.{outlets_of, threads_of}
use Rattle.replay_stream.specs.Sinks.{state_by}
use Rattle.replay_stream.proofs.stream_run.turn_to_end.Given as goal

abbrev pub invariant-loop : goal.invariant-loop
invariant-loop g l = record {
  continues : ResolverContinues l.fn.resolver l.resolver;
  style : l.printer.style ≡ l.fn.printer.style;
  numbered : AreNumbered (outlets_of l.proxies);
  threads : map threads_of l.proxies ≡ map threads_of l.fn.proxies;
  streams :
      StreamsOn l.fn.printer.style l.fn.printer.failed l.printer.failed
      (state_by g.O.Sink.given g.O.Sink.failures l.fn.out) (state_by g.O.Sink.given g.O.Sink.failures l.out)
      (outlets_of l.fn.proxies) (outlets_of l.proxies);
}
