use Rattle.std.proofs.Common.{◌∙◌, refl, rules}
use Rattle.replay_stream.specs.Proxies.{outlets_of}
use Rattle.replay_stream.specs.Sinks.{state_by}
use Rattle.replay_stream.proofs.Ending.{resolver_same, resolver_then, runs_then}
use Rattle.replay_stream.proofs.Outlets.{streams_then}
use Rattle.replay_stream.proofs.stream_run.turn_to_end.Goals as goal

pub loop-init : goal.loop-init
loop-init g c = record {
  continues = resolver_same c.args.resolver.now;
  style = refl;
  numbered = c.requires.numbered;
  threads = refl;
  streams = λ first before outlets was. was;
}

pub loop-preserved : goal.loop-preserved
loop-preserved g c =
    let round = c.pass_each-ended.ensures in
    let state = state_by g.O.Sink.given g.O.Sink.failures in
    record {
      continues =
          resolver_then c.args.resolver.now c.loop.resolver c.take_turn-through.new.resolver c.loop.invariant.continues
          c.take_turn-through.ensures.continues;
      style = round.style ∙ c.loop.invariant.style;
      numbered = round.numbered;
      threads = round.threads ∙ c.loop.invariant.threads;
      streams = streams_then c.args.printer.now.style c.loop.printer.style c.args.printer.now.failed c.loop.printer.failed
          c.pass_each-ended.new.printer.failed (state c.args.out.now) (state c.loop.out) (state c.pass_each-ended.new.out)
          (outlets_of c.args.proxies.now) (outlets_of c.loop.proxies) (outlets_of c.pass_each-ended.new.proxies)
          c.loop.invariant.style c.loop.invariant.streams round.streams;
    }

pub returns-then-through-clause-runs : goal.returns-then-through-clause-runs
returns-then-through-clause-runs g c =
    runs_then c.args.resolver.now c.loop.resolver c.take_turn-through.new.resolver c.loop.invariant.continues
    (c.take_turn-through.ensures.through (search rules))

pub returns-then-through-clause-passed : goal.returns-then-through-clause-passed
returns-then-through-clause-passed g c = c.pass_each-ended.ensures.passed (search rules)
