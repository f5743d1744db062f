use Rattle.std.proofs.Common.{◌<◌, ◌≤◌, ◌∙◌, length, rules, subst, sym, arith}
use Rattle.std.proofs.lemmas.Bool.{false≢true}
use Rattle.std.proofs.lemmas.Grind.{common_steps}
use Rattle.std.proofs.lemmas.List.{length-map}
use Rattle.std.proofs.lemmas.Option.{slice_get_within}
use Rattle.replay_output.specs.declared.options.style.Style.{Style}
use Rattle.replay_stream.specs.declared.proxies.Proxy.{Proxy}
use Rattle.replay_stream.specs.Outlet.{PassesSome}
use Rattle.replay_stream.specs.Proxies.{outlets_of}
use Rattle.replay_stream.specs.Sinks.{state_by}
use Rattle.replay_stream.proofs.Rounds.{here, numbered_stay, passed_to, streams_at, threads_stay}
use Rattle.replay_stream.proofs.stream_run.pass_each.Goals.{in-Ended, in-Took}
use Rattle.replay_stream.proofs.stream_run.pass_each.Goals as goal

pub loop-proxy-preserved : goal.loop-proxy-preserved
loop-proxy-preserved g c =
    let proxies = c.loop-proxy.proxies in
    let i = c.loop-proxy.proxy in
    let d = c.index-proxies-proxy.result in
    let x = c.pass.new.self in
    let so_far = c.loop-proxy.invariant in
    let state = state_by g.O.Sink.given g.O.Sink.failures in
    let inside : i < length proxies = first_of (search rules, grind (arith, common_steps)) in
    let passes = c.pass.ensures.passes in
    record {
      style = c.pass.ensures.style ∙ so_far.style;
      numbered = numbered_stay proxies i d x inside so_far.numbered passes.continues.proxy;
      threads = threads_stay proxies i d x inside ∙ so_far.threads;
      streams = streams_at proxies i d x inside c.args.printer.now.style c.args.printer.now.failed c.loop-proxy.printer.failed
          c.pass.new.printer.failed (state c.args.out.now) (state c.loop-proxy.out) (state c.pass.new.out)
          (outlets_of c.args.proxies.now) so_far.numbered so_far.streams
          (subst (λ (f : Style). PassesSome f c.loop-proxy.printer.failed c.pass.new.printer.failed (state c.loop-proxy.out)
          (state c.pass.new.out) (here proxies i d x inside).outlet x) so_far.style passes);
      passed = elim c.match-pass.branch [
        | in-Ended w ↦ λ on.
            passed_to proxies i d x inside (so_far.passed (sym w.ended-is ∙ on)) (c.pass.ensures.ended w.in-Ended.is)
        | in-Took w ↦ λ on. absurd (false≢true (sym w.ended-is ∙ on))
      ];
    }

pub returns-clause-passed : goal.returns-clause-passed
returns-clause-passed g c = λ on q m at.
    let proxies = c.loop-proxy.proxies in
    let all : length proxies ≤ c.loop-proxy.proxy = first_of (search rules, grind (arith, common_steps)) in
    let within = slice_get_within (outlets_of proxies) q m at in
    c.loop-proxy.invariant.passed on q m (omega (arith, all, within, length-map proxies (λ (p : Proxy g.row.S.Denot g.row.W.Denot). p.outlet))) at
