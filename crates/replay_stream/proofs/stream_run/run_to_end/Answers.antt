use Rattle.std.proofs.Common.{◌≡◌, List, ap, sym, subst, ◌∙◌, length}
use Rattle.std.proofs.lemmas.List.{length-map}
use Rattle.std.proofs.lemmas.List.Elements.{All-same}
use Rattle.std.specs.Prelude.{Bool, false, map}
use Rattle.std.specs.List.{AllZip}
use Rattle.resolver.proofs.callers.Lists.{written_back}
use Rattle.replay_stream.specs.declared.proxies.Proxy.{Proxy}
use Rattle.replay_stream.specs.Outlet.{AreNumbered, HavePassedAll, StreamContinues}
use Rattle.replay_stream.specs.Proxies.{AreEnds, IsJoined, outlets_of, threads_of}
use Rattle.replay_stream.specs.Sinks.{state_by}
use Rattle.replay_stream.proofs.Ending.{ended_count, ends_each, stream_begun}
use Rattle.replay_stream.proofs.stream_run.run_to_end.Goals as goal

pub turn_to_end-requires : goal.turn_to_end-requires
turn_to_end-requires g c =
    record { numbered = subst AreNumbered (sym (ap outlets_of c.deref_mut.ensures.value)) c.requires.numbered }

pub join_all-requires-clause-empty : goal.join_all-requires-clause-empty
join_all-requires-clause-empty g c =
    let empty = c.requires.empty in
    record {
      clients = empty.clients;
      failures = empty.failures;
      recorders = empty.recorders;
      unwritten = empty.unwritten;
      all_sent = empty.all_sent;
      unsent = empty.unsent;
    }

pub join_all-requires-clause-ends : goal.join_all-requires-clause-ends
join_all-requires-clause-ends g c =
    let state = state_by g.O.Sink.given g.O.Sink.failures in
    let started = c.args.proxies.items in
    let ended = c.turn_to_end.new.proxies in
    let has_failed = c.turn_to_end.new.printer.failed in
    let before = state c.args.out.now in
    let after = state c.turn_to_end.new.out in
    let turned = c.turn_to_end.ensures.threads ∙ ap (map threads_of) c.deref_mut.ensures.value in
    let goes = stream_begun c.args.style has_failed before after (outlets_of started) (outlets_of ended) c.new-printer.result.style
    c.new-printer.result.failed (outlets_of c.deref_mut.result.now) c.new-printer.ensures.style c.new-printer.ensures.failed
    (ap outlets_of c.deref_mut.ensures.value) c.turn_to_end.ensures.streams in
    let passed = c.turn_to_end.ensures.passed in
    let count = ended_count c.args.style has_failed before after started ended turned goes passed in
    All-same (λ (p : Proxy g.row.S.Denot g.row.W.Denot). AreEnds p.outlet.records (threads_of p).answers) _ _
    (written_back c.args.proxies.len ended started count c.args.proxies.ok.0)
    (ends_each c.args.style has_failed before after started ended turned goes passed c.requires.ends)

pub join_all-requires-clause-passed : goal.join_all-requires-clause-passed
join_all-requires-clause-passed g c =
    let started = c.args.proxies.items in
    let ended = c.turn_to_end.new.proxies in
    let turned = c.turn_to_end.ensures.threads ∙ ap (map threads_of) c.deref_mut.ensures.value in
    let count : length ended ≡ length started =
    sym (length-map ended threads_of) ∙ ap length turned ∙ length-map started threads_of in
    subst (λ (l : List (Proxy g.row.S.Denot g.row.W.Denot)). HavePassedAll (outlets_of l))
    (sym (written_back c.args.proxies.len ended started count c.args.proxies.ok.0)) c.turn_to_end.ensures.passed

pub returns : goal.returns
returns g c =
    let state = state_by g.O.Sink.given g.O.Sink.failures in
    let started = c.args.proxies.items in
    let ended = c.turn_to_end.new.proxies in
    let before = state c.args.out.now in
    let after = state c.turn_to_end.new.out in
    let turned = c.turn_to_end.ensures.threads ∙ ap (map threads_of) c.deref_mut.ensures.value in
    let goes = stream_begun c.args.style c.turn_to_end.new.printer.failed before after (outlets_of started) (outlets_of ended)
    c.new-printer.result.style c.new-printer.result.failed (outlets_of c.deref_mut.result.now) c.new-printer.ensures.style
    c.new-printer.ensures.failed (ap outlets_of c.deref_mut.ensures.value) c.turn_to_end.ensures.streams in
    let count : length ended ≡ length started =
    sym (length-map ended threads_of) ∙ ap length turned ∙ length-map started threads_of in
    let back = written_back c.args.proxies.len ended started count c.args.proxies.ok.0 in
    let joined = c.join_all.ensures.joined in
    record {
      runs = c.turn_to_end.ensures.runs;
      ends = record {
        ended = ended;
        threads = turned;
        streams =
            subst (λ (failed : Bool). StreamContinues c.args.style false failed before after (outlets_of started) (outlets_of ended))
            (sym c.join_all.ensures.failed) goes;
        passed = c.turn_to_end.ensures.passed;
        joined = joined.0;
        each =
            subst (λ (l : List (Proxy g.row.S.Denot g.row.W.Denot)).
            AllZip (IsJoined g.S.Source.remaining (state_by g.W.Sink.given g.W.Sink.failures)) l joined.0) back joined.1;
        results = joined.2;
      };
    }
