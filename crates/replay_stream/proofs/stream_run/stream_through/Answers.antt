use Rattle.std.proofs.Common.{◌≡◌, ℕ, List, ap, sym, subst, ◌∙◌, arith, ℤ, length}
use Rattle.std.proofs.lemmas.Simd.{map-map}
use Rattle.std.specs.Prelude.{negsuc, true, map, Option, None, IfSome, slice_get}
use Rattle.limits.specs.declared.stop.Stop.{Stop}
use Rattle.resolver.specs.declared.client.Client.{Client}
use Rattle.resolver.specs.Resolver.{AreClients}
use Rattle.resolver.specs.Settled.{Settled}
use Rattle.replay_stream.specs.declared.recorder.Recorder.{Recorder}
use Rattle.replay_stream.specs.Proxies.{Joined, client_of}
use Rattle.replay_stream.specs.Recorder.{is_unwritten, unwritten_cause}
use Rattle.replay_stream.specs.Sinks.{state_by}
use Rattle.replay_workers.specs.Stops.{IsStopOf}
use Rattle.replay_workers.proofs.callers.SameLanes.{clients_continue}
use Rattle.replay_workers.proofs.callers.Stopping.{accounted_new}
use Rattle.replay_stream.proofs.Ending.{new_ends}
use Rattle.replay_stream.proofs.Joining.{nothing_joined}
use Rattle.replay_stream.proofs.StreamRuns.{
  StreamsGiven,
  are_numbered,
  clients_ended,
  clients_joined,
  have_recorders,
  is_streamed,
  started_count,
}
use Rattle.replay_stream.proofs.stream_run.stream_through.Goals as goal

pub run_to_end-streamed-requires-clause-numbered : goal.run_to_end-streamed-requires-clause-numbered
run_to_end-streamed-requires-clause-numbered g c =
    let readers = c.args.readers.items in
    let outs = c.args.records.items in
    let clients = c.args.clients.items in
    let same : length readers ≡ length clients = omega (arith, c.requires.opens.proxies) in
    let as_many : length outs ≡ length clients = omega (arith, same, c.requires.as_many) in
    are_numbered c.args.options.reports readers outs clients c.in_ok-proxies.proxies.items same as_many c.in_ok-proxies.ensures.given

pub run_to_end-streamed-requires-clause-ends : goal.run_to_end-streamed-requires-clause-ends
run_to_end-streamed-requires-clause-ends g c = new_ends c.in_ok-proxies.proxies.items c.in_ok-proxies.ensures.new

pub run_to_end-streamed-requires-clause-empty : goal.run_to_end-streamed-requires-clause-empty
run_to_end-streamed-requires-clause-empty g c =
    let made = c.in_ok-streamed.ensures in
    nothing_joined _ made.clients made.failures made.recorders made.unwritten made.all_sent

pub run_to_end-streamed-requires-clause-room : goal.run_to_end-streamed-requires-clause-room
run_to_end-streamed-requires-clause-room g c =
    let readers = c.args.readers.items in
    let outs = c.args.records.items in
    let clients = c.args.clients.items in
    let started = c.in_ok-proxies.proxies.items in
    let same : length readers ≡ length clients = omega (arith, c.requires.opens.proxies) in
    let as_many : length outs ≡ length clients = omega (arith, same, c.requires.as_many) in
    omega (
      arith,
      started_count c.args.options.reports readers outs clients started same as_many c.in_ok-proxies.ensures.given,
      c.in_ok-proxies.proxies.ok.0,
      c.in_ok-streamed.ensures.room,
      c.len-count.ensures,
    )

pub settle-account-requires : goal.settle-account-requires
settle-account-requires g c =
    let state = state_by g.O.Sink.given g.O.Sink.failures in
    let records = state_by g.W.Sink.given g.W.Sink.failures in
    let readers = c.args.readers.items in
    let outs = c.args.records.items in
    let clients = c.args.clients.items in
    let opens = c.requires.opens in
    let same : length readers ≡ length clients = omega (arith, opens.proxies) in
    let as_many : length outs ≡ length clients = omega (arith, same, c.requires.as_many) in
    let before = state c.args.out.now in
    let after = state c.run_to_end-streamed.new.out in
    let streamed = c.run_to_end-streamed.result in
    let ends = c.run_to_end-streamed.ensures.ends in
    let stream : StreamsGiven g.S.Source.remaining records c.args.options clients readers outs before after streamed = record {
      started = c.in_ok-proxies.proxies.items;
      given = c.in_ok-proxies.ensures.given;
      new = c.in_ok-proxies.ensures.new;
      ends = ends;
    } in
    let lanes = c.run_to_end-streamed.new.resolver.lanes in
    record {
      clients = subst (λ (clients : List Client). AreClients lanes clients) (sym (c.as_mut_slice.ensures.value ∙ ends.results.clients))
          (clients_continue c.args.resolver.now.lanes lanes clients (map client_of ends.joined) opens.same
          c.run_to_end-streamed.ensures.runs.continues.lanes
          (clients_joined g.S.Source.remaining records c.args.options readers outs clients same as_many before after streamed stream));
    }

pub returns : goal.returns
returns g c =
    let state = state_by g.O.Sink.given g.O.Sink.failures in
    let records = state_by g.W.Sink.given g.W.Sink.failures in
    let remaining = g.S.Source.remaining in
    let readers = c.args.readers.items in
    let outs = c.args.records.items in
    let clients = c.args.clients.items in
    let options = c.args.options in
    let opens = c.requires.opens in
    let same : length readers ≡ length clients = omega (arith, opens.proxies) in
    let as_many : length outs ≡ length clients = omega (arith, same, c.requires.as_many) in
    let before = state c.args.out.now in
    let after = state c.run_to_end-streamed.new.out in
    let streamed = c.run_to_end-streamed.result in
    let runs = c.run_to_end-streamed.ensures.runs in
    let ends = c.run_to_end-streamed.ensures.ends in
    let stream : StreamsGiven remaining records options clients readers outs before after streamed = record {
      started = c.in_ok-proxies.proxies.items;
      given = c.in_ok-proxies.ensures.given;
      new = c.in_ok-proxies.ensures.new;
      ends = ends;
    } in
    let joined = ends.joined in
    let resolver = c.run_to_end-streamed.new.resolver in
    let account = c.settle-account.result in
    let settled = c.settle-account.ensures in
    let returned = c.as_mut_slice.ensures.value ∙ ends.results.clients in
    let window_is = runs.continues.core.window ∙ opens.window in
    let limit_is = runs.continues.core.limit ∙ opens.limit in
    let reported = runs.continues.accounted (accounted_new c.args.resolver.now opens.stands opens.no_stop) in
    let settles : Settled options.window reported.log resolver.lanes (map client_of joined) account =
    subst (λ (back : List Client). Settled options.window reported.log resolver.lanes back account) returned
    (subst (λ (window : ℤ). Settled window reported.log resolver.lanes c.as_mut_slice.result.now account) window_is
    (settled.settled (negsuc 0) reported.log reported.stands)) in
    let entire : account.stop ≡ None → account.complete ≡ true = λ none.
    settled.complete.1 (record {
      no_stop = sym settled.stop ∙ none;
      closed = runs.closed;
      taken = λ proxy client at.
          settled.ended proxy client at
          (clients_ended remaining records options readers outs clients same as_many before after streamed stream proxy client
          (ap (λ (l : List Client). slice_get l proxy) (sym returned) ∙ at));
    }) in
    let met = subst (λ (limit : ℕ). IfSome account.stop (IsStopOf limit options.window reported.log)) limit_is
    (subst (λ (window : ℤ). IfSome account.stop (IsStopOf resolver.core.set.map.limit window reported.log)) window_is
    (subst (λ (stop : Option Stop). IfSome stop (IsStopOf resolver.core.set.map.limit resolver.core.set.window reported.log))
    (sym settled.stop) reported.met)) in
    let cause = λ (r : Option (Recorder g.row.W.Denot)). is_unwritten (unwritten_cause r) in
    record {
      run =
          is_streamed remaining records options readers outs clients same as_many before after streamed stream reported.log resolver.lanes
          account opens.new_clients settles entire met;
      unwritten =
          ends.results.unwritten ∙ sym (map-map cause (λ (j : Joined g.row.W.Denot). j.recorder) joined)
          ∙ ap (map cause) (sym ends.results.recorders);
      recorders = have_recorders remaining records options readers outs clients same as_many before after streamed stream;
      nothing = tt;
    }
