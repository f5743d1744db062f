-- A stream, put together of what was done for each proxy and of what was settled.
use Rattle.std.specs.Prelude.{◌≡◌, ℕ, ◌+◌, ◌<◌, Bool, true, false, ◌&&◌, List, [], ◌∷◌, ◌++◌, length, map, Option, Some, None, IfSome, is_some, option_to_list, slice_get}
use Rattle.std.specs.List.{AllZip, All}
use Rattle.std.proofs.Common.{refl, sym, ap, subst, ◌∙◌, arith}
use Rattle.std.proofs.lemmas.List.{length-map}
use Rattle.std.proofs.lemmas.Slice.Zip.{AllZip-long}
use Rattle.std.proofs.lemmas.Option.{same_Some}
use Rattle.keys.proofs.callers.Lists.{AllZip-get, element_of_map}
use Rattle.keyspace.specs.declared.answer.Answer.{Answer}
use Rattle.keyspace.specs.declared.batch.Batch.{Batch}
use Rattle.keyspace.specs.Run.{Step, part}
use Rattle.lane.specs.Lane.{HasEnded, IntakeContinues, IntakeView, PortContinues, PortView}
use Rattle.resolver.specs.declared.client.Client.{Client}
use Rattle.resolver.specs.declared.turn.Account.{Account}
use Rattle.resolver.specs.Lanes.{Lanes, has_ended, sent_to}
use Rattle.resolver.specs.Resolver.{IsNewClient, TakesOnlyFrom}
use Rattle.resolver.specs.Settled.{Settled}
use Rattle.replay_output.specs.declared.failures.ProxyFailure.{ProxyFailure}
use Rattle.replay_output.specs.declared.options.Options.{Options}
use Rattle.replay_output.specs.declared.options.reports.Reports.{Reports}
use Rattle.replay_output.specs.Streamed.{Printed, printed_for}
use Rattle.replay_stream.specs.declared.outlet.Outlet.{Outlet}
use Rattle.replay_stream.specs.declared.proxies.Proxy.{Proxy}
use Rattle.replay_stream.specs.declared.streamed.Streamed.{Streamed}
use Rattle.replay_stream.specs.Ending.{EndsStream}
use Rattle.replay_stream.specs.Outlet.{AreNumbered}
use Rattle.replay_stream.specs.Proxies.{
  GivenProxy,
  GivenThreads,
  HasJoined,
  IsJoined,
  IsNewOutlet,
  Joined,
  SendsAll,
  client_of,
  failure_with,
  given_proxies,
  given_with,
  outlets_of,
  threads_of,
}
use Rattle.replay_workers.specs.Stops.{IsStopOf}
use Rattle.replay_stream.specs.Streaming.{HaveRecords, IsStreamed, IsStreamedFor, LeavesLast, Recorded, recorded_each}
use Rattle.replay_workers.specs.Reporting.{TakesFrames}
use Rattle.replay_workers.specs.Worker.{ClientContinues}
use Rattle.replay_stream.specs.Sinks.{SinkState}
use Rattle.replay_workers.proofs.callers.Lists.{all_at, found, mapped_at, both}
use Rattle.replay_stream.proofs.Ending.{Ended, ended_at, ended_count}
use Rattle.replay_stream.proofs.Places.{given_at, given_one, given_number, has_recorder, is_recorded, length_given, length_recorded, recorded_at, zip_of}
use Rattle.replay_stream.proofs.Streams.{recorded_of, streamed_for}

module _ {S W : Type 0} (reports : Reports) (readers : List S) (outs : List (Option W)) (clients : List Client) (started : List (Proxy S W))
    (same : length readers ≡ length clients) (as_many : length outs ≡ length clients)
    (given : map (λ (p : Proxy S W). given_with p.outlet (threads_of p)) started ≡ given_proxies reports 0 clients readers outs)
  where
    pub started_count : length started ≡ length clients
    started_count = sym (length-map started (λ (p : Proxy S W). given_with p.outlet (threads_of p))) ∙ ap length given
        ∙ length_given reports 0 clients readers outs same as_many

    -- what one proxy was given
    pub record Place (proxy : ℕ) (begun : Proxy S W) : Type 0 where
      pub client : Client
      pub at_client : slice_get clients proxy ≡ Some client
      pub reader : S
      pub at_reader : slice_get readers proxy ≡ Some reader
      pub out : Option W
      pub at_out : slice_get outs proxy ≡ Some out
      pub was_given : given_with begun.outlet (threads_of begun) ≡ record { proxy = proxy; client = client; reader = reader; reports = reports; out = out }

    given_here : (proxy : ℕ) (begun : Proxy S W) → slice_get started proxy ≡ Some begun
        → slice_get (given_proxies reports 0 clients readers outs) proxy ≡ Some (given_with begun.outlet (threads_of begun))
    given_here proxy begun at =
        ap (λ l. slice_get l proxy) (sym given)
        ∙ mapped_at (λ (p : Proxy S W). given_with p.outlet (threads_of p)) started proxy begun at

    pub place_of : (proxy : ℕ) (begun : Proxy S W) → slice_get started proxy ≡ Some begun → Place proxy begun
    place_of proxy begun at =
        let c = found started clients proxy begun (sym started_count) at in
        let r = found clients readers proxy c.0 same c.1 in
        let o = found clients outs proxy c.0 as_many c.1 in
        let number : 0 + proxy ≡ proxy = omega arith in
        record {
          client = c.0;
          at_client = c.1;
          reader = r.0;
          at_reader = r.1;
          out = o.0;
          at_out = o.1;
          was_given =
              same_Some _ _ (sym (given_here proxy begun at) ∙ given_at reports 0 clients readers outs same as_many proxy c.0 r.0 o.0 c.1 r.1 o.1)
              ∙ ap (λ (n : ℕ). given_one reports n c.0 r.0 o.0) number;
        }

    pub are_numbered : AreNumbered (outlets_of started)
    are_numbered proxy l at =
        let t = element_of_map (λ (p : Proxy S W). p.outlet) started proxy l at in
        let number : 0 + proxy ≡ proxy = omega arith in
        ap (λ (l : Outlet). l.proxy) (sym t.2)
        ∙ given_number reports 0 clients readers outs proxy (given_with t.0.outlet (threads_of t.0)) (given_here proxy t.0 t.1) ∙ number

-- The proxies that were given these were started, with new outlets, and their stream has ended.
pub record StreamsGiven {S W : Type 0} (remaining : S → Option (List ℕ)) (state_of : W → SinkState) (options : Options)
    (clients : List Client) (readers : List S) (outs : List (Option W)) (before after : SinkState) (streamed : Streamed W) : Type 0 where
  pub started : List (Proxy S W)
  pub given : map (λ (p : Proxy S W). given_with p.outlet (threads_of p)) started ≡ given_proxies options.reports 0 clients readers outs
  pub new : All (λ (p : Proxy S W). IsNewOutlet p.outlet (threads_of p).answers) started
  pub ends : EndsStream remaining state_of options.style before after started streamed

module _ {S W : Type 0} (remaining : S → Option (List ℕ)) (state_of : W → SinkState) (options : Options) (readers : List S)
    (outs : List (Option W)) (clients : List Client) (same : length readers ≡ length clients) (as_many : length outs ≡ length clients)
    (before after : SinkState) (streamed : Streamed W)
    (stream : StreamsGiven remaining state_of options clients readers outs before after streamed) where
  abbrev joined : List (Joined W)
  joined = stream.ends.joined

  abbrev printed : List Printed
  printed = stream.ends.streams.printed

  count_started : length stream.started ≡ length clients
  count_started = started_count options.reports readers outs clients stream.started same as_many stream.given

  count_ended : length stream.ends.ended ≡ length clients
  count_ended =
      ended_count options.style streamed.failed before after stream.started stream.ends.ended stream.ends.threads stream.ends.streams
      stream.ends.passed ∙ count_started

  joined_count : length joined ≡ length clients
  joined_count = AllZip-long (IsJoined remaining state_of) stream.ends.ended joined stream.ends.each ∙ count_ended

  -- all that is known of one proxy
  record Known (proxy : ℕ) (j : Joined W) : Type 0 where
    running : Proxy S W
    ran :
        Ended options.style streamed.failed before after stream.started stream.ends.ended stream.ends.threads stream.ends.streams
        stream.ends.passed proxy running
    is_new : IsNewOutlet ran.begun.outlet (threads_of ran.begun).answers
    place : Place options.reports readers outs clients stream.started same as_many stream.given proxy ran.begun
    has : HasJoined remaining state_of running.outlet (threads_of ran.begun) j
    requests : (threads_of ran.begun).requests ≡ place.client.requests
    replies : ran.begun.outlet.replies ≡ place.client.replies
    reader : (threads_of ran.begun).reader ≡ place.reader
    reports_are : (threads_of ran.begun).reports ≡ options.reports
    out : (threads_of ran.begun).out ≡ place.out

  known_at : (proxy : ℕ) (j : Joined W) → slice_get joined proxy ≡ Some j → Known proxy j
  known_at proxy j at =
      let p = found joined stream.ends.ended proxy j (count_ended ∙ sym joined_count) at in
      let ran = ended_at options.style streamed.failed before after stream.started stream.ends.ended stream.ends.threads stream.ends.streams
      stream.ends.passed proxy p.0 p.1 in
      let place = place_of options.reports readers outs clients stream.started same as_many stream.given proxy ran.begun ran.at_begun in
      record {
        running = p.0;
        ran = ran;
        is_new = all_at (λ (p : Proxy S W). IsNewOutlet p.outlet (threads_of p).answers) stream.started proxy ran.begun stream.new ran.at_begun;
        place = place;
        has =
            subst (λ (given : GivenThreads S W). HasJoined remaining state_of p.0.outlet given j) ran.same_threads
            (AllZip-get (IsJoined remaining state_of) stream.ends.ended joined proxy p.0 j stream.ends.each p.1 at);
        requests = ap (λ (g : GivenProxy S W). g.client.requests) place.was_given;
        replies = ap (λ (g : GivenProxy S W). g.client.replies) place.was_given;
        reader = ap (λ (g : GivenProxy S W). g.reader) place.was_given;
        reports_are = ap (λ (g : GivenProxy S W). g.reports) place.was_given;
        out = ap (λ (g : GivenProxy S W). g.out) place.was_given;
      }

  -- the clients are those that were given
  pub clients_joined : AllZip ClientContinues clients (map client_of joined)
  clients_joined =
      zip_of ClientContinues clients (map client_of joined) (length-map joined client_of ∙ joined_count) (λ proxy c d at there.
      let j = element_of_map client_of joined proxy d there in
      let known = known_at proxy j.0 j.1 in
      let is : known.place.client ≡ c = same_Some _ c (sym known.place.at_client ∙ at) in
      let replies = ap (λ (o : Outlet). o.replies) known.has.outlet_is in
      subst (λ (c : Client). ClientContinues c d) is
      (subst (λ (d : Client). ClientContinues known.place.client d) j.2
      (record {
        requests = subst (λ (p : PortView Batch). PortContinues p j.0.sent.requests) known.requests known.has.sent.requests;
        replies =
            subst (λ (i : IntakeView Answer). IntakeContinues known.place.client.replies i) (sym replies)
            (subst (λ (i : IntakeView Answer). IntakeContinues i known.running.outlet.replies) known.replies known.ran.continues.replies);
      })))

  -- and each has taken its answers to their end
  pub clients_ended : (proxy : ℕ) (c : Client) → slice_get (map client_of joined) proxy ≡ Some c → HasEnded c.replies
  clients_ended proxy c at =
      let j = element_of_map client_of joined proxy c at in
      let known = known_at proxy j.0 j.1 in
      subst (λ (c : Client). HasEnded c.replies) j.2
      (subst (λ (i : IntakeView Answer). HasEnded i) (sym (ap (λ (o : Outlet). o.replies) known.has.outlet_is))
      known.ran.has_passed.ended)

  -- the proxies that have a writer have a recorder, and no others
  pub have_recorders : HaveRecords (map is_some outs) streamed.recorders.items
  have_recorders proxy has r has_at r_at =
      let j = element_of_map (λ (j : Joined W). j.recorder) joined proxy r
      (ap (λ l. slice_get l proxy) (sym stream.ends.results.recorders) ∙ r_at) in
      let known = known_at proxy j.0 j.1 in
      let o = element_of_map is_some outs proxy has has_at in
      let out_is : known.place.out ≡ o.0 = same_Some _ o.0 (sym known.place.at_out ∙ o.1) in
      ap is_some (sym j.2)
      ∙ has_recorder state_of (threads_of known.ran.begun).out (threads_of known.ran.begun).answers _ _ j.0.recorder known.has.recorder
      ∙ ap is_some (known.out ∙ out_is) ∙ o.2

  module _ (log : List Step) (lanes : List Lanes) (account : Account) (new : All (IsNewClient options.capacity) clients)
      (settled : Settled options.window log lanes (map client_of joined) account)
      (entire : account.stop ≡ None → account.complete ≡ true) where
    abbrev complete : Bool
    complete = account.complete && streamed.all_sent

    abbrev bytes_of : (proxy : ℕ) (j : Joined W) → Known proxy j → Option (List ℕ)
    bytes_of proxy j known = remaining known.place.reader

    streamed_at : (proxy : ℕ) (j : Joined W) (at : slice_get joined proxy ≡ Some j) (known : Known proxy j)
        → IsStreamedFor options.reports options.window log complete streamed.failed account.stop (bytes_of proxy j known) proxy
        (printed_for proxy printed) (failure_with j) (recorded_of state_of known.place.out j.recorder)
    streamed_at proxy j at known =
        let ran = known.ran in
        let client = all_at (IsNewClient options.capacity) clients proxy known.place.client new known.place.at_client in
        let here = mapped_at client_of joined proxy j at in
        subst (λ (o : Option W). IsStreamedFor options.reports options.window log complete streamed.failed account.stop (bytes_of proxy j known)
        proxy (printed_for proxy printed) (failure_with j) (recorded_of state_of o j.recorder)) known.out
        (subst (λ (r : S). IsStreamedFor options.reports options.window log complete streamed.failed account.stop (remaining r)
        proxy (printed_for proxy printed) (failure_with j) (recorded_of state_of (threads_of ran.begun).out j.recorder))
        known.reader
        (subst (λ (r : Reports). IsStreamedFor r options.window log complete streamed.failed account.stop
        (remaining (threads_of ran.begun).reader) proxy (printed_for proxy printed) (failure_with j)
        (recorded_of state_of (threads_of ran.begun).out j.recorder)) known.reports_are
        (streamed_for state_of remaining options.window log (has_ended lanes proxy) streamed.all_sent streamed.failed (sent_to lanes proxy) account
        proxy (threads_of ran.begun) ran.begun.outlet known.running.outlet j (printed_for proxy printed) ran.dropped
        (ap (λ (p : PortView Batch). p.sent) (known.requests ∙ client.requests))
        (ap (λ (i : IntakeView Answer). i.taken) (known.replies ∙ client.replies)) known.is_new.none_waits known.is_new.ends ran.continues
        ran.has_passed known.has (settled.each proxy (client_of j) here) (settled.reported proxy (client_of j) here)
        (λ all. all_at SendsAll joined proxy j (stream.ends.results.all_sent all) at) entire)))

    -- the reader at a place is that of its proxy
    bytes_are : (proxy : ℕ) (bytes : Option (List ℕ)) (j : Joined W) (known : Known proxy j)
        → slice_get (map remaining readers) proxy ≡ Some bytes → bytes_of proxy j known ≡ bytes
    bytes_are proxy bytes j known at =
        same_Some _ bytes (sym (mapped_at remaining readers proxy known.place.reader known.place.at_reader) ∙ at)

    -- without a stop, what is missing is a batch that was not sent
    leaves : complete ≡ false → account.stop ≡ None → LeavesLast options.reports (map remaining readers) log
    leaves not_all no_stop =
        let yes = entire no_stop in
        let not_sent : streamed.all_sent ≡ false = sym (ap (λ (b : Bool). b && streamed.all_sent) yes) ∙ not_all in
        let back = stream.ends.results.unsent not_sent in
        let known = known_at back.place back.worker back.at in
        let client = all_at (IsNewClient options.capacity) clients back.place known.place.client new known.place.at_client in
        let sends = known.has.sent.sends in
        let settled_for = settled.each back.place (client_of back.worker) (mapped_at client_of joined back.place back.worker back.at) in
        let sent : sends.batches ≡ part log back.place =
        sym (ap (λ (l : List Batch). l ++ sends.batches) (ap (λ (p : PortView Batch). p.sent) (known.requests ∙ client.requests)))
        ∙ sym sends.sent ∙ sym (settled_for.all_batches (settled_for.all_ended yes)) in
        record {
          proxy = back.place;
          bytes = remaining known.place.reader;
          of_proxy = mapped_at remaining readers back.place known.place.reader known.place.at_reader;
          batch = back.batch;
          left = sends.left;
          read =
              subst (λ (r : S). TakesFrames options.reports (remaining r) sends.left (part log back.place ++ back.batch ∷ []))
              known.reader
              (subst (λ (r : Reports). TakesFrames r (remaining (threads_of known.ran.begun).reader) sends.left
              (part log back.place ++ back.batch ∷ [])) known.reports_are
              (subst (λ (l : List Batch). TakesFrames (threads_of known.ran.begun).reports (remaining (threads_of known.ran.begun).reader)
              sends.left (l ++ back.batch ∷ [])) sent
              (subst (λ (u : Option Batch). TakesFrames (threads_of known.ran.begun).reports
              (remaining (threads_of known.ran.begun).reader) sends.left (sends.batches ++ option_to_list u)) back.unsent
              sends.frames)));
        }

    recorded_here : (proxy : ℕ) (j : Joined W) → slice_get joined proxy ≡ Some j → (known : Known proxy j)
        → slice_get (recorded_each state_of outs streamed.recorders.items) proxy
        ≡ Some (recorded_of state_of known.place.out j.recorder)
    recorded_here proxy j at known =
        recorded_at state_of outs streamed.recorders.items proxy known.place.out j.recorder known.place.at_out
        (ap (λ l. slice_get l proxy) stream.ends.results.recorders ∙ mapped_at (λ (j : Joined W). j.recorder) joined proxy j at)

    -- the proxy's place among those that were joined
    joined_for : {X : Type 0} (xs : List X) (proxy : ℕ) (x : X) → length xs ≡ length clients → slice_get xs proxy ≡ Some x
        → (j : Joined W) × (slice_get joined proxy ≡ Some j)
    joined_for xs proxy x count at = found xs joined proxy x (joined_count ∙ sym count) at

    recorded_count : length (recorded_each state_of outs streamed.recorders.items) ≡ length clients
    recorded_count =
        length_recorded state_of outs streamed.recorders.items
        (ap length stream.ends.results.recorders ∙ length-map joined (λ (j : Joined W). j.recorder) ∙ joined_count ∙ sym as_many)
        ∙ as_many

    pub is_streamed : IfSome account.stop (IsStopOf options.limit options.window log)
        → IsStreamed options (map remaining readers) (map is_some outs) before after streamed.failed streamed.failures.items
        (recorded_each state_of outs streamed.recorders.items) complete account.stop
    is_streamed met =
        let clients_same : length clients ≡ length (map remaining readers) = sym same ∙ sym (length-map readers remaining) in
        let started_same : length (outlets_of stream.started) ≡ length (map remaining readers) =
        length-map stream.started (λ (p : Proxy S W). p.outlet) ∙ count_started ∙ clients_same in
        record {
          log = log;
          printed = stream.ends.streams.printed;
          proxies =
              subst (λ (n : ℕ). TakesOnlyFrom n log) (length-map joined client_of ∙ joined_count ∙ clients_same) settled.proxies;
          failures_count = ap length stream.ends.results.failures ∙ length-map joined failure_with ∙ joined_count ∙ clients_same;
          recorded_count = recorded_count ∙ clients_same;
          writers = λ proxy has r has_at r_at.
              let j = joined_for (recorded_each state_of outs streamed.recorders.items) proxy r recorded_count r_at in
              let known = known_at proxy j.0 j.1 in
              let o = element_of_map is_some outs proxy has has_at in
              let out_is : known.place.out ≡ o.0 = same_Some _ o.0 (sym known.place.at_out ∙ o.1) in
              ap is_some (same_Some r _ (sym r_at ∙ recorded_here proxy j.0 j.1 known))
              ∙ ap (λ (o : Option W). is_some (recorded_of state_of o j.0.recorder)) (sym known.out)
              ∙ is_recorded state_of (threads_of known.ran.begun).out (threads_of known.ran.begun).answers _ _ j.0.recorder
              known.has.recorder ∙ ap is_some (known.out ∙ out_is) ∙ o.2;
          known = subst (λ (n : ℕ). All (λ (p : Printed). p.proxy < n) printed) started_same stream.ends.streams.known;
          each = λ proxy bytes failure r at failure_at r_at.
              let j = joined_for (map remaining readers) proxy bytes (sym clients_same) at in
              let known = known_at proxy j.0 j.1 in
              let failure_here : slice_get streamed.failures.items proxy ≡ Some (failure_with j.0) =
              ap (λ l. slice_get l proxy) stream.ends.results.failures ∙ mapped_at failure_with joined proxy j.0 j.1 in
              subst (λ (r : Option Recorded). IsStreamedFor options.reports options.window log complete streamed.failed account.stop bytes proxy
              (printed_for proxy printed) failure r) (same_Some _ r (sym (recorded_here proxy j.0 j.1 known) ∙ r_at))
              (subst (λ (failure : ProxyFailure). IsStreamedFor options.reports options.window log complete streamed.failed account.stop bytes proxy
              (printed_for proxy printed) failure (recorded_of state_of known.place.out j.0.recorder))
              (same_Some (failure_with j.0) failure (sym failure_here ∙ failure_at))
              (subst (λ (bytes : Option (List ℕ)). IsStreamedFor options.reports options.window log complete streamed.failed account.stop bytes proxy
              (printed_for proxy printed) (failure_with j.0) (recorded_of state_of known.place.out j.0.recorder))
              (bytes_are proxy bytes j.0 known at) (streamed_at proxy j.0 j.1 known)));
          text = stream.ends.streams.text refl;
          chain = settled.chain;
          serializable = settled.serializable;
          finish = λ none. settled.finish (entire none);
          no_stop = λ all. settled.no_stop (both account.complete streamed.all_sent all).0;
          incomplete = leaves;
          met = met;
        }
