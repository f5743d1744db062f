-- The end of a stream: its resolver later, and its proxies, each at its index.
use Rattle.std.specs.Prelude.{◌≡◌, ℕ, negsuc, Bool, false, List, [], ◌∷◌, length, map, Some, slice_get, drop, Result, Ok, Err, IfErr, is_some}
use Rattle.std.specs.List.{All}
use Rattle.std.proofs.Common.{refl, sym, ap, subst, ◌∙◌, arith, inl, inr}
use Rattle.std.proofs.lemmas.List.{length-map}
use Rattle.std.proofs.lemmas.Option.{same_Some}
use Rattle.keyspace.specs.declared.answer.Answer.{Answer}
use Rattle.limits.specs.declared.stop.Stop.{Stop}
use Rattle.resolver.specs.declared.turn.Turn.{Turn}
use Rattle.resolver.specs.declared.turn.Turn.TheVariants as turn
use Rattle.resolver.specs.Owed.{owed_count}
use Rattle.resolver.specs.Resolver.{ResolverState, IsThrough}
use Rattle.resolver.specs.Turns.{Turns}
use Rattle.resolver.proofs.callers.Later.{Continues-then, lanes_same}
use Rattle.replay_output.specs.declared.options.style.Style.{Style}
use Rattle.replay_output.specs.Streamed.{printed_for}
use Rattle.replay_stream.specs.declared.outlet.Outlet.{Outlet}
use Rattle.replay_stream.specs.declared.proxies.Proxy.{Proxy}
use Rattle.replay_stream.specs.declared.proxies.ProxyTask.{ProxyTask}
use Rattle.replay_stream.specs.Ending.{ResolverContinues, RunsThrough}
use Rattle.replay_stream.specs.Outlet.{HasPassedAll, HavePassedAll, OutletContinues, StreamContinues, StreamsOn, is_complete}
use Rattle.replay_stream.specs.Proxies.{AreEnds, GivenThreads, IsNewOutlet, outlets_of, threads_by, threads_of}
use Rattle.replay_stream.specs.Sinks.{SinkState}
use Rattle.replay_workers.proofs.callers.Lists.{all_at, found, mapped_at}
use Rattle.replay_workers.proofs.callers.SameLanes.{lanes_continue}
use Rattle.replay_workers.proofs.callers.Stopping.{accounted_turn}
use Rattle.replay_stream.proofs.Outlets.{stream_same}
use Rattle.replay_stream.proofs.Places.{all_of}
use Rattle.replay_stream.proofs.Streams.{ends_new, ends_stay}

-- a resolver continues as itself, by a turn, and by one step after another
pub resolver_same : (r : ResolverState) → ResolverContinues r r
resolver_same r = record {
  accounted = λ first. first;
  resolving = λ first. first;
  core = record { window = refl; limit = refl; proxies = refl };
  lanes = lanes_same r.lanes;
}

pub resolver_turned : (old new : ResolverState) (result : Result Turn Stop) → Turns result old new → ResolverContinues old new
resolver_turned old new result turns = record {
  accounted = λ first. accounted_turn old new result turns first;
  resolving = λ first. turns.resolving (negsuc 0) first;
  core = turns.steps.continues;
  lanes = turns.steps.lanes;
}

pub resolver_then : (first second third : ResolverState) → ResolverContinues first second → ResolverContinues second third
    → ResolverContinues first third
resolver_then first second third g h = record {
  accounted = λ before. h.accounted (g.accounted before);
  resolving = λ before. h.resolving (g.resolving before);
  core = Continues-then first.core second.core third.core g.core h.core;
  lanes = lanes_continue first.lanes second.lanes third.lanes g.lanes h.lanes;
}

runs_through : (old new : ResolverState) (result : Result Turn Stop) → Turns result old new → IsThrough new → RunsThrough old new
runs_through old new result turns through = record {
  continues = resolver_turned old new result turns;
  through = through;
  closed = λ proxy l at. (turns.closed proxy l at).1 through;
}

-- this turn leaves nothing to do
pub runs_done : (old new : ResolverState) (result : Result Turn Stop) → Turns result old new → result ≡ Ok turn.Done → RunsThrough old new
runs_done old new result turns is =
    let done = turns.done.0 is in
    runs_through old new result turns (record { nothing_owed = done.2; no_more = inl done.1 })

pub runs_stopped : (old new : ResolverState) (result : Result Turn Stop) (stop : Stop) → Turns result old new → result ≡ Err stop
    → owed_count new.core.owed ≡ 0 → RunsThrough old new
runs_stopped old new result stop turns is none =
    let met = subst (λ (r : Result Turn Stop). IfErr r (λ (s : Stop). new.core.stop ≡ Some s)) is turns.steps.stop in
    runs_through old new result turns (record { nothing_owed = none; no_more = inr (ap is_some met) })

pub runs_then : (first second third : ResolverState) → ResolverContinues first second → RunsThrough second third
    → RunsThrough first third
runs_then first second third goes runs = record {
  continues = resolver_then first second third goes runs.continues;
  through = runs.through;
  closed = runs.closed;
}

-- a stream that begins with a new printer
pub stream_begun : (style : Style) (has_failed : Bool) (before after : SinkState) (started ended : List Outlet) (printer : Style)
    (failed : Bool) (first : List Outlet) → printer ≡ style → failed ≡ false → first ≡ started
    → StreamsOn printer failed has_failed before after first ended → StreamContinues style false has_failed before after started ended
stream_begun style has_failed before after started ended printer failed first styled new same goes =
    subst (λ (l : List Outlet). StreamContinues style false has_failed before after l ended) same
    (subst (λ (f : Bool). StreamContinues style f has_failed before after first ended) new
    (subst (λ (s : Style). StreamContinues s failed has_failed before after first ended) styled
    (goes failed before first (stream_same printer failed before first))))

module _ {S W : Type 0} (style : Style) (has_failed : Bool) (before after : SinkState) (started ended : List (Proxy S W))
    (threads : map threads_of ended ≡ map threads_of started)
    (goes : StreamContinues style false has_failed before after (outlets_of started) (outlets_of ended))
    (passed : HavePassedAll (outlets_of ended)) where
  pub ended_count : length ended ≡ length started
  ended_count = sym (length-map ended threads_of) ∙ ap length threads ∙ length-map started threads_of

  -- a proxy whose outlet has ended, and the same when it was started
  pub record Ended (proxy : ℕ) (running : Proxy S W) : Type 0 where
    pub begun : Proxy S W
    pub at_begun : slice_get started proxy ≡ Some begun
    pub same_threads : threads_of running ≡ threads_of begun
    pub dropped : List Answer
    pub continues :
        OutletContinues (printed_for proxy goes.printed) dropped (is_complete begun.outlet.lost false)
        (is_complete running.outlet.lost has_failed) begun.outlet running.outlet
    pub has_passed : HasPassedAll running.outlet

  pub ended_at : (proxy : ℕ) (running : Proxy S W) → slice_get ended proxy ≡ Some running → Ended proxy running
  ended_at proxy running at =
      let t = found ended started proxy running (sym ended_count) at in
      let outlet_at = mapped_at (λ (p : Proxy S W). p.outlet) started proxy t.0 t.1 in
      let now_at = mapped_at (λ (p : Proxy S W). p.outlet) ended proxy running at in
      let continues = goes.each.each proxy t.0.outlet running.outlet outlet_at now_at in
      record {
        begun = t.0;
        at_begun = t.1;
        same_threads =
            same_Some (threads_of running) (threads_of t.0) (sym (mapped_at threads_of ended proxy running at)
            ∙ ap (λ l. slice_get l proxy) threads ∙ mapped_at threads_of started proxy t.0 t.1);
        dropped = continues.0;
        continues = continues.1;
        has_passed = passed proxy running.outlet now_at;
      }

  -- the two ends of the lane to each recorder are of one lane
  pub ends_each : All (λ (p : Proxy S W). AreEnds p.outlet.records (threads_of p).answers) started
      → All (λ (p : Proxy S W). AreEnds p.outlet.records (threads_of p).answers) ended
  ends_each ends = all_of (λ (p : Proxy S W). AreEnds p.outlet.records (threads_of p).answers) ended (λ place p at.
      let ran = ended_at place p at in
      subst (λ (t : GivenThreads S W). AreEnds p.outlet.records t.answers) (sym ran.same_threads)
      (ends_stay ran.begun.outlet.records p.outlet.records (threads_of ran.begun).answers ran.begun.outlet.waiting p.outlet.waiting _
      (all_at (λ (p : Proxy S W). AreEnds p.outlet.records (threads_of p).answers) started place ran.begun ends ran.at_begun)
      ran.continues.passed))

-- what was started has what its tasks had
module _ {S W G : Type 0} where
  pub started_same : {X : Type 0} (f : Outlet → GivenThreads S W → X) (started : List (Proxy S W)) (tasks : List (ProxyTask S W G))
      → outlets_of started ≡ map (λ (t : ProxyTask S W G). t.outlet) tasks
      → map threads_of started ≡ map (λ (t : ProxyTask S W G). threads_by t) tasks
      → map (λ (p : Proxy S W). f p.outlet (threads_of p)) started ≡ map (λ (t : ProxyTask S W G). f t.outlet (threads_by t)) tasks
  started_same f [] [] outlets threads = refl
  started_same f [] (t ∷ tasks) outlets threads = absurd (omega (arith, ap length outlets))
  started_same f (p ∷ started) [] outlets threads = absurd (omega (arith, ap length outlets))
  started_same f (p ∷ started) (t ∷ tasks) outlets threads =
      let outlet = same_Some p.outlet t.outlet (ap (λ l. slice_get l 0) outlets) in
      let given = same_Some (threads_of p) (threads_by t) (ap (λ l. slice_get l 0) threads) in
      ap (λ (o : Outlet). f o (threads_of p) ∷ map (λ (p : Proxy S W). f p.outlet (threads_of p)) started) outlet
      ∙ ap (λ (g : GivenThreads S W). f t.outlet g ∷ map (λ (p : Proxy S W). f p.outlet (threads_of p)) started) given
      ∙ ap (λ l. f t.outlet (threads_by t) ∷ l)
      (started_same f started tasks (ap (λ l. drop 1 l) outlets) (ap (λ l. drop 1 l) threads))

  pub started_all : (P : Outlet → GivenThreads S W → Type 0) (started : List (Proxy S W)) (tasks : List (ProxyTask S W G))
      → outlets_of started ≡ map (λ (t : ProxyTask S W G). t.outlet) tasks
      → map threads_of started ≡ map (λ (t : ProxyTask S W G). threads_by t) tasks
      → All (λ (t : ProxyTask S W G). P t.outlet (threads_by t)) tasks
      → All (λ (p : Proxy S W). P p.outlet (threads_of p)) started
  started_all P started tasks outlets threads all =
      all_of (λ (p : Proxy S W). P p.outlet (threads_of p)) started (λ place p at.
      let count : length tasks ≡ length started =
      sym (length-map tasks (λ (t : ProxyTask S W G). t.outlet)) ∙ ap length (sym outlets)
      ∙ length-map started (λ (p : Proxy S W). p.outlet) in
      let t = found started tasks place p count at in
      let outlet : t.0.outlet ≡ p.outlet =
      same_Some t.0.outlet p.outlet (sym (mapped_at (λ (t : ProxyTask S W G). t.outlet) tasks place t.0 t.1)
      ∙ ap (λ l. slice_get l place) (sym outlets) ∙ mapped_at (λ (p : Proxy S W). p.outlet) started place p at) in
      let given : threads_by t.0 ≡ threads_of p =
      same_Some (threads_by t.0) (threads_of p) (sym (mapped_at (λ (t : ProxyTask S W G). threads_by t) tasks place t.0 t.1)
      ∙ ap (λ l. slice_get l place) (sym threads) ∙ mapped_at threads_of started place p at) in
      subst (λ (g : GivenThreads S W). P p.outlet g) given
      (subst (λ (o : Outlet). P o (threads_by t.0)) outlet
      (all_at (λ (t : ProxyTask S W G). P t.outlet (threads_by t)) tasks place t.0 all t.1)))

-- new outlets and their recorders have the ends of new lanes
pub new_ends : {S W : Type 0} (started : List (Proxy S W))
    → All (λ (p : Proxy S W). IsNewOutlet p.outlet (threads_of p).answers) started
    → All (λ (p : Proxy S W). AreEnds p.outlet.records (threads_of p).answers) started
new_ends {S} {W} started fresh = all_of (λ (p : Proxy S W). AreEnds p.outlet.records (threads_of p).answers) started (λ place p at.
    ends_new p.outlet.records (threads_of p).answers
    (all_at (λ (p : Proxy S W). IsNewOutlet p.outlet (threads_of p).answers) started place p fresh at).ends)
