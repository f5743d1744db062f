use Rattle.std.proofs.Common.{◌≡◌, ◌<◌, ◌≤◌, ◌+◌, ◌++◌, ◌∷◌, [], ◌∙◌, ℕ, List, length, take, drop, refl, sym, ap, subst, arith}
use Rattle.std.specs.Prelude.{IfSome, MatchOption, None, Option, map, slice_get, true, vec_items, vec_len}
use Rattle.std.specs.List.{All, AllZip}
use Rattle.std.specs.declared.vec.Vec.{Vec}
use Rattle.std.proofs.Common.{Global}
use Rattle.std.proofs.lemmas.Grind.{common_steps}
use Rattle.std.proofs.lemmas.List.{append-nil, drop_all, length-map, map-append, take_all}
use Rattle.std.proofs.lemmas.List.Elements.{All-nil}
use Rattle.std.proofs.lemmas.Option.{none-some}
use Rattle.limits.specs.declared.stop.Stop.{Stop}
use Rattle.replay_output.specs.Line.{AreLines, IsLineOf, answers_of}
use Rattle.replay_output.specs.declared.failures.ProxyFailure.{ProxyFailure}
use Rattle.replay_output.specs.declared.line.Line.{Line}
use Rattle.replay_shards.specs.Answered.{AreAnswersTogether, AreKept}
use Rattle.replay_shards.specs.declared.answered.Answered.{Answered}
use Rattle.replay_shards.specs.Failures.{IsFailureTogether, IsFirstStop}
use Rattle.replay_sharded.specs.declared.shard_run.ShardRun.{ShardRun}
use Rattle.replay_sharded.specs.Combined.{AreFailuresOf, AreOfProxy, AreTogether, HasProxies, TakesOf, stop_of}
use Rattle.replay_sharded.proofs.Taking.{AreEach, IsFrom, each_next, from_next, from_start, if_some_at, lines_next, together_lost, together_made, zip_all, zip_all_back, zip_length, zip_same, zip_then}
use Rattle.replay_sharded.proofs.combined.combine_runs.Goals.{in-Ok, in-Err}
use Rattle.replay_sharded.proofs.combined.combine_runs.Goals as goal

pub loop-proxy-init : goal.loop-proxy-init
loop-proxy-init c =
    let room = c.requires.room.2 in
    record {
      from = zip_same (IsFrom 0) from_start c.args.runs.items;
      each = λ proxy lines failure at failure_at.
          absurd (none-some failure (ap (λ (l : List ProxyFailure). slice_get l proxy) (sym room.no_failures) ∙ failure_at));
      lines = λ proxy lines at.
          absurd (none-some lines (ap (λ (l : List (Vec Line Global)). slice_get (map vec_items l) proxy) (sym room.no_lines) ∙ at));
      lines_count = grind (arith, common_steps, room.no_lines);
      failures_count = grind (arith, common_steps, room.no_failures);
      lines_room = refl;
      failures_room = refl;
      shards_room = refl;
    }

pub put_failures-requires-clause-within : goal.put_failures-requires-clause-within
put_failures-requires-clause-within c =
    let proxies = c.requires.room.0 in
    let proxy = c.loop-proxy.proxy in
    let end = c.proxies_of-proxy-end.ensures.proxies proxies
    (subst (All (HasProxies proxies)) (sym c.deref-2.ensures.value) c.requires.room.1) in
    let below : proxy < proxies = omega (arith, c.loop-proxy-test.true, end) in
    let Within : ShardRun → Type 0 = λ run. proxy < vec_len run.failures in
    subst (All Within) (sym c.deref-in-loop-proxy.ensures.value)
    (zip_all (IsFrom proxy) (HasProxies proxies) Within
    (λ x y is has. subst (λ (f : Vec ProxyFailure Global). proxy < vec_len f) (sym is.failures) (omega (arith, has.failures, below)))
    c.args.runs.items c.loop-proxy.runs.items c.loop-proxy.invariant.from c.requires.room.1)

pub combine_proxy-requires-clause-within : goal.combine_proxy-requires-clause-within
combine_proxy-requires-clause-within c =
    let proxies = c.requires.room.0 in
    let proxy = c.loop-proxy.proxy in
    let end = c.proxies_of-proxy-end.ensures.proxies proxies
    (subst (All (HasProxies proxies)) (sym c.deref-2.ensures.value) c.requires.room.1) in
    let below : proxy < proxies = omega (arith, c.loop-proxy-test.true, end) in
    let Within : ShardRun → Type 0 = λ run. proxy < vec_len run.answered in
    subst (All Within) (sym c.deref_mut.ensures.value)
    (zip_all (IsFrom proxy) (HasProxies proxies) Within (λ x y is has. omega (arith, is.count, has.answered, below))
    c.args.runs.items c.loop-proxy.runs.items c.loop-proxy.invariant.from c.requires.room.1)

pub combine_proxy-requires-clause-kept : goal.combine_proxy-requires-clause-kept
combine_proxy-requires-clause-kept c =
    let proxies = c.requires.room.0 in
    let proxy = c.loop-proxy.proxy in
    let Kept : ShardRun → Type 0 = λ run. IfSome (slice_get run.answered.items proxy) AreKept in
    subst (All Kept) (sym c.deref_mut.ensures.value)
    (zip_all (IsFrom proxy) (HasProxies proxies) Kept
    (λ x y is has. subst (λ o. IfSome o AreKept) (sym (is.from proxy (omega arith))) (if_some_at AreKept x.answered.items proxy has.kept))
    c.args.runs.items c.loop-proxy.runs.items c.loop-proxy.invariant.from c.requires.room.1)

pub push_reserved-requires : goal.push_reserved-requires
push_reserved-requires c =
    let proxies = c.requires.room.0 in
    let end = c.proxies_of-proxy-end.ensures.proxies proxies
    (subst (All (HasProxies proxies)) (sym c.deref-2.ensures.value) c.requires.room.1) in
    omega (
      arith,
      c.loop-proxy-test.true,
      end,
      c.loop-proxy.invariant.lines_count,
      c.loop-proxy.invariant.lines_room,
      c.requires.room.2.lines,
    )

pub push_reserved-requires-in-loop-proxy : goal.push_reserved-requires-in-loop-proxy
push_reserved-requires-in-loop-proxy c =
    let proxies = c.requires.room.0 in
    let end = c.proxies_of-proxy-end.ensures.proxies proxies
    (subst (All (HasProxies proxies)) (sym c.deref-2.ensures.value) c.requires.room.1) in
    omega (
      arith,
      c.loop-proxy-test.true,
      end,
      c.loop-proxy.invariant.failures_count,
      c.loop-proxy.invariant.failures_room,
      c.requires.room.2.failures,
    )

pub loop-proxy-preserved : goal.loop-proxy-preserved
loop-proxy-preserved c =
    let proxies = c.requires.room.0 in
    let has = c.requires.room.1 in
    let proxy = c.loop-proxy.proxy in
    let old = c.args.runs.items in
    let now = c.loop-proxy.runs.items in
    let new = c.combine_proxy.new.runs in
    let before = c.loop-proxy.invariant in
    let lines = c.loop-proxy.lines.items in
    let failures = c.loop-proxy.failures.items in
    let own = c.match-combine_proxy.own in
    let failure = c.match-combine_proxy.failure in
    let end = c.proxies_of-proxy-end.ensures.proxies proxies (subst (All (HasProxies proxies)) (sym c.deref-2.ensures.value) has) in
    let below : proxy < proxies = omega (arith, c.loop-proxy-test.true, end) in
    let lines_len : length (map vec_items lines) ≡ proxy =
    length-map lines vec_items ∙ (sym c.loop-proxy.lines.ok.0 ∙ before.lines_count) in
    let failures_len : length failures ≡ length (map vec_items lines) =
    sym c.loop-proxy.failures.ok.0 ∙ before.failures_count ∙ sym lines_len in
    let own_failures = c.put_failures.new.failures.items in
    let own_failure = c.failure_together-failure.result in
    let of : AreFailuresOf proxy now own_failures =
    subst (λ (runs : List ShardRun). AreFailuresOf proxy runs own_failures) c.deref-in-loop-proxy.ensures.value
    c.put_failures.ensures.failures in
    let together : IsFailureTogether own_failures own_failure =
    subst (λ (l : List ProxyFailure). IsFailureTogether l own_failure) c.deref-in-loop-proxy-2.ensures.value
    c.failure_together-failure.ensures.failure in
    let both : AreTogether old proxy own.items failure × All (IsLineOf c.args.style proxy) own.items =
    elim c.match-combine_proxy.branch [
      | in-Ok w ↦ (
        subst (λ (l : Vec Line Global). AreTogether old proxy l.items failure) (sym w.own-is)
            (subst (λ (f : ProxyFailure). AreTogether old proxy w.in-Ok.own.items f) (sym w.failure-is)
            (together_made proxy old now w.in-Ok.own.items own_failure own_failures before.from
            (subst (λ (runs : List ShardRun). (each : List Answered) × AreOfProxy proxy runs each
            × AreAnswersTogether each (answers_of w.in-Ok.own.items)) c.deref_mut.ensures.value w.in-Ok.ensures.answers) of together)),
        subst (λ (l : Vec Line Global). All (IsLineOf c.args.style proxy) l.items) (sym w.own-is) w.in-Ok.ensures.lines,
      )
      | in-Err w ↦ (
        subst (λ (l : Vec Line Global). AreTogether old proxy l.items failure) (sym w.own-is)
            (subst (λ (l : List Line). AreTogether old proxy l failure) (sym w.new-own.ensures.items)
            (subst (λ (f : ProxyFailure). AreTogether old proxy [] f) (sym w.failure-is)
            (together_lost proxies proxy old now own_failure own_failures below has before.from of together))),
        subst (λ (l : Vec Line Global). All (IsLineOf c.args.style proxy) l.items) (sym w.own-is)
            (subst (All (IsLineOf c.args.style proxy)) (sym w.new-own.ensures.items) (All-nil (IsLineOf c.args.style proxy))),
      )
    ] in
    let takes : AllZip (TakesOf proxy) now new =
    subst (λ (l : List ShardRun). AllZip (TakesOf proxy) l new) c.deref_mut.ensures.value c.combine_proxy.ensures.others in
    let all : length now ≤ length new = omega (arith, zip_length (TakesOf proxy) now new takes) in
    let long : length new ≤ c.loop-proxy.runs.len =
    omega (arith, zip_length (TakesOf proxy) now new takes, c.loop-proxy.runs.ok.0) in
    let entire : take c.loop-proxy.runs.len (new ++ drop (length new) now) ≡ new =
    ap (λ (l : List ShardRun). take c.loop-proxy.runs.len (new ++ l)) (drop_all (length new) now all)
    ∙ ap (λ (l : List ShardRun). take c.loop-proxy.runs.len l) (append-nil new) ∙ take_all c.loop-proxy.runs.len new long in
    record {
      from =
          subst (λ (l : List ShardRun). AllZip (IsFrom (proxy + 1)) old l) (sym entire)
          (zip_then (IsFrom proxy) (TakesOf proxy) (IsFrom (proxy + 1)) (from_next proxy) old now new before.from takes);
      each =
          subst (λ (l : List (Vec Line Global)). AreEach old (map vec_items l) c.push_reserved-in-loop-proxy.new.self.items)
          (sym c.push_reserved.ensures.items)
          (subst (λ (l : List ProxyFailure). AreEach old (map vec_items (lines ++ own ∷ [])) l)
          (sym c.push_reserved-in-loop-proxy.ensures.items)
          (subst (λ (l : List (List Line)). AreEach old l (failures ++ failure ∷ [])) (sym (map-append vec_items lines (own ∷ [])))
          (each_next old (map vec_items lines) failures own.items failure failures_len before.each
          (subst (λ (place : ℕ). AreTogether old place own.items failure) (sym lines_len) both.0))));
      lines =
          subst (λ (l : List (Vec Line Global)). AreLines c.args.style (map vec_items l)) (sym c.push_reserved.ensures.items)
          (subst (AreLines c.args.style) (sym (map-append vec_items lines (own ∷ [])))
          (lines_next c.args.style (map vec_items lines) own.items before.lines
          (subst (λ (place : ℕ). All (IsLineOf c.args.style place) own.items) (sym lines_len) both.1)));
      lines_count = grind (arith, common_steps);
      failures_count = grind (arith, common_steps);
      lines_room = grind (arith, common_steps);
      failures_room = grind (arith, common_steps);
      shards_room = grind (arith, common_steps);
    }

pub returns : goal.returns
returns c =
    let old = c.args.runs.items in
    let now = c.loop-proxy.runs.items in
    let inv = c.loop-proxy.invariant in
    let Complete : ShardRun → Type 0 = λ run. run.complete ≡ true in
    let exit : c.loop-proxy.proxy ≡ c.proxies_of-proxy-end.result = grind (arith, common_steps) in
    let stops = c.deref-4.ensures.value ∙ c.put_stops.ensures.stops ∙ ap (map stop_of) c.deref.ensures.value in
    let end : (proxies : ℕ) → All (HasProxies proxies) old → c.proxies_of-proxy-end.result ≡ proxies = λ proxies has.
    c.proxies_of-proxy-end.ensures.proxies proxies (subst (All (HasProxies proxies)) (sym c.deref-2.ensures.value) has) in
    record {
      combined = record {
        lines_count = λ proxies has. inv.lines_count ∙ exit ∙ end proxies has;
        failures_count = λ proxies has. inv.failures_count ∙ exit ∙ end proxies has;
        each = inv.each;
        lines = inv.lines;
        complete = (
          λ is.
              zip_all_back (IsFrom c.loop-proxy.proxy) Complete Complete (λ x y f all. sym f.complete ∙ all) old now inv.from
              (subst (All Complete) c.deref-3.ensures.value (c.are_complete.ensures.complete.0 is)),
          λ all.
              c.are_complete.ensures.complete.1
              (subst (All Complete) (sym c.deref-3.ensures.value)
              (zip_all (IsFrom c.loop-proxy.proxy) Complete Complete (λ x y f is. f.complete ∙ is) old now inv.from all)),
        );
        stop =
            subst (λ (l : List (Option Stop)). MatchOption c.first_stop.result (All (λ stop. stop ≡ None) l) (IsFirstStop l)) stops
            c.first_stop.ensures.first;
      };
    }
