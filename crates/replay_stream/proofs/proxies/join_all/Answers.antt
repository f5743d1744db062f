use Rattle.std.proofs.Common.{◌≡◌, [], ◌∷◌, ◌++◌, rules, ap, sym, subst, ◌∙◌, append_assoc, append-nil, arith, length}
use Rattle.std.specs.Prelude.{Some, slice_get}
use Rattle.std.specs.List.{AllZip}
use Rattle.std.specs.Vec.Iter.{into_iter_items}
use Rattle.std.proofs.lemmas.Grind.{common_steps}
use Rattle.replay_stream.specs.declared.proxies.Proxy.{Proxy}
use Rattle.replay_stream.specs.Proxies.{IsJoined, Joined}
use Rattle.replay_stream.specs.Sinks.{state_by}
use Rattle.replay_workers.proofs.callers.Lists.{AllZip-also, mapped_at}
use Rattle.replay_stream.proofs.Joining.{at_middle, streamed_also}
use Rattle.replay_stream.proofs.proxies.join_all.Goals as goal

pub loop-proxy-init : goal.loop-proxy-init
loop-proxy-init g c =
    let items = c.into_iter-proxy-iterator.ensures.into_iter_gives in
    record {
      joined = ([], [], items.0, tt, c.requires.empty);
      room = grind (arith, common_steps);
      failed = search rules;
    }

pub loop-proxy-preserved : goal.loop-proxy-preserved
loop-proxy-preserved g c =
    let before = c.loop-proxy.invariant.joined in
    let proxy = c.in-Some.proxy in
    let rest = into_iter_items c.next.new.self in
    let joins = c.join_recorder-recorder.ensures in
    let j : Joined g.row.W.Denot = record {
      sent = c.join.result;
      outlet = c.join_recorder-recorder.new.outlet;
      recorder = c.join_recorder-recorder.result;
    } in
    record {
      joined = (
        before.0 ++ proxy ∷ [],
        before.1 ++ j ∷ [],
        append_assoc before.0 (proxy ∷ []) rest ∙ ap (λ l. before.0 ++ l) (sym c.in-Some.ensures.steps.0) ∙ before.2,
        AllZip-also (IsJoined g.S.Source.remaining (state_by g.W.Sink.given g.W.Sink.failures)) before.0 before.1 proxy j before.3
            (record { sent = c.join.ensures.sent; outlet_is = joins.outlet; recorder = joins.joins }),
        streamed_also before.1 c.loop-proxy.streamed c.push.new.self j before.4 c.push.ensures.clients c.push.ensures.failures
            c.push.ensures.recorders c.push.ensures.unwritten c.push.ensures.all_sent c.push.ensures.sends_all,
      );
      room = grind (arith, common_steps);
      failed = search rules;
    }

pub join_recorder-recorder-requires-clause-closed : goal.join_recorder-recorder-requires-clause-closed
join_recorder-recorder-requires-clause-closed g c =
    let before = c.loop-proxy.invariant.joined in
    let proxy = c.in-Some.proxy in
    let rest = into_iter_items c.next.new.self in
    let items = c.args.proxies.items in
    let entire : before.0 ++ proxy ∷ rest ≡ items = ap (λ l. before.0 ++ l) (sym c.in-Some.ensures.steps.0) ∙ before.2 in
    let at : slice_get items (length before.0) ≡ Some proxy =
    ap (λ l. slice_get l (length before.0)) (sym entire) ∙ at_middle before.0 rest proxy in
    (c.requires.passed (length before.0) proxy.outlet
    (mapped_at (λ (p : Proxy g.row.S.Denot g.row.W.Denot). p.outlet) items (length before.0) proxy at)).closed

pub returns-clause-joined : goal.returns-clause-joined
returns-clause-joined g c =
    let before = c.loop-proxy.invariant.joined in
    let none : into_iter_items c.loop-proxy.proxy-iterator ≡ [] = first_of (search rules, grind (arith, common_steps)) in
    let entire = sym (append-nil before.0) ∙ ap (λ l. before.0 ++ l) (sym none) ∙ before.2 in (
      before.1,
      subst (λ l. AllZip (IsJoined g.S.Source.remaining (state_by g.W.Sink.given g.W.Sink.failures)) l before.1) entire before.3,
      before.4,
    )
