use Rattle.std.proofs.Common.{[], ◌∷◌, ◌++◌, ap, sym, ◌∙◌, append_assoc, arith}
use Rattle.std.specs.Prelude.{List, map}
use Rattle.std.specs.Vec.Iter.{into_iter_items}
use Rattle.std.proofs.lemmas.Grind.{common_steps}
use Rattle.std.proofs.lemmas.List.{map-append}
use Rattle.replay_stream.specs.declared.outlet.Outlet.{Outlet}
use Rattle.replay_stream.specs.declared.proxies.Proxy.{Proxy}
use Rattle.replay_stream.specs.declared.proxies.ProxyTask.{ProxyTask}
use Rattle.replay_stream.specs.Proxies.{GivenThreads, outlets_of, threads_by, threads_of}
use Rattle.replay_stream.proofs.proxies.start_all.Goals as goal

pub loop-task-init : goal.loop-task-init
loop-task-init g c =
    let Task = ProxyTask g.row.S.Denot g.row.W.Denot g.row.G.Denot in
    let Started = Proxy g.row.S.Denot g.row.W.Denot in
    let items = c.into_iter-task-iterator.ensures.into_iter_gives in
    let first = into_iter_items c.into_iter-task-iterator.result in
    record {
      outlets = ap (λ (l : List Started). outlets_of l ++ map (λ (t : Task). t.outlet) first) c.in_ok-proxies.ensures.items
          ∙ ap (λ (l : List Task). map (λ (t : Task). t.outlet) l) items.0;
      threads = ap (λ (l : List Started). map threads_of l ++ map (λ (t : Task). threads_by t) first) c.in_ok-proxies.ensures.items
          ∙ ap (λ (l : List Task). map (λ (t : Task). threads_by t) l) items.0;
      room = grind (arith, common_steps);
    }

pub loop-task-preserved : goal.loop-task-preserved
loop-task-preserved g c =
    let Task = ProxyTask g.row.S.Denot g.row.W.Denot g.row.G.Denot in
    let Started = Proxy g.row.S.Denot g.row.W.Denot in
    let Threads = GivenThreads g.row.S.Denot g.row.W.Denot in
    let rest = into_iter_items c.next.new.self in
    let old = c.loop-task.proxies.items in
    let proxy = c.in_ok-start.field-0 in
    record {
      outlets = ap (λ (l : List Started). outlets_of l ++ map (λ (t : Task). t.outlet) rest) c.push_reserved.ensures.items
          ∙ ap (λ (l : List Outlet). l ++ map (λ (t : Task). t.outlet) rest) (map-append (λ (p : Started). p.outlet) old (proxy ∷ []))
          ∙ append_assoc (outlets_of old) (proxy.outlet ∷ []) (map (λ (t : Task). t.outlet) rest)
          ∙ ap (λ (one : Outlet). outlets_of old ++ one ∷ map (λ (t : Task). t.outlet) rest) c.in_ok-start.ensures.outlet
          ∙ ap (λ (l : List Task). outlets_of old ++ map (λ (t : Task). t.outlet) l) (sym c.in-Some.ensures.steps.0)
          ∙ c.loop-task.invariant.outlets;
      threads = ap (λ (l : List Started). map threads_of l ++ map (λ (t : Task). threads_by t) rest) c.push_reserved.ensures.items
          ∙ ap (λ (l : List Threads). l ++ map (λ (t : Task). threads_by t) rest) (map-append (λ (p : Started). threads_of p) old (proxy ∷ []))
          ∙ append_assoc (map threads_of old) (threads_of proxy ∷ []) (map (λ (t : Task). threads_by t) rest)
          ∙ ap (λ (one : Threads). map threads_of old ++ one ∷ map (λ (t : Task). threads_by t) rest) c.in_ok-start.ensures.threads
          ∙ ap (λ (l : List Task). map threads_of old ++ map (λ (t : Task). threads_by t) l) (sym c.in-Some.ensures.steps.0)
          ∙ c.loop-task.invariant.threads;
      room = grind (arith, common_steps);
    }
