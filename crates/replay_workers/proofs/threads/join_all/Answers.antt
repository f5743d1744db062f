use Rattle.std.proofs.Common.{◌≡◌, List, [], ◌∷◌, ◌++◌, rules, ap, sym, subst, ◌∙◌, append_assoc, append-nil, arith}
use Rattle.std.specs.Prelude.{map}
use Rattle.std.specs.List.{AllZip}
use Rattle.std.specs.Vec.Iter.{into_iter_items}
use Rattle.std.proofs.lemmas.Grind.{common_steps}
use Rattle.std.proofs.lemmas.List.{map-append}
use Rattle.replay_workers.specs.declared.threads.Worked.{Worked}
use Rattle.replay_workers.specs.declared.worker.Finished.{Finished}
use Rattle.replay_workers.specs.Threads.{finished_of, given_to, HasWorkedOn, IsOutcomeOf}
use Rattle.replay_workers.proofs.callers.Lists.{AllZip-also}
use Rattle.replay_workers.proofs.Working.{outcome_also}
use Rattle.replay_workers.proofs.threads.join_all.Goals as goal

pub loop-worker-init : goal.loop-worker-init
loop-worker-init g c =
    let items = c.into_iter-worker-iterator.ensures.into_iter_gives in
    record {
      joined = ([], [], ap (λ workers. map given_to workers) items.0, tt, c.requires.empty, c.requires.none);
      room = grind (arith, common_steps);
      streams_room = grind (arith, common_steps);
    }

pub loop-worker-preserved : goal.loop-worker-preserved
loop-worker-preserved g c =
    let before = c.loop-worker.invariant.joined in
    let given = given_to c.in-Some.worker in
    let rest = into_iter_items c.next.new.self in
    record {
      joined = (
        before.0 ++ given ∷ [],
        before.1 ++ c.join-finished.result ∷ [],
        append_assoc before.0 (given ∷ []) (map given_to rest)
            ∙ ap (λ workers. before.0 ++ map given_to workers) (sym c.in-Some.ensures.steps.0) ∙ before.2,
        AllZip-also (HasWorkedOn g.B.Batches.gives g.B.Batches.is_at_end g.B.Batches.is_at_fault g.B.Batches.stays) before.0
            before.1 given c.join-finished.result before.3 c.join-finished.ensures,
        subst (λ (all : List Finished). IsOutcomeOf all c.push.new.self)
            (sym (map-append (λ (w : Worked g.row.B.Denot). w.finished) before.1 (c.join-finished.result ∷ [])))
            (outcome_also (finished_of before.1) c.loop-worker.outcome c.push.new.self c.join-finished.result.finished before.4
            c.push.ensures.clients c.push.ensures.lines c.push.ensures.failures c.push.ensures.all_sent c.push.ensures.sends_all),
        c.push_reserved.ensures.items ∙ ap (λ (l : List g.row.B.Denot). l ++ c.join-finished.result.batches ∷ []) before.5
            ∙ sym (map-append (λ (w : Worked g.row.B.Denot). w.batches) before.1 (c.join-finished.result ∷ [])),
      );
      room = grind (arith, common_steps);
      streams_room = grind (arith, common_steps);
    }

pub returns : goal.returns
returns g c =
    let before = c.loop-worker.invariant.joined in
    let none : into_iter_items c.loop-worker.worker-iterator ≡ [] = first_of (search rules, grind (arith, common_steps)) in
    let entire = sym (append-nil before.0) ∙ ap (λ workers. before.0 ++ map given_to workers) (sym none) ∙ before.2 in
    record {
      worked = (
        before.1,
        subst (λ given. AllZip (HasWorkedOn g.B.Batches.gives g.B.Batches.is_at_end g.B.Batches.is_at_fault
            g.B.Batches.stays) given before.1) entire before.3,
        before.4,
        before.5,
      );
    }
