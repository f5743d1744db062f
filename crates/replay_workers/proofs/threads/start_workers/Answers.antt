use Rattle.std.proofs.Common.{◌≡◌, ℕ, [], ◌∷◌, ◌++◌, rules, ap, sym, subst, ◌∙◌, append_assoc, arith}
use Rattle.std.specs.Prelude.{List, None, map, vec_len}
use Rattle.std.specs.List.{All}
use Rattle.std.specs.Vec.Iter.{into_iter_items}
use Rattle.std.proofs.lemmas.Grind.{common_steps}
use Rattle.std.proofs.lemmas.List.{map-append}
use Rattle.std.proofs.lemmas.List.Elements.{All-head, All-tail}
use Rattle.resolver.specs.Share.{share_of}
use Rattle.replay_workers.specs.declared.threads.StartedWorkers.{StartedWorkers}
use Rattle.replay_workers.specs.declared.threads.WorkerTask.{WorkerTask}
use Rattle.replay_workers.specs.Threads.{Given, given_by, given_each, given_to}
use Rattle.replay_workers.proofs.Working.{given_all}
use Rattle.replay_workers.proofs.threads.start_workers.Goals as goal

pub loop-task-init : goal.loop-task-init
loop-task-init g c =
    let Fresh = λ (given : Given g.row.B.Denot). g.B.Batches.refusal given.batches ≡ None in
    let items = c.into_iter-task-iterator.ensures.into_iter_gives in
    let share = share_of (vec_len c.args.streams) in
    let share_is : c.share-share.result ≡ share = first_of (search rules, grind (arith, common_steps)) in
    let tasks = ap (λ (tasks : List (WorkerTask g.row.B.Denot g.row.G.Denot)). map given_by tasks) items.0 ∙ c.in_ok-tasks.ensures.given
    ∙ ap (λ (share : ℕ). given_each c.args.style share 0 c.args.clients.items c.args.streams.items) share_is in
    record {
      given = ap (λ (l : List (StartedWorkers g.row.B.Denot)). map given_to l ++ map given_by (into_iter_items c.into_iter-task-iterator.result))
          c.in_ok-workers.ensures.items ∙ tasks;
      fresh = subst (All Fresh) (sym tasks)
          (given_all (λ batches. g.B.Batches.refusal batches ≡ None) c.args.style share 0
          c.args.clients.items c.args.streams.items c.requires.fresh);
      room = grind (arith, common_steps);
    }

pub start-requires-clause-fresh : goal.start-requires-clause-fresh
start-requires-clause-fresh g c κs within =
    let Fresh = λ (given : Given g.row.B.Denot). g.B.Batches.refusal given.batches ≡ None in
    All-head Fresh (given_by c.in-Some.task) _
    (subst (λ (tasks : List (WorkerTask g.row.B.Denot g.row.G.Denot)). All Fresh (map given_by tasks)) c.in-Some.ensures.steps.0
    c.loop-task.invariant.fresh)

pub loop-task-preserved : goal.loop-task-preserved
loop-task-preserved g c =
    let Fresh = λ (given : Given g.row.B.Denot). g.B.Batches.refusal given.batches ≡ None in
    let rest = into_iter_items c.next.new.self in
    let old = c.loop-task.workers.items in
    let worker = c.in_ok-start.field-0 in
    record {
      given = ap (λ (l : List (StartedWorkers g.row.B.Denot)). map given_to l ++ map given_by rest) c.push_reserved.ensures.items
          ∙ ap (λ (l : List (Given g.row.B.Denot)). l ++ map given_by rest) (map-append given_to old (worker ∷ []))
          ∙ append_assoc (map given_to old) (given_to worker ∷ []) (map given_by rest)
          ∙ ap (λ (one : Given g.row.B.Denot). map given_to old ++ one ∷ map given_by rest) c.in_ok-start.ensures.given
          ∙ ap (λ (tasks : List (WorkerTask g.row.B.Denot g.row.G.Denot)). map given_to old ++ map given_by tasks) (sym c.in-Some.ensures.steps.0)
          ∙ c.loop-task.invariant.given;
      fresh = All-tail Fresh (given_by c.in-Some.task) (map given_by rest)
          (subst (λ (tasks : List (WorkerTask g.row.B.Denot g.row.G.Denot)). All Fresh (map given_by tasks)) c.in-Some.ensures.steps.0
          c.loop-task.invariant.fresh);
      room = grind (arith, common_steps);
    }
