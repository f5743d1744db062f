use Rattle.std.proofs.Common.{◌≡◌, ◌∷◌, ◌+◌, ◌∙◌, ap, rules, arith}
use Rattle.std.specs.Prelude.{ℕ, vec_len}
use Rattle.std.specs.Vec.Iter.{into_iter_items}
use Rattle.std.proofs.lemmas.Grind.{common_steps}
use Rattle.std.proofs.lemmas.List.Elements.{All-push, All-same}
use Rattle.replay_stream.specs.declared.proxies.ProxyTask.{ProxyTask}
use Rattle.replay_stream.specs.Proxies.{IsNewOutlet, threads_by}
use Rattle.replay_stream.proofs.Places.{given_also, given_one}
use Rattle.replay_stream.proofs.proxies.connect_all.Goals as goal

pub loop-client-preserved : goal.loop-client-preserved
loop-client-preserved g c =
    let before = c.loop-client.invariant in
    let tasks = c.loop-client.tasks.items in
    let after = c.push_reserved.new.self.items in
    let task = c.in_ok-task.task in
    let client = c.in-Some.client in
    let reader = c.in-Some-next.reader in
    let out = c.in-Some-next-2.out in
    let rest_clients = into_iter_items c.next.new.self in
    let rest_readers = into_iter_items c.next-in-loop-client.new.self in
    let rest_outs = into_iter_items c.next-in-loop-client-2.new.self in
    let readers_are : into_iter_items c.loop-client.readers ≡ reader ∷ rest_readers =
    first_of (search rules, grind (arith, common_steps)) in
    let outs_are : into_iter_items c.loop-client.records ≡ out ∷ rest_outs =
    first_of (search rules, grind (arith, common_steps)) in
    let number : vec_len c.push_reserved.new.self ≡ vec_len c.loop-client.tasks + 1 =
    first_of (search rules, grind (arith, common_steps)) in
    let counted : c.len-in-loop-client.result ≡ vec_len c.loop-client.tasks = first_of (search rules, grind (arith, common_steps)) in
    record {
      given = given_also c.args.options.reports tasks after task (into_iter_items c.loop-client.client-iterator) rest_clients client
          (into_iter_items c.loop-client.readers) rest_readers reader (into_iter_items c.loop-client.records) rest_outs out _
          (vec_len c.loop-client.tasks) (vec_len c.push_reserved.new.self) before.given c.in-Some.ensures.steps.0 readers_are outs_are
          c.push_reserved.ensures.items number
          (c.in_ok-task.ensures.given ∙ ap (λ (n : ℕ). given_one c.args.options.reports n client reader out) counted);
      new = All-same (λ (t : ProxyTask g.row.S.Denot g.row.W.Denot g.row.G.Denot). IsNewOutlet t.outlet (threads_by t).answers) _ _
          c.push_reserved.ensures.items
          (All-push (λ (t : ProxyTask g.row.S.Denot g.row.W.Denot g.row.G.Denot). IsNewOutlet t.outlet (threads_by t).answers) tasks task
          before.new c.in_ok-task.ensures.new);
      room = first_of (search rules, grind (arith, common_steps));
      readers = first_of (search rules, grind (arith, common_steps));
      records = first_of (search rules, grind (arith, common_steps));
    }
