use Rattle.std.proofs.Common.{◌≡◌, [], length, arith}
use Rattle.std.specs.Prelude.{vec_len}
use Rattle.std.proofs.lemmas.Result.{IfOk-weaker}
use Rattle.resolver.specs.Share.{share_of}
use Rattle.replay_workers.proofs.Settling.{all_streams, measured, ran, with_capacity}
use Rattle.replay_workers.proofs.workers_run.run_over.Goals as goal

pub returns : goal.returns
returns g c =
    let streams = c.args.streams.items in
    let share = share_of (vec_len c.args.streams) in
    let clients = c.in_ok-resolver.clients.items in
    let first = c.in_ok-resolver.resolver in
    let opens = c.in_ok-resolver.ensures.opens in
    let proxies = c.len.result in
    let same : length streams ≡ length clients = omega (arith, opens.proxies, c.len.ensures) in
    let SawNone = g.O.Observer.has_seen c.args.observer.now [] in
    let Seen = g.O.Observer.has_seen c.run_workers.new.observer in
    let ended = c.run_workers.ensures.ended in
    record {
      run = IfOk-weaker c.run_workers.result _ _ (λ now of. ran g.B.Batches.gives g.B.Batches.is_at_end g.B.Batches.is_at_fault
          g.B.Batches.stays c.args.options share proxies streams clients first SawNone Seen now.0 now.1.items now.2 same opens of.0 of.1) ended;
      observed = IfOk-weaker c.run_workers.result _ _ (λ now of saw_none. (measured g.B.Batches.gives g.B.Batches.is_at_end
          g.B.Batches.is_at_fault g.B.Batches.stays c.args.options share proxies streams clients first SawNone Seen now.0 now.1.items now.2
          same opens of.0 of.1 saw_none).observed) ended;
      measured = IfOk-weaker c.run_workers.result _ _ (λ now of. measured g.B.Batches.gives g.B.Batches.is_at_end
          g.B.Batches.is_at_fault g.B.Batches.stays c.args.options share proxies streams clients first SawNone Seen now.0 now.1.items now.2
          same opens of.0 of.1) ended;
      streams = IfOk-weaker c.run_workers.result _ _ (λ now of.
          let count = all_streams g.B.Batches.gives g.B.Batches.is_at_end g.B.Batches.is_at_fault g.B.Batches.stays c.args.options share
          proxies streams clients first SawNone Seen now.0 now.1.items now.2 same opens of.0 of.1 in
          omega (arith, now.1.ok.0, count, c.args.streams.ok.0)) ended;
      capacity = IfOk-weaker c.run_workers.result _ _ (λ now of. with_capacity g.B.Batches.gives g.B.Batches.is_at_end
          g.B.Batches.is_at_fault g.B.Batches.stays c.args.options share proxies streams clients first SawNone Seen now.0 now.1.items now.2
          same opens of.0 of.1) ended;
      setting = c.run_workers.ensures.setting;
    }
