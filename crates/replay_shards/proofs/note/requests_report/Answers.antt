use Rattle.std.proofs.Common.{◌≡◌, true, false, rules, sym, arith}
use Rattle.std.proofs.lemmas.Grind.{common_steps}
use Rattle.replay_shards.proofs.Requests.{some_requests, none_requests}
use Rattle.replay_shards.proofs.note.requests_report.Goals as goal

pub returns-then-txn : goal.returns-then-txn
returns-then-txn c =
    let t = c.txn.result in
    let marked : t.marked ≡ true = first_of (search rules, grind (arith, common_steps)) in
    record { some = sym (some_requests c.args.batch.now.txns c.loop-index.index t c.txn.ensures.txn marked) }

pub loop-index-preserved : goal.loop-index-preserved
loop-index-preserved c =
    let t = c.txn.result in
    let unmarked : t.marked ≡ false = first_of (search rules, grind (arith, common_steps)) in
    none_requests c.args.batch.now.txns c.loop-index.index t c.txn.ensures.txn unmarked c.loop-index.invariant
