use Rattle.std.proofs.Common.{◌≡◌, ◌<◌, ◌≤◌, length, ap, ◌∙◌, arith}
use Rattle.keyspace.specs.Processed.{Processed}
use Rattle.explanations.proofs.NextWriter.{nobody_between}
use Rattle.explanations.proofs.processed.ProcessedBatch.next_txn.Goals as goal

pub returns-then-from-len : goal.returns-then-from-len
returns-then-from-len c =
    let p = c.args.self.now in
    let count : c.len.result ≡ length p.batch.txns = c.len.ensures.count ∙ ap (λ (x : Processed). length x.batch.txns) c.self.view_is in
    let inside : c.args.from < length p.batch.txns = omega (arith, c.if-from-len.true, count) in
    record { next = λ range. (omega arith, inside, nobody_between p.batch.txns p.reply.entries range c.args.from) }

pub returns-else-from-len : goal.returns-else-from-len
returns-else-from-len c =
    let p = c.args.self.now in
    let count : c.len.result ≡ length p.batch.txns = c.len.ensures.count ∙ ap (λ (x : Processed). length x.batch.txns) c.self.view_is in
    let past : length p.batch.txns ≤ c.args.from = omega (arith, c.if-from-len.false, count) in
    record { next = λ range j t e low high at_t at_e. absurd (omega (arith, past, low, high)) }
