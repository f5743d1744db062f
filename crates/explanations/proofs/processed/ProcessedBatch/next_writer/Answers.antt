use Rattle.std.proofs.Common.{subst}
use Rattle.keys.specs.Hash.{IsHashOf}
use Rattle.keyspace.specs.Processed.{Processed}
use Rattle.explanations.specs.Writers.{IsNextWriter}
use Rattle.explanations.proofs.processed.ProcessedBatch.next_writer.Goals as goal

pub returns-in-Some : goal.returns-in-Some
returns-in-Some c =
    let own = c.self.inside in
    record {
      next = λ range of.
          subst (λ (p : Processed). IsNextWriter p.batch.txns p.reply.entries range c.args.from c.next.result) c.self.view_is
          (c.next.ensures.next own.batch.txns own.reply.entries c.self.invariant c.if-self.false range
          (subst (IsHashOf range) c.in-Some.is of));
    }

pub returns-then-self : goal.returns-then-self
returns-then-self c = record { next = λ range of. c.next_txn.ensures.next range }

pub returns-in-None : goal.returns-in-None
returns-in-None c = record { next = λ range of. c.next_txn-in-None.ensures.next range }
