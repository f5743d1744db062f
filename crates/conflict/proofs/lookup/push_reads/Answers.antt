use Rattle.std.proofs.Common.{◌≤◌, length, map, ap, subst, arith, ◌∙◌}
use Rattle.std.specs.Prelude.{IsSomeAnd}
use Rattle.keyspace.specs.declared.txn.Txn.{Txn}
use Rattle.conflict.specs.Lookup.{query_named}
use Rattle.conflict.proofs.Named.{read_named}
use Rattle.conflict.proofs.lookup.push_reads.Goals as goal

pub loop-read-preserved : goal.loop-read-preserved
loop-read-preserved c = (
  omega (arith, c.loop-read.invariant.0),
  λ txn at.
      let within = subst (λ o. IsSomeAnd o (λ (t : Txn). c.args.to ≤ length t.reads)) at c.requires.within in
      ap (map (query_named c.args.txns.now)) c.in_ok-push.ensures.items
      ∙ read_named c.args.txns.now txn c.args.from c.loop-read.read c.loop-read.names.items c.args.names.now.items
      (record { txn = c.args.index; range = c.read_index.result }) at c.loop-read.invariant.0
      (omega (arith, c.loop-read-test.true, within)) (λ range there. c.read_index.ensures.range txn range at there)
      (c.loop-read.invariant.1 txn at),
)
