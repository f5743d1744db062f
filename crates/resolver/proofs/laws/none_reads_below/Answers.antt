use Rattle.std.proofs.Common.{length, arith}
use Rattle.std.proofs.lemmas.Option.{slice_get_within}
use Rattle.resolver.proofs.ReadingFrom.{none_below}
use Rattle.resolver.proofs.laws.none_reads_below.Goals as goal

pub returns-clause-committed : goal.returns-clause-committed
returns-clause-committed c = none_below c.unknown_history.ensures.below c.runs_are_chains.ensures.chain

pub returns-clause-reported : goal.returns-clause-reported
returns-clause-reported c = λ version window log lanes clients account settled proxy client there at j reports.
    let is = settled.reported proxy client there at j reports in
    let known = slice_get_within clients proxy client there in (
      is,
      returns-clause-committed c version window (length clients) log is.index j is.entry is.txn is.committed
          (omega (arith, known, is.of_proxy)),
    )
