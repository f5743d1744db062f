use Rattle.std.proofs.Common.{List}
use Rattle.std.proofs.lemmas.Result.{IfOk-weaker}
use Rattle.keyspace.specs.declared.TheConstants.{WINDOW}
use Rattle.keyspace.specs.Run.{Step}
use Rattle.proved_callers.specs.declared.served_proxies.Served.{Served}
use Rattle.proved_callers.specs.Served.{AreServed}
use Rattle.proved_callers.specs.Transfers.{SumStays}
use Rattle.proved_callers.proofs.Transferring.{transfers_keep}
use Rattle.proved_callers.proofs.served_proxies.transfer_two.Goals as goal

pub returns : goal.returns
returns c =
    let first = c.args.first in
    let second = c.args.second in
    record {
      sum = IfOk-weaker c.serve_two.result
          (λ (served : Served). (log : List Step) × AreServed WINDOW log first second served)
          (λ (served : Served). (log : List Step) × AreServed WINDOW log first second served × SumStays WINDOW log first second)
          (λ served are. (are.0, are.1, transfers_keep WINDOW are.0 first second served are.1))
          c.serve_two.ensures.served;
    }
