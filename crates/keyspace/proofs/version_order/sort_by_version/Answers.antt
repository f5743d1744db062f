use Rattle.std.proofs.Common.{sym, subst, rules}
use Rattle.std.proofs.lemmas.Result.{on_ok_weaker}
use Rattle.keyspace.specs.storage.InOrder.{Rise}
use Rattle.keyspace.proofs.callers.Ordered.{in_order-from_sort_by_key, in_order-rises}
use Rattle.keyspace.proofs.version_order.sort_by_version.Goals as goal

pub returns : goal.returns
returns g c =
    let version = g.T.Versioned.item_version in
    let ok = on_ok_weaker c.sort_by_key.result
    (λ up. in_order-from_sort_by_key version _ _ up c.sort_by_key.ensures.stable (λ a r f' k. search rules))
    c.sort_by_key.ensures.sorted in
    record {
      sorted = ok;
      rises = on_ok_weaker c.sort_by_key.result (λ e. subst (Rise version) (sym e) (in_order-rises version c.args.items.now)) ok;
      count = c.sort_by_key.ensures.len;
      few = c.sort_by_key.ensures.succeeds;
    }
