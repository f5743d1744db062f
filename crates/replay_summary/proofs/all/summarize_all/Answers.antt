use Rattle.std.proofs.Common.{ℤ, List, map, vec_items, sym, subst, arith}
use Rattle.keyspace.specs.storage.InOrder.{Rise}
use Rattle.replay_summary.specs.Counted.{version_of}
use Rattle.replay_summary.specs.Summary.{Fits, summary_of}
use Rattle.replay_summary.proofs.CountedItems.{holds_at}
use Rattle.replay_summary.proofs.all.summarize_all.Goals as goal

pub summarize-requires : goal.summarize-requires
summarize-requires g c =
    let version : g.row.T.Denot → ℤ = λ answer. version_of (g.T.HasCounted.item_counted answer) in
    record {
      rises = subst (Rise version) (sym c.deref.ensures.value)
          (holds_at vec_items (Rise version) c.args.answers.now c.loop-of_proxy.of_proxy-index c.of_proxy-item.result c.requires.rise
          (omega arith) c.of_proxy-item.is);
    }

pub returns-in_default-clause-memory : goal.returns-in_default-clause-memory
returns-in_default-clause-memory g c =
    let fits : List g.row.T.Denot → Type 0 = λ of_proxy. Fits (summary_of (map g.T.HasCounted.item_counted of_proxy)) in
    λ all. absurd (c.in_default.ensures.none (subst fits (sym c.deref.ensures.value)
    (holds_at vec_items fits c.args.answers.now c.loop-of_proxy.of_proxy-index c.of_proxy-item.result all (omega arith)
    c.of_proxy-item.is)))
