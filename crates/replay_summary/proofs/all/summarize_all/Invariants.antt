use Rattle.std.proofs.Common.{◌≡◌, map, take, vec_items}
use Rattle.replay_summary.specs.Summary.{summary_of}
use Rattle.replay_summary.proofs.all.summarize_all.Given as goal

abbrev pub invariant-loop-of_proxy : goal.invariant-loop-of_proxy
invariant-loop-of_proxy g l =
    l.summaries.items
    ≡ map (λ of_proxy. summary_of (map g.T.HasCounted.item_counted of_proxy)) (map vec_items (take l.of_proxy-index l.answers))
