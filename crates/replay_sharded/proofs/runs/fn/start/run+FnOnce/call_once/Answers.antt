use Rattle.replay_sharded.proofs.runs.fn.start.run+FnOnce.call_once.Goals as goal

-- the bounds of the types, and what the run of a shard asks of its clips
pub run-requires : goal.run-requires
run-requires g c =
    let bounds = c.requires.1.1.1 in
    let crosses = bounds.1.1.1.1.1.1 in (
      bounds.0,
      (
        bounds.1.0,
        (
          bounds.1.1.0,
          (
            crosses.0,
            (crosses.1, (crosses.2, (crosses.3, (bounds.1.1.1.0, (bounds.1.1.1.1.0, bounds.1.1.1.1.1.0))))),
          ),
        ),
      ),
    )
