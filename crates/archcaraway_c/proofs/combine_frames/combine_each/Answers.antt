use Rattle.std.proofs.Common.{rules}
use Rattle.archcaraway_c.proofs.combine_frames.combine_each.Goals as goal

pub returns-in-Err-Misfit-clause-refused : goal.returns-in-Err-Misfit-clause-refused
returns-in-Err-Misfit-clause-refused c =
    (c.combine.ensures.misfit c.in-Err-Misfit.shard c.in-Err-Misfit.cause).0 (search rules)
