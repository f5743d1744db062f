use Rattle.std.proofs.Common.{rules}
use Rattle.keys.proofs.callers.KeyHeads.{have_same_begin}
use Rattle.keys.proofs.prefix.common_bytes.Goals as goal

pub returns-clause-same : goal.returns-clause-same
returns-clause-same c =
    have_same_begin c.count.result c.args.a.now c.args.b.now (search rules) (search rules) (search rules)
