use Rattle.std.proofs.Common.{rules, w64}
use Rattle.std.proofs.lemmas.Int.{to_z-of_z}
use Rattle.boundaries.proofs.Removing.{last_at}
use Rattle.boundaries.proofs.expiry.look_at.Goals as goal

pub returns-clause-last : goal.returns-clause-last
returns-clause-last c =
    let e = c.index-entries-to.result in
    rw (← c.index-entries-to.is, to_z-of_z w64 e.version (search rules))
    (last_at c.args.entries.now c.args.from c.args.to e c.requires.some c.requires.within c.index-entries-to.is)
