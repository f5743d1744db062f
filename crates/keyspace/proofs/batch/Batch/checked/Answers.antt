use Rattle.std.proofs.Common.{rules}
use Rattle.std.proofs.lemmas.Int.{to_z-of_z}
use Rattle.keyspace.specs.Versions.{AreVersions}
use Rattle.keyspace.proofs.batch.Batch.checked.Goals as goal

pub returns-clause-beyond_version : goal.returns-clause-beyond_version
returns-clause-beyond_version c =
    let versions : AreVersions c.args.previous c.args.version c.args.received = search (rules, to_z-of_z) in
    (λ e. absurd cc, λ no. absurd (no versions))
