use Rattle.std.proofs.Common.{rules, ◌≡◌}
use Rattle.keyspace.specs.declared.reply.Verdict.TheVariants.{Committed}
use Rattle.keyspace.specs.Judge.{without_places}
use Rattle.keyspace.proofs.callers.Judging.{entry_same}
use Rattle.resolver.proofs.resolver_core.opened.opening_reply.Goals as goal

pub returns-clause-entries : goal.returns-clause-entries
returns-clause-entries c =
    let entry = c.new-committed.result in
    let same : entry ≡ without_places Committed = entry_same entry (without_places Committed)
    c.new-committed.ensures.verdict (search rules) in
    search (rules, same)
