use Rattle.std.proofs.Common.{List, subst, rules}
use Rattle.std.specs.List.{All}
use Rattle.keyspace.specs.Places.{ArePlaces}
use Rattle.keyspace.specs.declared.reply.Entry.{Entry}
use Rattle.wire.proofs.callers.Held.{reply_holds}
use Rattle.json_lines.proofs.reply_writer.put_reply.Goals as goal

pub returns-clause-holds : goal.returns-clause-holds
returns-clause-holds c =
    reply_holds c.args.reply.now (search rules)
    (subst (λ (entries : List Entry). All (λ entry. ArePlaces entry.places) entries) c.as_slice.ensures.items
    c.in_ok-put_entries.ensures.places)
