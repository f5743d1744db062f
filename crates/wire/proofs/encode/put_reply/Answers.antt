use Rattle.std.proofs.Common.{List, append_assoc, rules, subst, SFits, w64}
use Rattle.std.specs.List.{All}
use Rattle.std.proofs.lemmas.Int.{to_z-of_z}
use Rattle.std.proofs.lemmas.List.{length-map}
use Rattle.keyspace.specs.Places.{ArePlaces}
use Rattle.keyspace.specs.declared.reply.Entry.{Entry}
use Rattle.wire.specs.Spelling.{reply_body}
use Rattle.wire.proofs.callers.Held.{reply_holds}
use Rattle.wire.proofs.encode.put_reply.Goals as goal

pub returns-clause-text : goal.returns-clause-text
unfolding reply_body
returns-clause-text c =
    let fits : SFits w64 c.args.reply.now.version = search rules in
    rw (
      c.in_ok-put_entries.ensures.text,
      c.as_slice.ensures.items,
      c.in_ok-put_u16.ensures.text,
      c.in_ok-put_i64.ensures.text,
      c.in_ok-push.ensures.items,
      to_z-of_z w64 c.args.reply.now.version fits,
      c.len.ensures.count,
    ) (simp (append_assoc, length-map))

pub returns-clause-holds : goal.returns-clause-holds
returns-clause-holds c =
    reply_holds c.args.reply.now (search rules)
    (subst (λ (entries : List Entry). All (λ entry. ArePlaces entry.places) entries) c.as_slice.ensures.items
    c.in_ok-put_entries.ensures.places)
