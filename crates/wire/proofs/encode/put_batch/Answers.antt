use Rattle.std.proofs.Common.{append_assoc, rules, SFits, w64}
use Rattle.std.proofs.lemmas.Int.{to_z-of_z}
use Rattle.std.proofs.lemmas.List.{length-map}
use Rattle.wire.specs.Spelling.{batch_body}
use Rattle.wire.proofs.callers.Held.{batch_holds}
use Rattle.wire.proofs.encode.put_batch.Goals as goal

pub returns-clause-text : goal.returns-clause-text
unfolding batch_body
returns-clause-text c =
    let fits_previous : SFits w64 c.args.batch.now.previous = search rules in
    let fits_version : SFits w64 c.args.batch.now.version = search rules in
    let fits_received : SFits w64 c.args.batch.now.received = search rules in
    rw (
      c.in_ok-put_txns.ensures.text,
      c.in_ok-put_u16.ensures.text,
      c.in_ok-put_i64-3.ensures.text,
      c.in_ok-put_i64-2.ensures.text,
      c.in_ok-put_i64.ensures.text,
      c.in_ok-push.ensures.items,
      c.kind_of.ensures.exact,
      to_z-of_z w64 c.args.batch.now.previous fits_previous,
      to_z-of_z w64 c.args.batch.now.version fits_version,
      to_z-of_z w64 c.args.batch.now.received fits_received,
      c.len.ensures.count,
    ) (simp (append_assoc, length-map))

pub returns-clause-holds : goal.returns-clause-holds
returns-clause-holds c =
    batch_holds c.args.batch.now (search rules) (search rules) (search rules) c.in_ok-put_txns.ensures.fit
