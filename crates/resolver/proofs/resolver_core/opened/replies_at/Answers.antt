use Rattle.std.proofs.Common.{w64, to_z, of_z, ◌==◌, ◌&&◌, cond, Some, sym, ap, ◌∙◌, arith}
use Rattle.std.specs.Prelude.{pos, ◌≤ℤ◌, ◌<ℤ◌}
use Rattle.std.specs.Ordering.{int_eq}
use Rattle.std.proofs.lemmas.Int.{ints, to_z-of_z}
use Rattle.keyspace.specs.Found.{kept_reply}
use Rattle.keyspace.specs.Run.{run}
use Rattle.resolver.specs.OpeningLog.{opening_log}
use Rattle.resolver.proofs.OpenedCore.{kept_opening, kept_start}
use Rattle.resolver.proofs.resolver_core.opened.replies_at.Goals as goal

pub returns-then-version-lt0-clause-kept : goal.returns-then-version-lt0-clause-kept
returns-then-version-lt0-clause-kept c = λ window p v.
    let below : c.args.version <ℤ pos 0 =
    grind (arith, ints, c.if-version-lt0.true, to_z-of_z w64 c.args.version c.ranges.version) in
    c.new-replies.ensures.none p v ∙ sym (kept_start window c.args.proxies c.args.version below p v)

pub returns-clause-kept : goal.returns-clause-kept
returns-clause-kept c = λ window p v.
    let version = to_z w64 (of_z w64 c.args.version) in
    let same = to_z-of_z w64 c.args.version c.ranges.version in
    let natural : pos 0 ≤ℤ version = grind (arith, ints, c.if-version-lt0.false) in
    let reply = c.in_ok-opening_reply.field-0 in
    c.in_ok-put.ensures.kept p v
    ∙ ap (cond ((c.args.proxies == p) && int_eq reply.version v) (Some reply)) (c.new-replies.ensures.none p v)
    ∙ kept_opening window c.args.proxies version reply natural c.in_ok-opening_reply.ensures.version
    c.in_ok-opening_reply.ensures.entries p v
    ∙ ap (λ n. kept_reply (run window (opening_log c.args.proxies n)).processed p v) same
