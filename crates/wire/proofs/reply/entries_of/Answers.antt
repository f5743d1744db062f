use Rattle.std.proofs.Common.{◌≡◌, ◌++◌, ◌∷◌, [], map, arith}
use Rattle.std.proofs.lemmas.Result.{err_from_is_err_and}
use Rattle.std.proofs.lemmas.List.{map_push}
use Rattle.wire.specs.Fields.{entry_fields}
use Rattle.wire.specs.Reading.{entry_at, many_at}
use Rattle.wire.proofs.Loop.{continues, ends, is_done}
use Rattle.wire.proofs.reply.entries_of.Goals as goal

pub returns-in_err-entry-clause-reads : goal.returns-in_err-entry-clause-reads
returns-in_err-entry-clause-reads c =
    let p = err_from_is_err_and c.from_residual-in_err-entry.result c.from_residual-in_err-entry.ensures.1 in
    rw (p.1, p.2) (ends entry_at c.in_err-entry.field-0.0
    (map entry_fields c.loop.entries.items) c.args.count c.loop.counter c.loop.rest.now
    (many_at entry_at c.args.count c.args.bytes.now) c.loop-test.true c.in_err-entry.ensures.reads
    c.loop.invariant.0)

pub loop-preserved : goal.loop-preserved
loop-preserved c =
    let entry = c.in_ok-entry.entry in
    let pushed : map entry_fields c.push.new.self.items
    ≡ map entry_fields c.loop.entries.items ++ entry_fields entry ∷ [] =
    rw c.in_ok-push.ensures.items (map_push _ c.loop.entries.items entry) in (
      rw pushed (continues entry_at (map entry_fields c.loop.entries.items) c.args.count c.loop.counter
          c.loop.rest.now (entry_fields entry) c.in_ok-entry.after.now
          (many_at entry_at c.args.count c.args.bytes.now) c.loop-test.true c.in_ok-entry.ensures.reads
          c.loop.invariant.0),
      omega (arith, c.in_ok-push.ensures.len),
    )

pub returns-clause-reads : goal.returns-clause-reads
returns-clause-reads c = is_done entry_at (map entry_fields c.loop.entries.items) c.args.count c.loop.counter
    c.loop.rest.now (many_at entry_at c.args.count c.args.bytes.now) c.loop-test.false c.loop.invariant.0
