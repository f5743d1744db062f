use Rattle.std.proofs.Common.{◌≡◌, ◌-◌, length, vec_len, rules, arith}
use Rattle.wire.proofs.callers.Given.{on_err}
use Rattle.wire.proofs.Moving.{fewer_then}
use Rattle.wire.proofs.fill.fill.Goals as goal

pub returns-in_err-read_chunk-clause-cut : goal.returns-in_err-read_chunk-clause-cut
returns-in_err-read_chunk-clause-cut g c =
    let remaining = g.R.Source.remaining in
    let first = c.args.buffer.now in
    let now = c.loop-reader.buffer in
    let first_len : length first.items ≡ vec_len first = search rules in
    let now_len : length now.items ≡ vec_len now = search rules in
    let held : c.len-in-loop-reader.result ≡ vec_len now = search rules in
    on_err c.from_residual.result
    (fewer_then (remaining c.args.reader.now) (remaining c.loop-reader.reader) (remaining c.read_chunk.new.reader)
    first.items now.items (c.args.target - vec_len first) (c.args.target - c.len-in-loop-reader.result)
    c.loop-reader.invariant.0 c.in_err-read_chunk.ensures.cut
    (omega (arith, first_len, now_len, held, c.requires.room, c.loop-reader.invariant.1)))
