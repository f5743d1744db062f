use Rattle.std.proofs.Common.{◌≡◌, ◌+◌, ◌≤◌, ◌++◌, length, take, rules, ◌∙◌, arith}
use Rattle.wire.proofs.callers.Given.{on_err}
use Rattle.wire.proofs.Moving.{filled, held_stays, fewer_weaker}
use Rattle.wire.proofs.fill.read_chunk.Goals as goal

pub returns-clause-bytes : goal.returns-clause-bytes
returns-clause-bytes g c =
    let held = c.len-held.result in
    let count = c.in_ok-count.count in
    let old = c.args.buffer.now.items in
    let read = c.read_into.new.room in
    let before = c.reserve_exact.new.self.items in
    let room = held + c.min-wanted.result in
    let wide : held ≤ room = search rules in
    let long : held ≡ length before = search rules in
    let kept : take held c.deref_mut.result.now ≡ old = held_stays held room before _ c.deref_mut.result.now long wide
    (c.deref_mut.ensures.value ∙ c.in_ok-resize.ensures.items) ∙ c.reserve_exact.ensures.items in
    let len : held ≡ length old = search rules in
    let few : count ≤ length read = search rules in
    let within : held + count ≤ c.resize.new.self.len = search rules in
    let joined : c.truncate.new.self.items ≡ old ++ take count read = c.truncate.ensures.items
    ∙ filled held count c.resize.new.self.len (take held c.deref_mut.result.now) old read _ _ kept len few within in
    (take count read, joined, c.in_ok-count.ensures.bytes)

pub returns-in_err-count-clause-cut : goal.returns-in_err-count-clause-cut
returns-in_err-count-clause-cut g c =
    let read = c.read_into.new.room in
    let wanted = c.min-wanted.result in
    let len : length read ≡ wanted = search rules in
    let low : wanted ≤ c.args.most = search rules in
    on_err c.from_residual-in_err-count.result
    (fewer_weaker (length read) c.args.most (g.R.Source.remaining c.args.reader.now)
    (g.R.Source.remaining c.read_into.new.reader) (omega (arith, len, low)) c.in_err-count.ensures.cut)
