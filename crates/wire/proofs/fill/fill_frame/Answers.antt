use Rattle.std.proofs.Common.{◌≡◌, ◌+◌, ◌-◌, ◌<◌, ◌≤◌, ℕ, List, [], length, vec_len, ap, subst, sym, ◌∙◌, rules, arith}
use Rattle.std.specs.Io.KnownBytes.{Consumes}
use Rattle.wire.specs.Filling.{MovesInto}
use Rattle.wire.specs.FrameLength.{frame_length}
use Rattle.wire.proofs.callers.Given.{at_any_err}
use Rattle.wire.proofs.Moving.{moves_all, fewer_weaker}
use Rattle.wire.proofs.FrameLengths.{at_least_four}
use Rattle.wire.proofs.FrameParts.{cut_in_front, cut_after_front, longer_front}
use Rattle.wire.proofs.fill.fill_frame.Goals as goal

pub returns-in_err-fill-clause-part : goal.returns-in_err-fill-clause-part
returns-in_err-fill-clause-part g c =
    let old = g.R.Source.remaining c.args.reader.now in
    let new = g.R.Source.remaining c.fill.new.reader in
    at_any_err c.from_residual.result
    (λ e. cut_in_front e old new (fewer_weaker _ 4 old new (omega arith) c.in_err-fill.ensures.cut))

pub returns-in_err-fill-2-clause-part : goal.returns-in_err-fill-2-clause-part
returns-in_err-fill-2-clause-part g c =
    let old = g.R.Source.remaining c.args.reader.now in
    let now = g.R.Source.remaining c.fill.new.reader in
    let new = g.R.Source.remaining c.fill-then-length-gt4.new.reader in
    let front = c.fill.new.buffer.items in
    let moved : MovesInto old now [] front =
    subst (λ (held : List ℕ). MovesInto old now held front) c.clear.ensures.items c.in_ok-fill.ensures.bytes in
    let reported : c.frame_length-length.result ≡ frame_length front =
    c.frame_length-length.ensures.exact ∙ ap frame_length c.deref.ensures.value in
    let len : length front ≡ vec_len c.fill.new.buffer = search rules in
    let more : 4 < frame_length front = omega (arith, reported, c.if-length-gt4.true) in
    at_any_err c.from_residual-in_err-fill-2.result
    (λ e. cut_after_front e old now new front (moves_all old now front moved) more
    (fewer_weaker _ (frame_length front - length front) now new (omega (arith, reported, len)) c.in_err-fill-2.ensures.cut))

pub returns-in_ok-fill-2-clause-within : goal.returns-in_ok-fill-2-clause-within
returns-in_ok-fill-2-clause-within g c =
    let now = g.R.Source.remaining c.fill.new.reader in
    let new = g.R.Source.remaining c.fill-then-length-gt4.new.reader in
    let front = c.fill.new.buffer.items in
    let all = c.fill-then-length-gt4.new.buffer.items in
    let reported : c.frame_length-length.result ≡ frame_length front =
    c.frame_length-length.ensures.exact ∙ ap frame_length c.deref.ensures.value in
    let same = longer_front now new front all c.in_ok-fill-2.ensures.bytes (omega (arith, reported, c.if-length-gt4.true)) in
    omega (arith, same, reported, c.in_ok-fill-2.ensures.within)

pub returns-in_ok-fill-2-clause-end : goal.returns-in_ok-fill-2-clause-end
returns-in_ok-fill-2-clause-end g c less =
    let now = g.R.Source.remaining c.fill.new.reader in
    let new = g.R.Source.remaining c.fill-then-length-gt4.new.reader in
    let front = c.fill.new.buffer.items in
    let all = c.fill-then-length-gt4.new.buffer.items in
    let reported : c.frame_length-length.result ≡ frame_length front =
    c.frame_length-length.ensures.exact ∙ ap frame_length c.deref.ensures.value in
    let same = longer_front now new front all c.in_ok-fill-2.ensures.bytes (omega (arith, reported, c.if-length-gt4.true)) in
    c.in_ok-fill-2.ensures.end (omega (arith, same, reported, less))

pub returns-else-length-gt4-clause-within : goal.returns-else-length-gt4-clause-within
returns-else-length-gt4-clause-within g c =
    omega (arith, at_least_four c.fill.new.buffer.items, c.in_ok-fill.ensures.within)
