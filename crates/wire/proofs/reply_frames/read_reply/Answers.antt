use Rattle.std.proofs.Common.{◌≡◌, ◌≢◌, ℕ, ◌<◌, ◌≤◌, ◌+◌, List, [], length, vec_len, Err, ap, sym, ◌∙◌, arith, rules}
use Rattle.std.specs.Io.KnownBytes.{IsAtEnd}
use Rattle.std.proofs.lemmas.List.{nil_from_length}
use Rattle.std.proofs.lemmas.Result.{err_from_is_err_and}
use Rattle.byteorder.specs.Endian.{big_number}
use Rattle.wire.specs.FrameLength.{frame_length}
use Rattle.wire.specs.Reading.{read_reply, refusal}
use Rattle.wire.proofs.FrameLengths.{at_least_four}
use Rattle.wire.proofs.callers.Known.{none_before}
use Rattle.wire.proofs.NextFrames.{each_byte}
use Rattle.wire.proofs.NextReplies.{takes_reply, is_reply_fault}
use Rattle.wire.proofs.reply_frames.read_reply.Goals as goal

pub returns-then-is_empty-clause-end : goal.returns-then-is_empty-clause-end
returns-then-is_empty-clause-end g c =
    let held = c.fill_frame.new.buffer.items in
    let len : length held ≡ 0 = search rules in
    let four = at_least_four held in
    let at_end : IsAtEnd (g.R.Source.remaining c.fill_frame.new.reader) =
    c.in_ok-fill_frame.ensures.end (omega arith) in (
      none_before (g.R.Source.remaining c.args.reader.now)
          (g.R.Source.remaining c.fill_frame.new.reader) held c.in_ok-fill_frame.ensures.taken
          (nil_from_length held len) at_end,
      at_end,
    )

pub returns-in_err-reply-clause-fault : goal.returns-in_err-reply-clause-fault
returns-in_err-reply-clause-fault g c =
    let p = err_from_is_err_and c.from_residual-in_err-reply.result c.from_residual-in_err-reply.ensures.1 in
    let held = c.fill_frame.new.buffer.items in
    let len : length held ≡ vec_len c.fill_frame.new.buffer = search rules in
    let filled : 0 < vec_len c.fill_frame.new.buffer = search rules in
    let some : held ≢ [] = λ e. omega (arith, ap length e) in
    rw (p.1, p.2) (λ not_memory not_read.
    let read : read_reply held ≡ Err c.in_err-reply.field-0.0 =
    ap read_reply (sym c.deref.ensures.value) ∙ c.in_err-reply.ensures.reads.2 not_memory in
    is_reply_fault c.in_err-reply.field-0.0 (g.R.Source.remaining c.args.reader.now)
    (g.R.Source.remaining c.fill_frame.new.reader) held c.in_ok-fill_frame.ensures.taken some
    (λ lt. c.in_ok-fill_frame.ensures.end (omega arith)) (ap refusal read))

pub returns-clause-reply : goal.returns-clause-reply
returns-clause-reply g c =
    let r = c.in_ok-reply in
    let held = c.fill_frame.new.buffer.items in
    let len : length held ≡ vec_len c.fill_frame.new.buffer = search rules in
    let within : length held ≤ frame_length held = omega (arith, len, c.in_ok-fill_frame.ensures.within) in
    takes_reply (g.R.Source.remaining c.args.reader.now) (g.R.Source.remaining c.fill_frame.new.reader) held r.reply
    r.field-0-1 (each_byte held c.in_ok-fill_frame.ensures.bytes) c.in_ok-fill_frame.ensures.taken within
    (ap read_reply (sym c.deref.ensures.value) ∙ r.ensures.reads)
    (r.ensures.used ∙ ap (λ (bytes : List ℕ). 4 + big_number 4 bytes) c.deref.ensures.value)
