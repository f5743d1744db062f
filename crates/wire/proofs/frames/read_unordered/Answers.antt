use Rattle.std.proofs.Common.{◌≡◌, ◌≢◌, ℕ, ◌<◌, ◌≤◌, List, [], length, vec_len, Ok, Err, ap, sym, subst, ◌∙◌, arith, rules}
use Rattle.std.specs.Io.KnownBytes.{IsAtEnd}
use Rattle.std.proofs.lemmas.List.{nil_from_length}
use Rattle.std.proofs.lemmas.Result.{err_from_is_err_and}
use Rattle.wire.specs.Fields.{BatchFields, batch_fields}
use Rattle.wire.specs.Spelling.{BatchHolds}
use Rattle.wire.specs.Lying.{AreApart, batch_of_tables}
use Rattle.wire.specs.FrameLength.{frame_length}
use Rattle.wire.specs.Reading.{read_batch, refusal}
use Rattle.wire.proofs.FrameLengths.{at_least_four}
use Rattle.wire.proofs.callers.Known.{none_before}
use Rattle.wire.proofs.NextFrames.{takes_frame, entire_frame, is_fault, each_byte}
use Rattle.wire.proofs.frames.read_unordered.Goals as goal

pub returns-then-is_empty-clause-end : goal.returns-then-is_empty-clause-end
returns-then-is_empty-clause-end g c =
    let held = c.fill_frame.new.buffer.items in
    let len : length held ≡ 0 = search rules in
    let four = at_least_four held in
    let at_end : IsAtEnd (g.R.Source.remaining c.fill_frame.new.reader) =
    c.in_ok-fill_frame.ensures.end (omega arith) in (
      none_before (g.R.Source.remaining c.args.reader.now)
          (g.R.Source.remaining c.fill_frame.new.reader) held c.in_ok-fill_frame.ensures.taken
          (nil_from_length held len) at_end,
      at_end,
    )

pub returns-in_err-tables-clause-fault : goal.returns-in_err-tables-clause-fault
returns-in_err-tables-clause-fault g c =
    let p = err_from_is_err_and c.from_residual-in_err-tables.result c.from_residual-in_err-tables.ensures.1 in
    let held = c.fill_frame.new.buffer.items in
    let len : length held ≡ vec_len c.fill_frame.new.buffer = search rules in
    let filled : 0 < vec_len c.fill_frame.new.buffer = search rules in
    let some : held ≢ [] = λ e. omega (arith, ap length e) in
    rw (p.1, p.2) (λ not_memory not_read.
    let read : read_batch held ≡ Err c.in_err-tables.field-0.0 =
    ap read_batch (sym c.deref.ensures.value) ∙ c.in_err-tables.ensures.reads.2 not_memory in
    is_fault c.in_err-tables.field-0.0 (g.R.Source.remaining c.args.reader.now)
    (g.R.Source.remaining c.fill_frame.new.reader) held c.in_ok-fill_frame.ensures.taken some
    (λ lt. c.in_ok-fill_frame.ensures.end (omega arith)) (ap refusal read))

pub unordered_of-requires-clause-apart : goal.unordered_of-requires-clause-apart
unordered_of-requires-clause-apart g c =
    let t = c.in_ok-tables in
    let held = c.fill_frame.new.buffer.items in
    let len : vec_len c.fill_frame.new.buffer ≡ length held = search rules in
    let entire : t.field-0-2.now ≡ held = entire_frame held c.deref.result.now t.field-0-2.now c.deref.ensures.value
    t.ensures.frame t.ensures.length (omega (arith, len, c.in_ok-fill_frame.ensures.within)) in
    subst (λ (n : ℕ). AreApart 0 t.tables.spans.items n) (ap length entire ∙ sym len) t.ensures.apart

pub unordered_of-requires-clause-holds : goal.unordered_of-requires-clause-holds
unordered_of-requires-clause-holds g c =
    let t = c.in_ok-tables in
    let held = c.fill_frame.new.buffer.items in
    let len : vec_len c.fill_frame.new.buffer ≡ length held = search rules in
    let entire : t.field-0-2.now ≡ held = entire_frame held c.deref.result.now t.field-0-2.now c.deref.ensures.value
    t.ensures.frame t.ensures.length (omega (arith, len, c.in_ok-fill_frame.ensures.within)) in
    subst (λ (frame : List ℕ). BatchHolds (batch_of_tables frame t.tables)) entire t.ensures.holds

pub returns-clause-batch : goal.returns-clause-batch
returns-clause-batch g c =
    let t = c.in_ok-tables in
    let held = c.fill_frame.new.buffer.items in
    let batch = c.in_ok-batch.batch in
    let len : length held ≡ vec_len c.fill_frame.new.buffer = search rules in
    let within : length held ≤ frame_length held = omega (arith, len, c.in_ok-fill_frame.ensures.within) in
    let entire : t.field-0-2.now ≡ held = entire_frame held c.deref.result.now t.field-0-2.now c.deref.ensures.value
    t.ensures.frame t.ensures.length within in
    let fields : batch_of_tables t.field-0-2.now t.tables ≡ batch_fields batch =
    ap (λ (frame : List ℕ). batch_of_tables frame t.tables) entire ∙ sym c.in_ok-batch.ensures.fields in
    let read : read_batch held ≡ Ok (t.field-0-0, batch_fields batch) =
    subst (λ (f : BatchFields). read_batch held ≡ Ok (t.field-0-0, f)) fields
    (ap read_batch (sym c.deref.ensures.value) ∙ t.ensures.reads) in
    takes_frame (g.R.Source.remaining c.args.reader.now) (g.R.Source.remaining c.fill_frame.new.reader) held t.field-0-0
    batch (each_byte held c.in_ok-fill_frame.ensures.bytes) c.in_ok-fill_frame.ensures.taken within read
