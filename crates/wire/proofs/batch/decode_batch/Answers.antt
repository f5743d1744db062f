use Rattle.std.proofs.Common.{◌≡◌, ℕ, ◌+◌, List, ◌++◌, length, vec_len, Ok, sym, ap, subst, ◌∙◌, arith, rules}
use Rattle.std.proofs.lemmas.List.{length-take}
use Rattle.byteorder.specs.Endian.{big_number}
use Rattle.wire.specs.Fields.{BatchFields, batch_fields}
use Rattle.wire.specs.Spelling.{BatchHolds}
use Rattle.wire.specs.Lying.{AreApart, batch_of_tables}
use Rattle.wire.specs.Reading.{read_batch}
use Rattle.wire.proofs.BatchFrames.{batch_is_spelled}
use Rattle.wire.proofs.batch.decode_batch.Goals as goal

pub batch_of-requires-clause-apart : goal.batch_of-requires-clause-apart
batch_of-requires-clause-apart c =
    let t = c.in_ok-tables in
    let copy = c.extend_from_slice.new.self in
    let same : copy.items ≡ t.frame.now =
    c.in_ok-extend_from_slice.ensures.items ∙ ap (λ (x : List ℕ). x ++ t.frame.now) c.in_ok-copy.ensures.items in
    let len : vec_len copy ≡ length copy.items = search rules in
    subst (λ (n : ℕ). AreApart 0 t.tables.spans.items n) (sym (len ∙ ap length same)) t.ensures.apart

pub batch_of-requires-clause-holds : goal.batch_of-requires-clause-holds
batch_of-requires-clause-holds c =
    let t = c.in_ok-tables in
    let same : c.extend_from_slice.new.self.items ≡ t.frame.now =
    c.in_ok-extend_from_slice.ensures.items ∙ ap (λ (x : List ℕ). x ++ t.frame.now) c.in_ok-copy.ensures.items in
    subst (λ (frame : List ℕ). BatchHolds (batch_of_tables frame t.tables)) (sym same) t.ensures.holds

pub returns-clause-within : goal.returns-clause-within
returns-clause-within c =
    let t = c.in_ok-tables in
    omega (arith, ap length t.ensures.frame, length-take (4 + big_number 4 c.args.bytes.now) c.args.bytes.now)

pub returns-clause-spelled : goal.returns-clause-spelled
returns-clause-spelled c =
    let t = c.in_ok-tables in
    let batch = c.in_ok-batch.batch in
    let bytes = c.args.bytes.now in
    let same : c.extend_from_slice.new.self.items ≡ t.frame.now =
    c.in_ok-extend_from_slice.ensures.items ∙ ap (λ (x : List ℕ). x ++ t.frame.now) c.in_ok-copy.ensures.items in
    let fields : batch_fields batch ≡ batch_of_tables t.frame.now t.tables =
    c.in_ok-batch.ensures.fields ∙ ap (λ (frame : List ℕ). batch_of_tables frame t.tables) same in
    (batch_is_spelled bytes t.field-0-0 batch (length t.frame.now) (λ i. omega (arith, c.type_inv.bytes i))
    (subst (λ (f : BatchFields). read_batch bytes ≡ Ok (t.field-0-0, f)) (sym fields) t.ensures.reads)
    t.ensures.length).0
