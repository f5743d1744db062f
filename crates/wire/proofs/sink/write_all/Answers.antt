use Rattle.std.proofs.Common.{◌≡◌, ◌≤◌, ◌+◌, ◌-◌, ℕ, List, length, take, drop, subst, ◌∙◌, arith}
use Rattle.std.specs.Io.KnownBytes.{Appends}
use Rattle.std.proofs.lemmas.List.{length-drop, take_all}
use Rattle.wire.proofs.callers.Given.{written_more}
use Rattle.wire.proofs.sink.write_all.Goals as goal

pub loop-written-preserved : goal.loop-written-preserved
loop-written-preserved g c =
    let written = c.loop-written.written in
    let count = c.in_ok-written.field-0 in
    let bytes = c.args.bytes.now in
    let within : written + count ≤ length bytes =
    omega (arith, c.in_ok-written.ensures.bound, length-drop written bytes, c.loop-written.invariant.0) in
    let given = g.W.Sink.given in
    let asked : take (length bytes - written) (drop written bytes) ≡ drop written bytes =
    take_all (length bytes - written) (drop written bytes) (omega (arith, length-drop written bytes)) in
    let taken = subst (λ (rest : List ℕ). Appends (given c.loop-written.writer) (given c.write.new.self)
    (take count rest))
    asked c.in_ok-written.ensures.bytes in
    let grown = written_more (given c.args.writer.now) (given c.loop-written.writer) (given c.write.new.self)
    bytes written count c.loop-written.invariant.1 taken in
    (within, grown, c.in_ok-written.ensures.ok ∙ c.loop-written.invariant.2)
