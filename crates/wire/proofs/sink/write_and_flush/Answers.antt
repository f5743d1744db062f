use Rattle.std.proofs.Common.{length, sym, subst}
use Rattle.std.proofs.Math.Seq.{take-length}
use Rattle.std.specs.Io.KnownBytes.{Appends}
use Rattle.wire.proofs.callers.Given.{prefix, on_err_weaker}
use Rattle.wire.proofs.sink.write_and_flush.Goals as goal

pub returns-clause-prefix : goal.returns-clause-prefix
returns-clause-prefix g c =
    let given = g.W.Sink.given in
    let bytes = c.args.bytes.now in
    on_err_weaker c.flush.result
    (prefix (given c.args.writer.now) (given c.write_all.new.writer) (given c.flush.new.self) bytes (length bytes)
    (subst (Appends (given c.args.writer.now) (given c.write_all.new.writer)) (sym (take-length bytes)) c.in_ok-write_all.ensures.entire))
    c.flush.ensures.kept
