use Rattle.std.proofs.Common.{rules, ◌∙◌, subst, arith}
use Rattle.std.specs.Io.KnownBytes.{Appends}
use Rattle.wire.proofs.callers.Given.{appends_then}
use Rattle.replay_output.proofs.Known.{Begins}
use Rattle.replay_output.proofs.Packing.{begins_run, run_printed}
use Rattle.replay_output.proofs.Results.{on_err}
use Rattle.replay_output.proofs.line.packed.unit_text.print_units.Goals as goal

pub returns-in_err-write_all-clause-prefix : goal.returns-in_err-write_all-clause-prefix
returns-in_err-write_all-clause-prefix g c =
    let given = g.W.Sink.given in
    on_err c.from_residual.result (begins_run c.args.units.now c.loop-printed.printed c.min-end.result (omega arith)
    (given c.args.out.now) (given c.loop-printed.out) (given c.write_all.new.writer) c.loop-printed.invariant.entire
    (subst (Begins (given c.loop-printed.out) (given c.write_all.new.writer)) (c.as_slice.ensures.value ∙ c.spell.ensures.text)
    c.in_err-write_all.ensures.prefix))

pub loop-printed-preserved : goal.loop-printed-preserved
loop-printed-preserved g c =
    let given = g.W.Sink.given in
    let units = c.args.units.now in
    record {
      inside = search rules;
      entire = subst (Appends (given c.args.out.now) (given c.write_all.new.writer))
          (run_printed units c.loop-printed.printed c.min-end.result (omega arith))
          (appends_then _ _ _ _ _ c.loop-printed.invariant.entire
          (subst (Appends (given c.loop-printed.out) (given c.write_all.new.writer))
          (c.as_slice.ensures.value ∙ c.spell.ensures.text) c.in_ok-write_all.ensures.entire));
      ok = c.in_ok-write_all.ensures.ok ∙ c.loop-printed.invariant.ok;
    }
