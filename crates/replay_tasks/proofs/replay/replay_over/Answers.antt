use Rattle.std.proofs.Common.{◌≡◌, [], Bool, ◌&&◌, List, map, refl, ap, sym, subst, inl, inr, ◌∙◌, arith, Vec, Global}
use Rattle.std.specs.Prelude.{OnOk, vec_items}
use Rattle.std.proofs.lemmas.List.{length-map}
use Rattle.replay_output.specs.declared.failures.Ending.{Ending}
use Rattle.replay_output.specs.declared.failures.ProxyFailure.{ProxyFailure}
use Rattle.replay_output.specs.declared.line.Line.{Line}
use Rattle.replay_output.specs.Line.{TakesToSort}
use Rattle.replay_output.specs.Lines.{line, lines as lines_of}
use Rattle.replay_output.proofs.callers.Texts.{are_lines_by}
use Rattle.replay_output.specs.Failures.{failure_lines, NothingFailed}
use Rattle.replay_workers.specs.Run.{IsRun, is_complete}
use Rattle.replay_tasks.specs.Replayed.{written, Took}
use Rattle.replay_tasks.proofs.callers.Meeting.{has_met, met_as, met_nothing, not_failed, stop_reported}
use Rattle.replay_tasks.proofs.callers.Replaying.{ending_is, held_ok, are_lines, is_replayed, ran_and_failed}
use Rattle.replay_tasks.proofs.replay.replay_over.Goals.{then-account, else-account}
use Rattle.replay_tasks.proofs.replay.replay_over.Goals as goal

pub returns-in-Err : goal.returns-in-Err
returns-in-Err g c = record {
  done = λ is. cc (c.fail_to_start.ensures.status, c.unstarted.ensures.status, is);
  quiet = λ is. cc (c.fail_to_start.ensures.status, c.unstarted.ensures.status, is);
  failed = λ is. inl (record {
    cause = c.in-Err.cause;
    nothing_printed = refl;
    reported = c.fail_to_start.ensures.line;
  });
  met = met_nothing c.args.options (map g.S.Source.remaining c.args.readers.items) c.unstarted.result.met
      (written (g.E.Sink.given c.args.error.now) (g.E.Sink.given c.fail_to_start.new.error) (g.E.Sink.failures c.args.error.now)
      (g.E.Sink.failures c.fail_to_start.new.error)) c.unstarted.ensures.stop;
  output_failed = not_failed c.unstarted.result.met.output_failed c.unstarted.ensures.output_failed;
  ends = λ is. cc (c.fail_to_start.ensures.status, c.unstarted.ensures.status, is);
  same = λ is. cc (c.fail_to_start.ensures.status, c.unstarted.ensures.status, is);
}

pub returns : goal.returns
returns g c =
    let outcome = c.in-Ok.ended.0 in
    let account = c.in-Ok.ended.1 in
    let options = c.args.options in
    let files = map g.S.Source.remaining c.args.readers.items in
    let received = map (vec_items {X = Line} {Z = Global}) c.deref_mut.result.now in
    let failures = c.deref_mut-2.result.now in
    let complete = c.if-account.new in
    let entire : c.if-account.new ≡ is_complete outcome account =
    elim c.if-account.branch [
      | then-account w ↦ w.new-is ∙ sym (ap (λ (b : Bool). b && outcome.all_sent) w.if-account.true)
      | else-account w ↦
          w.new-is ∙ w.if-account.false ∙ sym (ap (λ (b : Bool). b && outcome.all_sent) w.if-account.false)
    ] in
    let of_lines = subst
    (λ (l : List (Vec Line Global)). IsRun options files (map (vec_items {X = Line} {Z = Global}) l) outcome.failures.items (is_complete outcome account) account.stop)
    (sym c.deref_mut.ensures.value) c.in-Ok.ensures.run in
    let of_both = subst (λ (f : List ProxyFailure). IsRun options files received f (is_complete outcome account) account.stop)
    (sym c.deref_mut-2.ensures.value) of_lines in
    let run = subst (λ (b : Bool). IsRun options files received failures b account.stop) (sym entire) of_both in
    let ending = ending_is complete account.stop c.new-ending.result c.new-ending.ensures.ending in
    let report = c.print_report-report.ensures in
    let status = sym c.after.ensures.status in
    let reported = c.print_report-report.new.failures in
    let out = written (g.O.Sink.given c.args.out.now) (g.O.Sink.given c.print_report-report.new.out)
    (g.O.Sink.failures c.args.out.now) (g.O.Sink.failures c.print_report-report.new.out) in
    let error = written (g.E.Sink.given c.args.error.now) (g.E.Sink.given c.print_report-report.new.error)
    (g.E.Sink.failures c.args.error.now) (g.E.Sink.failures c.print_report-report.new.error) in
    let are = are_lines options files received failures complete account.stop run in
    let by = are_lines_by options.style received are in
    let lines = report.lines (line options.style) by in
    record {
      done = λ is.
          let parts = report.done.0 (status ∙ is) in
          is_replayed options files received failures complete account.stop run (λ answers. Took out (lines_of options.style answers))
          c.answers_report_verdicts.ensures.known_verdicts
          (subst (λ (e : Ending). NothingFailed failures e) ending parts.2)
          (held_ok c.print_report-report.result.printed _ lines parts.0);
      quiet = λ is. report.quiet (status ∙ is);
      failed = λ is.
          inr (ran_and_failed options files received failures complete account.stop run (lines_of options.style) TakesToSort out error reported
          c.print_report-report.result.printed c.print_report-report.result.reported lines
          (λ proxy memory. omega (
            arith,
            report.memory proxy memory,
            length-map c.deref_mut.result.now (vec_items {X = Line} {Z = Global}),
          ))
          report.takes
          report.nothing (report.prefix (line options.style) by) report.write.0
          (subst (λ (e : Ending). OnOk c.print_report-report.result.reported (Took error (failure_lines reported e))) ending report.failure_lines)
          report.reported.0 report.loss report.no_loss
          (λ all.
          let done =
          report.done.1 (all.0, all.1, subst (λ (e : Ending). NothingFailed failures e) (sym ending) all.2) in
          cc (done, status ∙ is)));
      met = met_as options files c.after.result.met account.stop c.run_observed-run.new.observer.version error c.after.ensures.stop
          c.after.ensures.version
          (has_met options files (map (vec_items {X = Line} {Z = Global}) outcome.lines.items) outcome.failures.items
          (is_complete outcome account) (λ _. Unit {0}) c.run_observed-run.new.observer.version account.stop c.after.result.met.output_failed error
          (c.in-Ok.ensures.observed (tt, c.new-reached.ensures.none))
          (stop_reported [] c.print_report-report.result.reported error reported complete account.stop
          (subst (λ (e : Ending). OnOk c.print_report-report.result.reported (Took error (failure_lines reported e))) ending report.failure_lines)
          report.reported.0));
      output_failed = λ is. report.write.0 (c.after.ensures.output_failed is);
      ends = λ is. report.ends (status ∙ is);
      same = λ is. report.same (status ∙ is);
    }
