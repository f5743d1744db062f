use Rattle.std.proofs.Common.{◌≡◌, Bool, ◌&&◌, List, map, refl, ap, sym, subst, inl, inr, ◌∙◌, Vec, Global}
use Rattle.std.specs.Prelude.{◌≢◌, Option, Some, vec_items}
use Rattle.replay_output.specs.declared.failures.Ending.{Ending}
use Rattle.replay_output.specs.declared.failures.ProxyFailure.{ProxyFailure}
use Rattle.replay_output.specs.declared.line.Line.{Line}
use Rattle.replay_output.specs.Lines.{lines as lines_of}
use Rattle.replay_output.specs.Failures.{NothingFailed}
use Rattle.replay_summary.specs.declared.occupancy.Occupancy.{Occupancy}
use Rattle.replay_workers.specs.Occupied.{IsOccupancyOver}
use Rattle.replay_workers.specs.Run.{IsMeasuredRun, is_complete}
use Rattle.limits.specs.declared.stop.Stop.{Stop}
use Rattle.replay_output.specs.declared.failures.Ending.TheVariants.{Complete, Stopped}
use Rattle.replay_output.specs.declared.status.Status.TheVariants.{Done}
use Rattle.replay_tasks.specs.Met.{ReportsStop}
use Rattle.replay_tasks.specs.Replayed.{written, Took, ending_of}
use Rattle.replay_tasks.specs.Summarized.{BothFailed, run_summary}
use Rattle.replay_tasks.proofs.callers.Meeting.{has_met, is_failed, met_nothing, not_failed, reports_as}
use Rattle.replay_tasks.proofs.Measuring.{measured_for_any, occupied_over}
use Rattle.replay_tasks.proofs.callers.Replaying.{complete_from, ending_is, are_lines, is_replayed_over}
use Rattle.replay_tasks.proofs.replay.beside.replay_and_summarize_over.Goals.{then-account, else-account}
use Rattle.replay_tasks.proofs.replay.beside.replay_and_summarize_over.Goals as goal

pub returns-in-Err : goal.returns-in-Err
returns-in-Err g c = record {
  done = λ is. cc (c.fail_to_start.ensures.status, c.unstarted.ensures.status, is);
  quiet = λ is. cc (c.fail_to_start.ensures.status, c.unstarted.ensures.status, is);
  failed = λ is. inl (
    record {
      cause = c.in-Err.cause;
      nothing_printed = refl;
      reported = c.fail_to_start.ensures.line;
    },
    refl,
  );
  met = met_nothing c.args.options (map g.S.Source.remaining c.args.readers.items) c.unstarted.result.met
      (written (g.E.Sink.given c.args.error.now) (g.E.Sink.given c.fail_to_start.new.error) (g.E.Sink.failures c.args.error.now)
      (g.E.Sink.failures c.fail_to_start.new.error)) c.unstarted.ensures.stop;
  output_failed = not_failed c.unstarted.result.met.output_failed c.unstarted.ensures.output_failed;
  ends = λ is. cc (c.fail_to_start.ensures.status, c.unstarted.ensures.status, is);
  same = λ is. cc (c.fail_to_start.ensures.status, c.unstarted.ensures.status, is);
}

pub returns : goal.returns
returns g c =
    let outcome = c.in-Ok.ended.0 in
    let account = c.in-Ok.ended.1 in
    let options = c.args.options in
    let form = c.args.summary.now.form in
    let files = map g.S.Source.remaining c.args.readers.items in
    let received = map (vec_items {X = Line} {Z = Global}) c.deref_mut.result.now in
    let failures = c.deref_mut-2.result.now in
    let complete = c.if-account.new in
    let entire : c.if-account.new ≡ is_complete outcome account =
    elim c.if-account.branch [
      | then-account w ↦ w.new-is ∙ sym (ap (λ (b : Bool). b && outcome.all_sent) w.if-account.true)
      | else-account w ↦
          w.new-is ∙ w.if-account.false ∙ sym (ap (λ (b : Bool). b && outcome.all_sent) w.if-account.false)
    ] in
    let occupancy = outcome.occupancy in
    let of_any = measured_for_any options files (map (vec_items {X = Line} {Z = Global}) outcome.lines.items) outcome.failures.items
    (is_complete outcome account) occupancy account.stop (c.in-Ok.ensures.measured (tt, c.new-reached.ensures.none)) in
    let of_lines = subst
    (λ (l : List (Vec Line Global)). IsMeasuredRun (λ _. Unit {0}) occupancy options files (map (vec_items {X = Line} {Z = Global}) l) outcome.failures.items (is_complete outcome account) account.stop)
    (sym c.deref_mut.ensures.value) of_any in
    let of_both = subst
    (λ (f : List ProxyFailure). IsMeasuredRun (λ _. Unit {0}) occupancy options files received f (is_complete outcome account) account.stop)
    (sym c.deref_mut-2.ensures.value) of_lines in
    let measured = subst (λ (b : Bool). IsMeasuredRun (λ _. Unit {0}) occupancy options files received failures b account.stop) (sym entire) of_both in
    let run = measured.observed.run in
    let over = λ (nothing : NothingFailed failures (ending_of complete account.stop)).
    occupied_over options files received failures complete occupancy account.stop (λ _. Unit {0}) measured
    (run.no_stop (complete_from complete account.stop nothing.complete)) in
    let ending = ending_is complete account.stop c.new-ending.result c.new-ending.ensures.ending in
    let report = c.print_with_summary-report.ensures in
    let out = written (g.O.Sink.given c.args.out.now) (g.O.Sink.given c.print_with_summary-report.new.out)
    (g.O.Sink.failures c.args.out.now) (g.O.Sink.failures c.print_with_summary-report.new.out) in
    let beside = written (g.T.Sink.given c.args.summary.now.writer) (g.T.Sink.given c.print_with_summary-report.new.summary.writer)
    (g.T.Sink.failures c.args.summary.now.writer) (g.T.Sink.failures c.print_with_summary-report.new.summary.writer) in
    let error = written (g.E.Sink.given c.args.error.now) (g.E.Sink.given c.print_with_summary-report.new.error)
    (g.E.Sink.failures c.args.error.now) (g.E.Sink.failures c.print_with_summary-report.new.error) in
    let are = are_lines options files received failures complete account.stop run in
    let status = c.print_with_summary-report.result.status in
    let stopped : (s : Stop) → account.stop ≡ Some s → ReportsStop s error =
    λ s is.
    let by : c.new-ending.result ≡ Stopped s = ending ∙ ap (λ (o : Option Stop). ending_of complete o) is in
    let not_done : status ≢ Done = λ done. let bad : Complete ≡ Stopped s = sym (report.nothing_failed done).complete ∙ by in cc in
    let both = report.failed options.style are (is_failed status report.ends report.same not_done) in
    reports_as error both.reported c.new-ending.result s by both.lines_of_failures in
    record {
      done = λ is.
          let texts = report.done options.style are is in
          let nothing = subst (λ (e : Ending). NothingFailed failures e) ending (report.nothing_failed is) in
          is_replayed_over options files received failures complete account.stop run
          (λ log answers. Took out (lines_of options.style answers)
          × ((o : Occupancy) × IsOccupancyOver options.limit options.window log o × Took beside (run_summary form (Some o) answers)))
          c.answers_report_verdicts.ensures.known_verdicts nothing (texts.0, (occupancy, over nothing, texts.1));
      quiet = report.quiet;
      failed = λ is.
          inr (record {
            received = received;
            failures = failures;
            complete = complete;
            stop = account.stop;
            occupancy = occupancy;
            run = measured;
            failed = subst (λ (e : Ending). BothFailed form (Some occupancy) options.style received failures e out beside error) ending
                (report.failed options.style are is);
          });
      met = has_met options files (map (vec_items {X = Line} {Z = Global}) outcome.lines.items) outcome.failures.items
          (is_complete outcome account) (λ _. Unit {0}) c.run_observed-run.new.observer.version account.stop c.print_with_summary-report.result.output_failed
          error (c.in-Ok.ensures.observed (tt, c.new-reached.ensures.none)) stopped;
      output_failed = report.output_failed;
      ends = report.ends;
      same = report.same;
    }
