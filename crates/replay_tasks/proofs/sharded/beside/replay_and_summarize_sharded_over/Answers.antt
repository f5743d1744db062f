use Rattle.std.proofs.Common.{◌≡◌, ◌≢◌, List, map, refl, ap, sym, subst, inl, inr, ◌∙◌, Vec, Global}
use Rattle.std.specs.Prelude.{None, Option, Some, vec_items}
use Rattle.limits.specs.declared.stop.Stop.{Stop}
use Rattle.replay_output.specs.declared.failures.Ending.{Ending}
use Rattle.replay_output.specs.declared.failures.Ending.TheVariants.{Complete, Stopped}
use Rattle.replay_output.specs.declared.line.Line.{Line}
use Rattle.replay_output.specs.declared.status.Status.TheVariants.{Done}
use Rattle.replay_output.specs.Line.{AreLines}
use Rattle.replay_output.specs.Lines.{lines as lines_of}
use Rattle.replay_output.specs.Failures.{NothingFailed}
use Rattle.replay_tasks.specs.Met.{ReportsStop}
use Rattle.replay_tasks.specs.Replayed.{written, Took, ending_of}
use Rattle.replay_tasks.specs.Sharded.{NamesShard}
use Rattle.replay_tasks.specs.Summarized.{BothFailed, run_summary}
use Rattle.replay_tasks.proofs.callers.Meeting.{is_failed, not_failed, reports_as}
use Rattle.replay_tasks.proofs.ShardedRuns.{all_answers, has_met_by_shards, is_replayed_by_shards, met_nothing_by_shards, quiet_still, stop_met}
use Rattle.replay_tasks.proofs.sharded.beside.replay_and_summarize_sharded_over.Goals as goal

pub returns-in-Err : goal.returns-in-Err
returns-in-Err g c = record {
  done = λ files read is. cc (c.fail_to_start.ensures.status, c.unstarted.ensures.status, is);
  quiet = λ is. cc (c.fail_to_start.ensures.status, c.unstarted.ensures.status, is);
  failed = λ files read is. inl (
    record {
      cause = c.in-Err.cause;
      nothing_printed = refl;
      reported = c.fail_to_start.ensures.line;
    },
    refl,
  );
  met = λ files read.
      met_nothing_by_shards c.args.sharded.points c.args.options files c.unstarted.result.met
      (written (g.E.Sink.given c.args.error.now) (g.E.Sink.given c.fail_to_start.new.error) (g.E.Sink.failures c.args.error.now)
      (g.E.Sink.failures c.fail_to_start.new.error)) c.unstarted.ensures.stop;
  output_failed = not_failed c.unstarted.result.met.output_failed c.unstarted.ensures.output_failed;
  ends = λ is. cc (c.fail_to_start.ensures.status, c.unstarted.ensures.status, is);
  same = λ is. cc (c.fail_to_start.ensures.status, c.unstarted.ensures.status, is);
}

pub returns : goal.returns
returns g c =
    let combined = c.in-Ok.combined in
    let options = c.args.options in
    let points = c.args.sharded.points in
    let form = c.args.summary.now.form in
    let received = map (vec_items {X = Line} {Z = Global}) c.deref_mut.result.now in
    let failures = c.deref_mut-2.result.now in
    let lines_are : received ≡ map (vec_items {X = Line} {Z = Global}) combined.lines.items =
    ap (λ (l : List (Vec Line Global)). map (vec_items {X = Line} {Z = Global}) l) c.deref_mut.ensures.value in
    let failures_are : failures ≡ combined.failures.items = c.deref_mut-2.ensures.value in
    let stop = stop_met combined in
    let ending = c.ending_of-ending.ensures.ending in
    let report = c.print_with_summary-report.ensures in
    let out = written (g.O.Sink.given c.args.out.now) (g.O.Sink.given c.print_with_summary-report.new.out)
    (g.O.Sink.failures c.args.out.now) (g.O.Sink.failures c.print_with_summary-report.new.out) in
    let beside = written (g.T.Sink.given c.args.summary.now.writer) (g.T.Sink.given c.print_with_summary-report.new.summary.writer)
    (g.T.Sink.failures c.args.summary.now.writer) (g.T.Sink.failures c.print_with_summary-report.new.summary.writer) in
    let so_far = written (g.E.Sink.given c.args.error.now) (g.E.Sink.given c.print_with_summary-report.new.error)
    (g.E.Sink.failures c.args.error.now) (g.E.Sink.failures c.print_with_summary-report.new.error) in
    let error = written (g.E.Sink.given c.args.error.now) (g.E.Sink.given c.print_stopped.new.error)
    (g.E.Sink.failures c.args.error.now) (g.E.Sink.failures c.print_stopped.new.error) in
    let named : NamesShard combined.stop so_far error = record {
      before = refl;
      failures_before = refl;
      line = c.print_stopped.ensures.line;
    } in
    let status = c.print_stopped.ensures.status in
    let are : AreLines options.style received =
    subst (λ (l : List (List Line)). AreLines options.style l) (sym lines_are) c.in-Ok.ensures.lines in
    let printed = c.print_with_summary-report.result.status in
    let reports : (s : Stop) → stop ≡ Some s → ReportsStop s so_far =
    λ s is.
    let by : c.ending_of-ending.result ≡ Stopped s = ending ∙ ap (λ (o : Option Stop). ending_of combined.complete o) is in
    let not_done : printed ≢ Done = λ done. let bad : Complete ≡ Stopped s = sym (report.nothing_failed done).complete ∙ by in cc in
    let both = report.failed options.style are (is_failed printed report.ends report.same not_done) in
    reports_as so_far both.reported c.ending_of-ending.result s by both.lines_of_failures in
    record {
      done = λ files read is.
          let done = sym status ∙ is in
          is_replayed_by_shards points options files combined (c.in-Ok.ensures.together files read) received failures lines_are failures_are
          (λ together. Took out (lines_of options.style together) × Took beside (run_summary form None together))
          (c.in-Ok.ensures.resolved files read)
          (subst (λ (e : Ending). NothingFailed failures e) ending (report.nothing_failed done))
          (report.done options.style are done);
      quiet = λ is.
          let done = sym status ∙ is in
          let all =
          all_answers combined failures failures_are
          (subst (λ (e : Ending). NothingFailed failures e) ending (report.nothing_failed done)) in
          quiet_still g.E.Sink.given c.args.error.now c.print_with_summary-report.new.error c.print_stopped.new.error (report.quiet done)
          (c.print_stopped.ensures.none all.no_stop).0;
      failed = λ files read is.
          inr (record {
            combined = combined;
            runs = c.in-Ok.ensures.together files read;
            so_far = so_far;
            failed = record {
              received = received;
              failures = failures;
              complete = combined.complete;
              stop = stop;
              run = (lines_are, failures_are, refl, refl);
              failed = subst (λ (e : Ending). BothFailed form None options.style received failures e out beside so_far) ending
                  (report.failed options.style are (sym status ∙ is));
            };
            named = named;
          });
      met = λ files read.
          has_met_by_shards points options files combined (c.in-Ok.ensures.together files read) c.met_of.result so_far error
          c.met_of.ensures.stop c.met_of.ensures.version reports named;
      output_failed = λ is. report.output_failed (sym c.met_of.ensures.output_failed ∙ is);
      ends = λ is. report.ends (sym status ∙ is);
      same = λ is. report.same (sym status ∙ is);
    }
