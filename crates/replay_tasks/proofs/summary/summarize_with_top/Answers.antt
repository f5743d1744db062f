use Rattle.std.proofs.Common.{◌≡◌, [], Bool, List, map, Some, None, refl, ap, sym, subst, inr, inl, ◌∙◌, arith, rules, w64, to_z, of_z, Vec, Global}
use Rattle.std.specs.Prelude.{ℕ, Option, Result, Err, IfSome, IsOk, length, OnOk, vec_items}
use Rattle.std.proofs.lemmas.Bool.{false≢true}
use Rattle.std.proofs.lemmas.Int.{ints, to_z-of_z}
use Rattle.std.proofs.lemmas.List.{length-map}
use Rattle.keyspace.specs.Processed.{Processed}
use Rattle.keyspace.specs.Run.{run as run_of}
use Rattle.replay_hot_ranges.specs.declared.hot_range.Top.{Top}
use Rattle.replay_hot_ranges.specs.declared.hot_ranges.HotRanges.{HotRanges}
use Rattle.replay_hot_ranges.specs.HotRanges.{HasSeen}
use Rattle.replay_hot_ranges.specs.Top.{IsTopOf}
use Rattle.replay_output.specs.declared.failures.Ending.{Ending}
use Rattle.replay_output.specs.declared.failures.ProxyFailure.{ProxyFailure}
use Rattle.replay_output.specs.declared.line.Line.{Line}
use Rattle.replay_output.specs.declared.report.lines.PrintError.{PrintError}
use Rattle.replay_output.specs.declared.report.lines.PrintError.TheVariants as print
use Rattle.replay_output.specs.Line.{answers_of}
use Rattle.replay_output.specs.Failures.{failure_lines, NothingFailed}
use Rattle.replay_summary.specs.declared.occupancy.Occupancy.{Occupancy}
use Rattle.replay_workers.specs.Occupied.{IsOccupancyOver}
use Rattle.replay_workers.specs.Run.{IsMeasuredRun, is_complete}
use Rattle.replay_tasks.specs.Replayed.{written, Took}
use Rattle.replay_tasks.specs.Summarized.{TakesToSummarize, summary_and_top, summary_with}
use Rattle.replay_tasks.proofs.Counting.{seen_chain}
use Rattle.replay_tasks.proofs.Measuring.{measured_as, measured_by_other, occupied_over}
use Rattle.replay_tasks.proofs.callers.Meeting.{has_met, met_as, met_nothing, not_failed, stop_reported}
use Rattle.replay_tasks.proofs.callers.Replaying.{complete_from, ending_is, held_ok, are_lines, is_replayed_over, ran_as_and_failed}
use Rattle.replay_tasks.proofs.summary.summarize_with_top.Goals as goal

-- if it was printed, ranges are listed
listed : {T : Type 0} (top : Option Top) (printed : Result T PrintError) → (top ≡ None → (proxy : ℕ) × (printed ≡ Err (print.Memory proxy)))
    → IsOk printed → (t : Top) × (top ≡ Some t)
listed {T} (Some t) printed without ok = (t, refl)
listed {T} None printed without ok = let memory = without refl in absurd (false≢true (subst (λ (r : Result T PrintError). IsOk r) memory.1 ok))

pub returns-in-Err : goal.returns-in-Err
returns-in-Err g c = record {
  done = λ is. cc (c.fail_to_start.ensures.status, c.unstarted.ensures.status, is);
  quiet = λ is. cc (c.fail_to_start.ensures.status, c.unstarted.ensures.status, is);
  failed = λ is. inl (record {
    cause = c.in-Err.cause;
    nothing_printed = refl;
    reported = c.fail_to_start.ensures.line;
  });
  met = met_nothing c.args.options (map g.S.Source.remaining c.args.readers.items) c.unstarted.result.met
      (written (g.E.Sink.given c.args.error.now) (g.E.Sink.given c.fail_to_start.new.error) (g.E.Sink.failures c.args.error.now)
      (g.E.Sink.failures c.fail_to_start.new.error)) c.unstarted.ensures.stop;
  output_failed = not_failed c.unstarted.result.met.output_failed c.unstarted.ensures.output_failed;
  ends = λ is. cc (c.fail_to_start.ensures.status, c.unstarted.ensures.status, is);
  same = λ is. cc (c.fail_to_start.ensures.status, c.unstarted.ensures.status, is);
}

pub returns-clause-done : goal.returns-clause-done
returns-clause-done g c = λ is.
    let outcome = c.in-Ok.ended.0 in
    let account = c.in-Ok.ended.1 in
    let options = c.args.options in
    let form = c.args.wanted.form in
    let most = c.args.wanted.most in
    let files = map g.S.Source.remaining c.args.readers.items in
    let received = map (vec_items {X = Line} {Z = Global}) c.deref_mut.result.now in
    let failures = c.deref_mut-2.result.now in
    let complete = c.is_complete-complete.result in
    let reached = c.run_observed-run.new.observer in
    let hot = reached.observer in
    let Seen = HasSeen hot in
    let entire : complete ≡ is_complete outcome account = c.is_complete-complete.ensures.complete in
    let start : HasSeen c.new-reached.result.observer [] =
    subst (λ (h : HotRanges). HasSeen h []) (sym c.new-reached.ensures.observer) c.new-hot.ensures.none in
    let lines_taken = map (vec_items {X = Line} {Z = Global}) outcome.lines.items in
    let occupancy = outcome.occupancy in
    let both = c.in-Ok.ensures.measured (start, c.new-reached.ensures.none) in
    let of_lines = subst
    (λ (l : List (Vec Line Global)). IsMeasuredRun Seen occupancy options files (map (vec_items {X = Line} {Z = Global}) l) outcome.failures.items (is_complete outcome account) account.stop)
    (sym c.deref_mut.ensures.value) (measured_by_other options files lines_taken outcome.failures.items (is_complete outcome account) occupancy account.stop Seen reached.version both) in
    let of_both = subst
    (λ (f : List ProxyFailure). IsMeasuredRun Seen occupancy options files received f (is_complete outcome account) account.stop)
    (sym c.deref_mut-2.ensures.value) of_lines in
    let measured = subst (λ (b : Bool). IsMeasuredRun Seen occupancy options files received failures b account.stop) (sym entire) of_both in
    let observed = measured.observed in
    let run = observed.run in
    let list = observed.seen.list in
    let kept : to_z w64 (of_z w64 options.window) ≡ options.window =
    first_of (search rules, grind (arith, ints, to_z-of_z)) in
    let setting_is = c.run_observed-run.ensures.setting ∙ ap (λ (h : HotRanges). h.history.window) c.new-reached.ensures.observer in
    let window_is = setting_is ∙ c.new-hot.ensures.window ∙ kept in
    let chain = seen_chain Seen account.stop options.window run.log observed.seen hot.history.window window_is run.chain in
    let ending = ending_is complete account.stop c.new-ending.result c.new-ending.ensures.ending in
    let report = c.print_with_top-report.ensures in
    let printed = c.print_with_top-report.result.printed in
    let with = report.top options.style list (are_lines options files received failures complete account.stop run) observed.seen.seen chain in
    let out = written (g.O.Sink.given c.args.out.now) (g.O.Sink.given c.print_with_top-report.new.out)
    (g.O.Sink.failures c.args.out.now) (g.O.Sink.failures c.print_with_top-report.new.out) in
    let parts = report.done.0 (sym c.after.ensures.status ∙ is) in
    let some = listed with.top printed with.without parts.0 in
    let nothing = subst (λ (e : Ending). NothingFailed failures e) ending parts.2 in
    let no_stop = run.no_stop (complete_from complete account.stop nothing.complete) in
    let lines = subst (λ (top : Option Top). OnOk printed (Took out (summary_with form occupancy top (map answers_of received)))) some.1 with.lines in
    let is_top = subst (λ (top : Option Top). IfSome top (IsTopOf list most)) some.1 with.is_top in
    is_replayed_over options files received failures complete account.stop run
    (λ log answers. (o : Occupancy) × IsOccupancyOver options.limit options.window log o
    × ((hottest : Top) × IsTopOf (run_of options.window log).processed most hottest
    × Took out (summary_and_top form o hottest answers)))
    c.answers_report_verdicts.ensures.known_verdicts nothing (
      occupancy,
      occupied_over options files received failures complete occupancy account.stop Seen measured no_stop,
      (
        some.0,
        subst (λ (ps : List Processed). IsTopOf ps most some.0) (observed.seen.all no_stop) is_top,
        held_ok printed _ lines parts.0,
      ),
    )

pub returns-clause-failed : goal.returns-clause-failed
returns-clause-failed g c = λ is.
    let outcome = c.in-Ok.ended.0 in
    let account = c.in-Ok.ended.1 in
    let options = c.args.options in
    let form = c.args.wanted.form in
    let most = c.args.wanted.most in
    let files = map g.S.Source.remaining c.args.readers.items in
    let received = map (vec_items {X = Line} {Z = Global}) c.deref_mut.result.now in
    let failures = c.deref_mut-2.result.now in
    let complete = c.is_complete-complete.result in
    let reached = c.run_observed-run.new.observer in
    let hot = reached.observer in
    let Seen = HasSeen hot in
    let entire : complete ≡ is_complete outcome account = c.is_complete-complete.ensures.complete in
    let start : HasSeen c.new-reached.result.observer [] =
    subst (λ (h : HotRanges). HasSeen h []) (sym c.new-reached.ensures.observer) c.new-hot.ensures.none in
    let lines_taken = map (vec_items {X = Line} {Z = Global}) outcome.lines.items in
    let occupancy = outcome.occupancy in
    let both = c.in-Ok.ensures.measured (start, c.new-reached.ensures.none) in
    let of_lines = subst
    (λ (l : List (Vec Line Global)). IsMeasuredRun Seen occupancy options files (map (vec_items {X = Line} {Z = Global}) l) outcome.failures.items (is_complete outcome account) account.stop)
    (sym c.deref_mut.ensures.value) (measured_by_other options files lines_taken outcome.failures.items (is_complete outcome account) occupancy account.stop Seen reached.version both) in
    let of_both = subst
    (λ (f : List ProxyFailure). IsMeasuredRun Seen occupancy options files received f (is_complete outcome account) account.stop)
    (sym c.deref_mut-2.ensures.value) of_lines in
    let measured = subst (λ (b : Bool). IsMeasuredRun Seen occupancy options files received failures b account.stop) (sym entire) of_both in
    let observed = measured.observed in
    let run = observed.run in
    let list = observed.seen.list in
    let kept : to_z w64 (of_z w64 options.window) ≡ options.window =
    first_of (search rules, grind (arith, ints, to_z-of_z)) in
    let setting_is = c.run_observed-run.ensures.setting ∙ ap (λ (h : HotRanges). h.history.window) c.new-reached.ensures.observer in
    let window_is = setting_is ∙ c.new-hot.ensures.window ∙ kept in
    let chain = seen_chain Seen account.stop options.window run.log observed.seen hot.history.window window_is run.chain in
    let ending = ending_is complete account.stop c.new-ending.result c.new-ending.ensures.ending in
    let report = c.print_with_top-report.ensures in
    let printed = c.print_with_top-report.result.printed in
    let with = report.top options.style list (are_lines options files received failures complete account.stop run) observed.seen.seen chain in
    let out = written (g.O.Sink.given c.args.out.now) (g.O.Sink.given c.print_with_top-report.new.out)
    (g.O.Sink.failures c.args.out.now) (g.O.Sink.failures c.print_with_top-report.new.out) in
    let reported = c.print_with_top-report.new.failures in
    let error = written (g.E.Sink.given c.args.error.now) (g.E.Sink.given c.print_with_top-report.new.error)
    (g.E.Sink.failures c.args.error.now) (g.E.Sink.failures c.print_with_top-report.new.error) in
    let ran = measured_as options files received failures complete occupancy account.stop Seen measured in
    inr (record {
      counted = list;
      occupancy = occupancy;
      top = with.top;
      is_top = with.is_top;
      nothing_without = λ none. let memory = with.without none in report.nothing memory.0 memory.1;
      failed = ran_as_and_failed received failures complete account.stop (length files) run.received_count run.failures_count
          (IsMeasuredRun (λ seen. seen ≡ list) occupancy options files) ran (summary_with form occupancy with.top) TakesToSummarize out error
          reported printed c.print_with_top-report.result.reported with.lines
          (λ proxy memory. omega (
            arith,
            report.memory proxy memory,
            length-map c.deref_mut.result.now (vec_items {X = Line} {Z = Global}),
          ))
          report.takes report.nothing with.prefix report.write.0
          (subst (λ (e : Ending). OnOk c.print_with_top-report.result.reported (Took error (failure_lines reported e))) ending report.failure_lines)
          report.reported.0 report.loss report.no_loss
          (λ all.
          let done =
          report.done.1 (all.0, all.1, subst (λ (e : Ending). NothingFailed failures e) (sym ending) all.2) in
          cc (done, c.after.ensures.status, is));
    })

pub returns-clause-met : goal.returns-clause-met
returns-clause-met g c =
    let outcome = c.in-Ok.ended.0 in
    let account = c.in-Ok.ended.1 in
    let complete = c.is_complete-complete.result in
    let ending = ending_is complete account.stop c.new-ending.result c.new-ending.ensures.ending in
    let error = written (g.E.Sink.given c.args.error.now) (g.E.Sink.given c.print_with_top-report.new.error)
    (g.E.Sink.failures c.args.error.now) (g.E.Sink.failures c.print_with_top-report.new.error) in
    let reached = c.run_observed-run.new.observer in
    let start : HasSeen c.new-reached.result.observer [] =
    subst (λ (h : HotRanges). HasSeen h []) (sym c.new-reached.ensures.observer) c.new-hot.ensures.none in
    met_as c.args.options (map g.S.Source.remaining c.args.readers.items) c.after.result.met account.stop reached.version error
    c.after.ensures.stop c.after.ensures.version
    (has_met c.args.options (map g.S.Source.remaining c.args.readers.items) (map (vec_items {X = Line} {Z = Global}) outcome.lines.items)
    outcome.failures.items (is_complete outcome account) (HasSeen reached.observer) reached.version account.stop c.after.result.met.output_failed
    error (c.in-Ok.ensures.observed (start, c.new-reached.ensures.none))
    (stop_reported [] c.print_with_top-report.result.reported error c.print_with_top-report.new.failures complete account.stop
    (subst (λ (e : Ending). OnOk c.print_with_top-report.result.reported (Took error (failure_lines c.print_with_top-report.new.failures e))) ending
    c.print_with_top-report.ensures.failure_lines)
    c.print_with_top-report.ensures.reported.0))

pub returns-clause-output_failed : goal.returns-clause-output_failed
returns-clause-output_failed g c = λ is. c.print_with_top-report.ensures.write.0 (c.after.ensures.output_failed is)
