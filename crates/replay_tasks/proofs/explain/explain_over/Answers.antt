use Rattle.std.proofs.Common.{◌≡◌, [], Bool, ◌&&◌, List, map, refl, ap, sym, subst, inr, inl, ◌∙◌, arith, rules, w64, to_z, of_z, Vec, Global}
use Rattle.std.specs.Prelude.{OnOk, length, vec_items}
use Rattle.std.proofs.lemmas.Int.{ints, to_z-of_z}
use Rattle.std.proofs.lemmas.List.{length-map}
use Rattle.keyspace.specs.Processed.{Processed}
use Rattle.keyspace.specs.Run.{run as run_of}
use Rattle.replay_explanations.specs.Explainer.{ExplainerState, HasExplained, Setting, setting_of}
use Rattle.replay_output.specs.declared.failures.Ending.{Ending}
use Rattle.replay_output.specs.declared.failures.ProxyFailure.{ProxyFailure}
use Rattle.replay_output.specs.declared.line.Line.{Line}
use Rattle.replay_output.specs.Line.{answers_of}
use Rattle.replay_output.specs.Lines.{lines_by}
use Rattle.replay_output.specs.Failures.{failure_lines, NothingFailed}
use Rattle.replay_workers.specs.Run.{IsObservedRun, is_complete}
use Rattle.replay_tasks.specs.Explained.{Explained, TakesToExplain, explained_line, explained_lines, explanation_form, explanations_of}
use Rattle.replay_tasks.specs.Replayed.{written, Took, TookPrefix}
use Rattle.replay_tasks.proofs.Explaining.{seen_as, texts_are}
use Rattle.replay_tasks.proofs.callers.Meeting.{has_met, met_as, met_nothing, not_failed, seen_by_other, stop_reported}
use Rattle.replay_tasks.proofs.callers.Replaying.{complete_from, ending_is, held_ok, are_lines, is_replayed_over, ran_as_and_failed}
use Rattle.replay_tasks.proofs.explain.explain_over.Goals.{then-account, else-account}
use Rattle.replay_tasks.proofs.explain.explain_over.Goals as goal

pub returns-in-Err : goal.returns-in-Err
returns-in-Err g c = record {
  done = λ is. cc (c.fail_to_start.ensures.status, c.unstarted.ensures.status, is);
  quiet = λ is. cc (c.fail_to_start.ensures.status, c.unstarted.ensures.status, is);
  failed = λ is. inl (record {
    cause = c.in-Err.cause;
    nothing_printed = refl;
    reported = c.fail_to_start.ensures.line;
  });
  met = met_nothing c.args.options (map g.S.Source.remaining c.args.readers.items) c.unstarted.result.met
      (written (g.E.Sink.given c.args.error.now) (g.E.Sink.given c.fail_to_start.new.error) (g.E.Sink.failures c.args.error.now)
      (g.E.Sink.failures c.fail_to_start.new.error)) c.unstarted.ensures.stop;
  output_failed = not_failed c.unstarted.result.met.output_failed c.unstarted.ensures.output_failed;
  ends = λ is. cc (c.fail_to_start.ensures.status, c.unstarted.ensures.status, is);
  same = λ is. cc (c.fail_to_start.ensures.status, c.unstarted.ensures.status, is);
}

pub returns : goal.returns
returns g c =
    let outcome = c.in-Ok.ended.0 in
    let account = c.in-Ok.ended.1 in
    let options = c.args.options in
    let files = map g.S.Source.remaining c.args.readers.items in
    let received = map (vec_items {X = Line} {Z = Global}) c.deref_mut.result.now in
    let failures = c.deref_mut-2.result.now in
    let complete = c.if-account.new in
    let reached = c.run_observed-run.new.observer in
    let explainer = reached.observer in
    let Seen = HasExplained explainer in
    let entire : c.if-account.new ≡ is_complete outcome account =
    elim c.if-account.branch [
      | then-account w ↦ w.new-is ∙ sym (ap (λ (b : Bool). b && outcome.all_sent) w.if-account.true)
      | else-account w ↦
          w.new-is ∙ w.if-account.false ∙ sym (ap (λ (b : Bool). b && outcome.all_sent) w.if-account.false)
    ] in
    let start : HasExplained c.new-reached.result.observer [] =
    subst (λ (e : ExplainerState). HasExplained e []) (sym c.new-reached.ensures.observer) c.new-explainer.ensures.none in
    let lines_taken = map (vec_items {X = Line} {Z = Global}) outcome.lines.items in
    let both = c.in-Ok.ensures.observed (start, c.new-reached.ensures.none) in
    let of_lines = subst
    (λ (l : List (Vec Line Global)). IsObservedRun Seen options files (map (vec_items {X = Line} {Z = Global}) l) outcome.failures.items (is_complete outcome account) account.stop)
    (sym c.deref_mut.ensures.value) (seen_by_other options files lines_taken outcome.failures.items (is_complete outcome account) Seen reached.version account.stop both) in
    let of_both = subst
    (λ (f : List ProxyFailure). IsObservedRun Seen options files received f (is_complete outcome account) account.stop)
    (sym c.deref_mut-2.ensures.value) of_lines in
    let observed = subst (λ (b : Bool). IsObservedRun Seen options files received failures b account.stop) (sym entire) of_both in
    let run = observed.run in
    let list = observed.seen.list in
    let kept : to_z w64 (of_z w64 options.window) ≡ options.window =
    first_of (search rules, grind (arith, ints, to_z-of_z)) in
    let setting_is = c.run_observed-run.ensures.setting ∙ ap setting_of c.new-reached.ensures.observer in
    let window_is = ap (λ (s : Setting). s.window) setting_is ∙ c.new-explainer.ensures.window ∙ kept in
    let form = explanation_form options.style.form in
    let form_is : explainer.form ≡ form =
    ap (λ (s : Setting). s.form) setting_is ∙ c.new-explainer.ensures.form ∙ c.explanation_form-form.ensures.form in
    let texts = texts_are explainer account.stop options.window run.log run.chain observed.seen form form_is window_is in
    let ran : IsObservedRun (λ seen. seen ≡ list) options files received failures complete account.stop = record {
      run = run;
      seen = seen_as explainer account.stop options.window run.log run.chain observed.seen form form_is window_is;
    } in
    let ending = ending_is complete account.stop c.new-ending.result c.new-ending.ensures.ending in
    let report = c.print_explained-report.ensures in
    let status = sym c.after.ensures.status in
    let reported = c.print_explained-report.new.failures in
    let out = written (g.O.Sink.given c.args.out.now) (g.O.Sink.given c.print_explained-report.new.out)
    (g.O.Sink.failures c.args.out.now) (g.O.Sink.failures c.print_explained-report.new.out) in
    let error = written (g.E.Sink.given c.args.error.now) (g.E.Sink.given c.print_explained-report.new.error)
    (g.E.Sink.failures c.args.error.now) (g.E.Sink.failures c.print_explained-report.new.error) in
    let are = are_lines options files received failures complete account.stop run in
    let lines = subst (λ (explained : Explained). OnOk c.print_explained-report.result.printed
    (Took out (lines_by (explained_line options.style explained) (map answers_of received)))) texts (report.lines options.style (sym form_is) are) in
    record {
      done = λ is.
          let parts = report.done.0 (status ∙ is) in
          let nothing = subst (λ (e : Ending). NothingFailed failures e) ending parts.2 in
          let all = observed.seen.all (run.no_stop (complete_from complete account.stop nothing.complete)) in
          is_replayed_over options files received failures complete account.stop run
          (λ log answers. Took out (explained_lines options (run_of options.window log).processed answers))
          c.answers_report_verdicts.ensures.known_verdicts nothing
          (subst (λ (ps : List Processed). Took out (explained_lines options ps (map answers_of received))) all
          (held_ok c.print_explained-report.result.printed _ lines parts.0));
      quiet = λ is. report.quiet (status ∙ is);
      failed = λ is.
          inr (record {
            explained = list;
            failed = ran_as_and_failed received failures complete account.stop (length files) run.received_count run.failures_count
                (IsObservedRun (λ seen. seen ≡ list) options files) ran (explained_lines options list)
                (TakesToExplain (explanations_of options list)) out error reported
                c.print_explained-report.result.printed c.print_explained-report.result.reported lines
                (λ proxy memory. omega (
                  arith,
                  report.memory proxy memory,
                  length-map c.deref_mut.result.now (vec_items {X = Line} {Z = Global}),
                ))
                (λ proxy memory. subst (λ (explained : Explained). TakesToExplain explained received proxy) texts
                (report.takes proxy memory))
                report.nothing
                (λ wrote. subst (λ (explained : Explained).
                TookPrefix out (lines_by (explained_line options.style explained) (map answers_of received))) texts
                (report.prefix options.style (sym form_is) are wrote))
                report.write.0
                (subst (λ (e : Ending). OnOk c.print_explained-report.result.reported (Took error (failure_lines reported e))) ending report.failure_lines)
                report.reported.0 report.loss report.no_loss
                (λ all.
                let done =
                report.done.1 (all.0, all.1, subst (λ (e : Ending). NothingFailed failures e) (sym ending) all.2) in
                cc (done, status ∙ is));
          });
      met = met_as options files c.after.result.met account.stop reached.version error c.after.ensures.stop
          c.after.ensures.version
          (has_met options files lines_taken outcome.failures.items (is_complete outcome account) Seen reached.version account.stop
          c.after.result.met.output_failed error both
          (stop_reported [] c.print_explained-report.result.reported error reported complete account.stop
          (subst (λ (e : Ending). OnOk c.print_explained-report.result.reported (Took error (failure_lines reported e))) ending report.failure_lines)
          report.reported.0));
      output_failed = λ is. report.write.0 (c.after.ensures.output_failed is);
      ends = λ is. report.ends (status ∙ is);
      same = λ is. report.same (status ∙ is);
    }
