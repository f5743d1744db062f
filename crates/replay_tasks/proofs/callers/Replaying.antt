-- What was printed, from what was run and what was reported.
use Rattle.std.specs.Prelude.{◌≡◌, ◌≢◌, ℕ, zero, suc, ◌+◌, ◌<◌, Bool, true, false, if◌then◌else◌, ◌⊎◌, List, [], ◌∷◌, length, map, Option, Some, None, MatchOption, Result, Ok, Err, OnOk, IfOk, IsOk, IsOkAnd, IsErr, slice_get}
use Rattle.std.specs.List.{All, range_with_len}
use Rattle.std.proofs.Common.{refl, sym, ap, subst, ◌∙◌, inl, inr, append-nil, arith}
use Rattle.std.proofs.lemmas.Bool.{false≢true}
use Rattle.keyspace.specs.declared.answer.Answer.{Answer}
use Rattle.keyspace.specs.declared.batch.Batch.{Batch}
use Rattle.keyspace.specs.Run.{Step, answers, part}
use Rattle.serial.specs.Replies.{AnswersReportVerdicts}
use Rattle.limits.specs.declared.stop.Stop.{Stop}
use Rattle.replay_output.specs.declared.failures.Ending.{Ending}
use Rattle.replay_output.specs.declared.failures.Ending.TheVariants.{Complete, Incomplete, Stopped}
use Rattle.replay_output.specs.declared.failures.ProxyFailure.{ProxyFailure}
use Rattle.replay_output.specs.declared.line.Line.{Line}
use Rattle.replay_output.specs.declared.report.lines.PrintError.{PrintError}
use Rattle.replay_output.specs.declared.report.lines.PrintError.TheVariants as print
use Rattle.replay_output.specs.declared.options.Options.{Options}
use Rattle.replay_output.specs.Failures.{failure_lines, with_loss, IsClean, NothingFailed}
use Rattle.replay_output.specs.Line.{answers_of, AreLines}
use Rattle.replay_workers.specs.Run.{IsRun}
use Rattle.replay_tasks.specs.Replayed.{IsReplayedBy, IsReplayedOver, Written, HasFailed, Took, TookPrefix, ending_of, RanAndFailed}
use Rattle.replay_workers.specs.Reporting.{TakesFrames}
use Rattle.replay_workers.proofs.callers.Lists.{all_at, found}
use Rattle.replay_tasks.proofs.callers.Reporting.{from_one, each_said, all_said}

pub loss_is_no_clean : (proxy : ℕ) (failures : List ProxyFailure) → proxy < length failures
    → ¬ (All IsClean (with_loss proxy failures))
loss_is_no_clean proxy [] inside clean = absurd (omega arith)
loss_is_no_clean zero (failure ∷ failures) inside clean =
    false≢true (sym (clean 0 failure (omega arith)).1)
loss_is_no_clean (suc proxy) (failure ∷ failures) inside clean =
    loss_is_no_clean proxy failures (omega arith) (λ k d within. clean (suc k) d (omega arith))

pub complete_from : (complete : Bool) (stop : Option Stop) → ending_of complete stop ≡ Complete → complete ≡ true
complete_from true stop is = refl
complete_from false None is = cc
complete_from false (Some s) is = cc

pub ending_is : (complete : Bool) (stop : Option Stop) (ending : Ending)
    → MatchOption stop (ending ≡ (if complete then Complete else Incomplete)) (λ met. ending ≡ Stopped met)
    → ending ≡ ending_of complete stop
ending_is complete None ending is = is
ending_is complete (Some met) ending is = is

-- lists that are the answers at each place
same_answers : (F : ℕ → List Answer) (received : List (List Line)) (first n : ℕ) → length received ≡ n
    → ((place : ℕ) (ls : List Line) → slice_get received place ≡ Some ls → answers_of ls ≡ F (first + place))
    → map answers_of received ≡ map F (range_with_len first n)
same_answers F [] first zero same each = refl
same_answers F [] first (suc n) same each = absurd (omega (arith, same))
same_answers F (ls ∷ received) first zero same each = absurd (omega (arith, same))
same_answers F (ls ∷ received) first (suc n) same each =
    let here : answers_of ls ≡ F first =
    each 0 ls refl ∙ ap F (omega arith) in
    let rest : map answers_of received ≡ map F (range_with_len (first + 1) n) =
    same_answers F received (first + 1) n (omega (arith, same))
    (λ place l at. each (suc place) l at ∙ ap F (omega arith)) in
    ap (λ (l : List (List Answer)). answers_of ls ∷ l) rest
    ∙ ap (λ (a : List Answer). a ∷ map F (range_with_len (first + 1) n)) here

pub held_ok : {T E : Type 0} (r : Result T E) (P : Type 0) → OnOk r P → IsOk r → P
held_ok (Ok t) P holds ok = holds
held_ok (Err e) P holds ok = absurd (false≢true ok)

-- What failed, after a run of this many proxies.
module _ (received : List (List Line)) (failures : List ProxyFailure) (complete : Bool) (stop : Option Stop) (proxies : ℕ)
    (received_count : length received ≡ proxies) (failures_count : length failures ≡ proxies)
    (Ran : List (List Line) → List ProxyFailure → Bool → Option Stop → Type 0) (ran : Ran received failures complete stop)
    (text_of : List (List Answer) → List ℕ) (Takes : List (List Line) → ℕ → Type 0) (out error : Written)
    (reported : List ProxyFailure) where
  abbrev text : List ℕ
  text = text_of (map answers_of received)

  why_failed : {U F : Type 0} (wrote : Result U F) → (IsErr wrote → HasFailed error)
      → (IsOk wrote → ¬ (NothingFailed reported (ending_of complete stop)))
      → HasFailed out ⊎ (HasFailed error ⊎ ¬ (NothingFailed reported (ending_of complete stop)))
  why_failed (Ok u) failed not_all = inr (inr (not_all refl))
  why_failed (Err e) failed not_all = inr (inl (failed refl))

  reported_of : {U F : Type 0} (wrote : Result U F) → OnOk wrote (Took error (failure_lines reported (ending_of complete stop)))
      → (IsErr wrote → HasFailed error)
      → HasFailed error ⊎ Took error (failure_lines reported (ending_of complete stop))
  reported_of (Ok u) took failed = inr took
  reported_of (Err e) took failed = inl (failed refl)

  pub ran_as_and_failed : {T U F : Type 0} (printed : Result T PrintError) (wrote : Result U F) → OnOk printed (Took out text)
      → ((proxy : ℕ) → printed ≡ Err (print.Memory proxy) → proxy < length received)
      → ((proxy : ℕ) → printed ≡ Err (print.Memory proxy) → Takes received proxy)
      → ((proxy : ℕ) → printed ≡ Err (print.Memory proxy) → out.after ≡ out.before)
      → (printed ≡ Err print.Write → TookPrefix out text) → (printed ≡ Err print.Write → HasFailed out)
      → OnOk wrote (Took error (failure_lines reported (ending_of complete stop))) → (IsErr wrote → HasFailed error)
      → ((proxy : ℕ) → printed ≡ Err (print.Memory proxy) → reported ≡ with_loss proxy failures)
      → (((proxy : ℕ) → printed ≢ Err (print.Memory proxy)) → reported ≡ failures)
      → ¬ (IsOk printed × IsOk wrote × NothingFailed failures (ending_of complete stop))
      → RanAndFailed Ran text_of Takes proxies out error
  ran_as_and_failed (Ok u) wrote took inside takes nothing prefix failed reported_lines reported_failed loss no_loss not_done =
      let same : reported ≡ failures = no_loss (λ proxy is. cc) in
      record {
        received = received;
        failures = failures;
        complete = complete;
        stop = stop;
        run = ran;
        reported = reported;
        failures_reported = inl same;
        printed = inr (inl (same, took));
        lines_of_failures = reported_of wrote reported_lines reported_failed;
        why = why_failed wrote reported_failed
            (λ ok none. not_done (refl, ok, subst (λ (f : List ProxyFailure). NothingFailed f (ending_of complete stop)) same none));
      }
  ran_as_and_failed (Err (print.Memory proxy)) wrote took inside takes nothing prefix failed reported_lines reported_failed loss no_loss not_done =
      let is = loss proxy refl in
      let known : proxy < length failures =
      omega (arith, inside proxy refl, received_count, failures_count) in
      let with : (proxy : ℕ) × (proxy < proxies) × Takes received proxy × (reported ≡ with_loss proxy failures) =
      (proxy, omega (arith, known, failures_count), takes proxy refl, is) in
      record {
        received = received;
        failures = failures;
        complete = complete;
        stop = stop;
        run = ran;
        reported = reported;
        failures_reported = inr with;
        printed = inr (inr (with, nothing proxy refl));
        lines_of_failures = reported_of wrote reported_lines reported_failed;
        why = inr (inr (λ none.
            loss_is_no_clean proxy failures known (subst (λ (f : List ProxyFailure). All IsClean f) is none.proxies)));
      }
  ran_as_and_failed (Err print.Write) wrote took inside takes nothing prefix failed reported_lines reported_failed loss no_loss not_done =
      let same : reported ≡ failures = no_loss (λ proxy is. cc) in
      record {
        received = received;
        failures = failures;
        complete = complete;
        stop = stop;
        run = ran;
        reported = reported;
        failures_reported = inl same;
        printed = inl (failed refl, prefix refl);
        lines_of_failures = reported_of wrote reported_lines reported_failed;
        why = inl (failed refl);
      }

module _ (options : Options) (files : List (Option (List ℕ))) (received : List (List Line)) (failures : List ProxyFailure)
    (complete : Bool) (stop : Option Stop) (run : IsRun options files received failures complete stop) where
  pub are_lines : AreLines options.style received
  are_lines proxy of_proxy at =
      let bytes = found received files proxy of_proxy (sym run.received_count) at in
      let failure = found received failures proxy of_proxy (run.failures_count ∙ sym run.received_count) at in
      (run.each proxy bytes.0 of_proxy failure.0 bytes.1 at failure.1).lines_reported

  pub is_replayed_over : (Printed : List Step → List (List Answer) → Type 0) → AnswersReportVerdicts
      → NothingFailed failures (ending_of complete stop) → Printed run.log (map answers_of received)
      → IsReplayedOver Printed options files
  is_replayed_over Printed known_verdicts nothing printed =
      let entire = complete_from complete stop nothing.complete in
      let proxies = length files in
      record {
        log = run.log;
        proxies = run.proxies;
        each_file = λ proxy bytes at.
            let ls = found files received proxy bytes run.received_count at in
            let failure = found files failures proxy bytes run.failures_count at in
            let clean = all_at IsClean failures proxy failure.0 nothing.proxies failure.1 in
            let served = run.each proxy bytes ls.0 failure.0 at ls.1 failure.1 in
            let all = served.all_batches entire in
            record {
              left = served.left;
              frames = subst (λ (l : List Batch). TakesFrames options.reports bytes served.left l) all served.frames_read;
              at_end = served.all_read all clean.0;
            };
        chain = run.chain;
        serializable = run.serializable;
        from_files = from_one options.window run.log proxies run.proxies known_verdicts options.style.form;
        replies = λ proxy.
            let own = part run.log proxy in
            known_verdicts.replies options.window run.log proxy own [] (sym (append-nil own));
        each_word = each_said options.window run.log proxies run.proxies known_verdicts options.style.form;
        all_words = all_said options.window run.log proxies run.proxies known_verdicts options.style.form;
        finish = run.finish (run.no_stop entire);
        printed =
            subst (Printed run.log)
            (same_answers (answers options.window run.log) received 0 (length files) run.received_count
            (λ place ls at.
            let bytes = found received files place ls (sym run.received_count) at in
            let failure = found received failures place ls (run.failures_count ∙ sym run.received_count) at in
            let clean = all_at IsClean failures place failure.0 nothing.proxies failure.1 in
            (run.each place bytes.0 ls failure.0 bytes.1 at failure.1).all_received (run.no_stop entire) clean.1
            ∙ ap (answers options.window run.log) (omega arith)))
            printed;
      }

  pub is_replayed : (Printed : List (List Answer) → Type 0) → AnswersReportVerdicts → NothingFailed failures (ending_of complete stop)
      → Printed (map answers_of received) → IsReplayedBy Printed options files
  is_replayed Printed known_verdicts nothing printed = is_replayed_over (λ log answers. Printed answers) known_verdicts nothing printed

  -- what failed, where what became of the files is all that is said of the run
  pub ran_and_failed : (text_of : List (List Answer) → List ℕ) (Takes : List (List Line) → ℕ → Type 0) (out error : Written)
      (reported : List ProxyFailure) {T U F : Type 0} (printed : Result T PrintError) (wrote : Result U F)
      → OnOk printed (Took out (text_of (map answers_of received)))
      → ((proxy : ℕ) → printed ≡ Err (print.Memory proxy) → proxy < length received)
      → ((proxy : ℕ) → printed ≡ Err (print.Memory proxy) → Takes received proxy)
      → ((proxy : ℕ) → printed ≡ Err (print.Memory proxy) → out.after ≡ out.before)
      → (printed ≡ Err print.Write → TookPrefix out (text_of (map answers_of received)))
      → (printed ≡ Err print.Write → HasFailed out)
      → OnOk wrote (Took error (failure_lines reported (ending_of complete stop))) → (IsErr wrote → HasFailed error)
      → ((proxy : ℕ) → printed ≡ Err (print.Memory proxy) → reported ≡ with_loss proxy failures)
      → (((proxy : ℕ) → printed ≢ Err (print.Memory proxy)) → reported ≡ failures)
      → ¬ (IsOk printed × IsOk wrote × NothingFailed failures (ending_of complete stop))
      → RanAndFailed (IsRun options files) text_of Takes (length files) out error
  ran_and_failed text_of Takes out error reported printed wrote =
      ran_as_and_failed received failures complete stop (length files) run.received_count run.failures_count (IsRun options files) run text_of
      Takes out error reported printed wrote

pub ok_at : {T E : Type 0} (r : Result T E) (t : T) → r ≡ Ok t → IsOk r
ok_at {T} {E} r t is = subst (λ (s : Result T E). IsOk s) (sym is) refl

pub held_at : {T E : Type 0} (r : Result T E) (t : T) (P : T → Type 0) → r ≡ Ok t → IfOk r P → P t
held_at {T} {E} r t P is holds = subst (λ (s : Result T E). IfOk s P) is holds

-- what holds where it succeeded, and of the number that it then is
pub held_and : {E P : Type 0} (r : Result ℕ E) (m : ℕ) (Q : ℕ → Type 0) → OnOk r P → IfOk r (λ n. n ≡ m) → IsOkAnd r Q → P × Q m
held_and (Ok n) m Q holds same q = (holds, subst Q same q)
held_and (Err e) m Q holds same q = absurd q
