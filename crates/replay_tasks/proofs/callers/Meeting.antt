-- What a run met, from what became of its files and from what an observer has seen of them.
use Rattle.std.specs.Prelude.{◌≡◌, ◌≢◌, ◌⊎◌, ◌++◌, ℕ, ℤ, Bool, true, false, List, Option, None, Some, IfSome, IsErr, Result, Ok, Err, OnErr, OnOk, is_err}
use Rattle.std.proofs.Common.{append_assoc, inl, inr, refl, sym, subst, ◌∙◌}
use Rattle.std.proofs.lemmas.Bool.{false≢true}
use Rattle.keyspace.specs.Processed.{Processed, version_of}
use Rattle.keyspace.specs.Run.{Step}
use Rattle.limits.specs.declared.stop.Stop.{Stop}
use Rattle.resolver.specs.Observed.{HasSeen}
use Rattle.replay_output.specs.declared.failures.Ending.{Ending}
use Rattle.replay_output.specs.declared.failures.Ending.TheVariants.{Stopped}
use Rattle.replay_output.specs.declared.failures.ProxyFailure.{ProxyFailure}
use Rattle.replay_output.specs.declared.status.Status.{Status}
use Rattle.replay_output.specs.declared.status.Status.TheVariants.{Done, Failed, Usage, Differs}
use Rattle.replay_output.specs.Failures.{ending_line, failure_lines, proxy_lines}
use Rattle.replay_output.specs.declared.line.Line.{Line}
use Rattle.replay_output.specs.declared.options.Options.{Options}
use Rattle.replay_output.specs.Quieted.{options_quieted}
use Rattle.replay_workers.specs.Run.{IsObservedRun}
use Rattle.replay_workers.proofs.callers.Lists.{found}
use Rattle.replay_tasks.specs.declared.met.Met.{Met}
use Rattle.replay_tasks.specs.Met.{HasMet, MetStop, ReportsStop}
use Rattle.replay_tasks.specs.Replayed.{HasFailed, Took, Written, ending_of}

-- a run that was not begun met nothing
pub met_nothing : (options : Options) (files : List (Option (List ℕ))) (met : Met) (error : Written) → met.stop ≡ None
    → HasMet options files met error
met_nothing options files met error none =
    subst (λ (s : Option Stop). IfSome s (λ stop. MetStop options files stop met.version × ReportsStop stop error)) (sym none) tt

-- what it met is the stop and the version, whatever became of the output
pub met_as : (options : Options) (files : List (Option (List ℕ))) (met : Met) (stop : Option Stop) (version : Option ℤ) (error : Written)
    → met.stop ≡ stop → met.version ≡ version
    → HasMet options files (record { stop = stop; version = version; output_failed = met.output_failed }) error
    → HasMet options files met error
met_as options files met stop version error stop_is version_is has =
    subst (λ (s : Option Stop). IfSome s (λ stop. MetStop options files stop met.version × ReportsStop stop error)) (sym stop_is)
    (subst (λ (v : Option ℤ). IfSome stop (λ s. MetStop options files s v × ReportsStop s error)) (sym version_is) has)

-- what it met doesn't depend on which lines are shown
pub met_quieted : (options : Options) (files : List (Option (List ℕ))) (met : Met) (error : Written)
    → HasMet (options_quieted options) files met error → HasMet options files met error
met_quieted options files met error has = go met.stop has
  where
    go : (stop : Option Stop) → IfSome stop (λ s. MetStop (options_quieted options) files s met.version × ReportsStop s error)
        → IfSome stop (λ s. MetStop options files s met.version × ReportsStop s error)
    go None has = tt
    go (Some s) has =
        let of_log : MetStop options files s met.version = record {
          log = has.0.log;
          proxies = has.0.proxies;
          each_file = has.0.each_file;
          met = has.0.met;
          reached = has.0.reached;
        } in
        (of_log, has.1)

-- the last of the lines names the stop
pub stop_reported : {T E : Type 0} (first : List ℕ) (wrote : Result T E) (error : Written) (failures : List ProxyFailure) (complete : Bool)
    (stop : Option Stop) → OnOk wrote (Took error (first ++ failure_lines failures (ending_of complete stop)))
    → (IsErr wrote → HasFailed error) → (s : Stop) → stop ≡ Some s → ReportsStop s error
stop_reported first (Ok x) error failures complete stop lines failed s is =
    let last = subst (λ (o : Option Stop). Took error (first ++ failure_lines failures (ending_of complete o))) is lines in
    inr (first ++ proxy_lines failures, subst (Took error) (sym (append_assoc first (proxy_lines failures) (ending_line (Stopped s)))) last)
stop_reported first (Err e) error failures complete stop lines failed s is = inl (failed refl)

-- the same of lines with another ending
pub reports_as : (error : Written) (reported : List ProxyFailure) (ending : Ending) (s : Stop) → ending ≡ Stopped s
    → HasFailed error ⊎ Took error (failure_lines reported ending) → ReportsStop s error
reports_as error reported ending s is (inl failed) = inl failed
reports_as error reported ending s is (inr took) =
    inr (proxy_lines reported, subst (λ (e : Ending). Took error (proxy_lines reported ++ ending_line e)) is took)

-- it ends in no other way
pub is_failed : (status : Status) → status ≢ Usage → status ≢ Differs → status ≢ Done → status ≡ Failed
is_failed Done usage differs done = absurd (done refl)
is_failed Failed usage differs done = refl
is_failed Usage usage differs done = absurd (usage refl)
is_failed Differs usage differs done = absurd (differs refl)

-- what is false is not true
pub not_failed : {P : Type 0} (failed : Bool) → failed ≡ false → failed ≡ true → P
not_failed failed off on = absurd (false≢true (sym off ∙ on))

-- what holds of an error
pub failed_if : {T E P : Type 0} (result : Result T E) (failed : Bool) → failed ≡ is_err result → OnErr result P → failed ≡ true → P
failed_if (Ok x) failed is holds on = absurd (false≢true (sym is ∙ on))
failed_if (Err e) failed is holds on = holds

reached_of : (version : Option ℤ) (stop : Option Stop) (window : ℤ) (log : List Step)
    → HasSeen (λ seen. version ≡ Some (version_of seen)) stop window log
    → IfSome version (λ v. HasSeen (λ seen. v ≡ version_of seen) stop window log)
reached_of None stop window log saw = tt
reached_of (Some v) stop window log saw =
    let same : Some v ≡ Some (version_of saw.list) = saw.seen in
    record {
      list = saw.list;
      seen = cc same;
      no_others = saw.no_others;
      all = saw.all;
      all_before_last = saw.all_before_last;
    }

module _ (options : Options) (files : List (Option (List ℕ))) (received : List (List Line)) (failures : List ProxyFailure)
    (complete : Bool) (Seen : List Processed → Type 0) (version : Option ℤ) where
  -- what another observer has seen, beside the version
  pub seen_by_other : (stop : Option Stop)
      → IsObservedRun (λ ps. Seen ps × (version ≡ Some (version_of ps))) options files received failures complete stop
      → IsObservedRun Seen options files received failures complete stop
  seen_by_other stop observed =
      let saw = observed.seen in
      record {
        run = observed.run;
        seen = record {
          list = saw.list;
          seen = saw.seen.0;
          no_others = saw.no_others;
          all = saw.all;
          all_before_last = saw.all_before_last;
        };
      }

  -- the stop and the version
  pub has_met : (stop : Option Stop) (output_failed : Bool) (error : Written)
      → IsObservedRun (λ ps. Seen ps × (version ≡ Some (version_of ps))) options files received failures complete stop
      → ((s : Stop) → stop ≡ Some s → ReportsStop s error)
      → HasMet options files (record { stop = stop; version = version; output_failed = output_failed }) error
  has_met None output_failed error observed reported = tt
  has_met (Some s) output_failed error observed reported =
      let run = observed.run in
      let saw = observed.seen in
      let met : MetStop options files s version = record {
        log = run.log;
        proxies = run.proxies;
        each_file = λ proxy bytes at.
            let ls = found files received proxy bytes run.received_count at in
            let failure = found files failures proxy bytes run.failures_count at in
            let served = run.each proxy bytes ls.0 failure.0 at ls.1 failure.1 in
            (served.read, served.left, served.frames_read, served.batches);
        met = run.met;
        reached = reached_of version (Some s) options.window run.log (record {
          list = saw.list;
          seen = saw.seen.1;
          no_others = saw.no_others;
          all = saw.all;
          all_before_last = saw.all_before_last;
        });
      } in
      (met, reported s refl)
