-- What was printed and met with several resolvers, from the combined runs and what was reported.
use Rattle.std.specs.Prelude.{◌≡◌, ◌≢◌, ◌⊎◌, ◌<◌, ℕ, Bool, List, [], get_or, length, map, vec_items, Option, None, Some, IfSome, MatchOption, option_map}
use Rattle.std.specs.List.{All}
use Rattle.std.specs.Io.KnownBytes.{Keeps}
use Rattle.std.proofs.Common.{refl, sym, ap, subst, ◌∙◌, inl, inr}
use Rattle.std.proofs.lemmas.List.{length-map}
use Rattle.std.proofs.lemmas.Option.{slice_get-get_or}
use Rattle.keyspace.specs.declared.answer.Answer.{Answer}
use Rattle.keyspace.specs.declared.batch.Batch.{Batch}
use Rattle.keyspace.specs.Processed.{Processed}
use Rattle.limits.specs.declared.stop.Stop.{Stop}
use Rattle.replay_output.specs.declared.failures.Ending.TheVariants.{Complete, Stopped}
use Rattle.replay_output.specs.declared.failures.ProxyFailure.{ProxyFailure}
use Rattle.replay_output.specs.declared.line.Line.{Line}
use Rattle.replay_output.specs.declared.options.Options.{Options}
use Rattle.replay_output.specs.declared.options.form.Form.{Form}
use Rattle.replay_output.specs.declared.status.Status.{Status}
use Rattle.replay_output.specs.declared.status.Status.TheVariants.{Done, Failed, Usage, Differs}
use Rattle.replay_output.specs.Failures.{IsClean, NothingFailed}
use Rattle.replay_output.specs.Line.{answers_of}
use Rattle.replay_workers.proofs.callers.Lists.{all_at}
use Rattle.replay_shards.specs.declared.failures.ShardStop.{ShardStop}
use Rattle.replay_shards.specs.Failures.{IsFirstStop}
use Rattle.replay_sharded.specs.declared.combined.Combined.{Combined}
use Rattle.replay_sharded.specs.Combined.{HasAllAnswers, stop_of}
use Rattle.replay_sharded.specs.Sharded.{AreRunsTogether, CommitsSerializably, IsResolvedByShards}
use Rattle.replay_tasks.specs.declared.met.Met.{Met}
use Rattle.replay_tasks.specs.Met.{ReportsStop}
use Rattle.replay_tasks.specs.Replayed.{Written, ending_of}
use Rattle.replay_tasks.specs.Sharded.{HasMetByShards, IsReplayedByShardsBy, MetStopByShards, NamesShard, WordsAreSerializable, together_of}
use Rattle.replay_tasks.proofs.callers.Replaying.{complete_from}
use Rattle.replay_tasks.proofs.callers.Reporting.{line_reports, reported_by_line}

-- the lines say that a transaction was committed exactly if the answers report it
pub words_serializable : (form : Form) (sent : List (List Batch)) (together : List (List Answer)) → CommitsSerializably sent together
    → WordsAreSerializable form sent together
words_serializable form sent together commits = record {
  commits = commits;
  each_word = λ proxy version index line.
      let own = line_reports form together proxy version index line in
      commits.reported proxy own.0 version index own.1 own.2;
  all_words = λ proxy version index is.
      let OfThese : Processed → Type 0 = λ entry. entry.proxy < length together in
      let inside : proxy < length together =
      subst (λ (p : ℕ). p < length together) is.of_proxy
      (all_at OfThese commits.processed is.index is.entry commits.proxies is.committed.batch) in
      let none : List Answer = [] in
      let own = get_or together proxy none in
      let at = slice_get-get_or together proxy none inside in
      reported_by_line form together proxy version index own at (commits.all_reported proxy own version index at is);
}

-- the stop itself, without its shard
abbrev pub stop_met : Combined → Option Stop
stop_met combined = option_map (λ (met : ShardStop). met.stop) combined.stop

none_met : (complete : Bool) (stop : Option ShardStop) → ending_of complete (option_map (λ (met : ShardStop). met.stop) stop) ≡ Complete
    → stop ≡ None
none_met complete None is = refl
none_met complete (Some met) is = let bad : Stopped met.stop ≡ Complete = is in cc

pub all_answers : (combined : Combined) (failures : List ProxyFailure) → failures ≡ combined.failures.items
    → NothingFailed failures (ending_of combined.complete (stop_met combined)) → HasAllAnswers combined
all_answers combined failures same nothing = record {
  clean = subst (λ (f : List ProxyFailure). All IsClean f) same nothing.proxies;
  complete = complete_from combined.complete (stop_met combined) nothing.complete;
  no_stop = none_met combined.complete combined.stop nothing.complete;
}

-- no shard was named, so what was written before is all
pub quiet_still : {A : Type 0} (given : A → Option (List ℕ)) (before so_far after : A) → Keeps (given before) (given so_far)
    → given after ≡ given so_far → Keeps (given before) (given after)
quiet_still given before so_far after keeps same = subst (λ (bytes : Option (List ℕ)). Keeps (given before) bytes) (sym same) keeps

-- it ends in one of two ways
pub done_or_differs : (status : Status) → status ≢ Usage → status ≢ Failed → (status ≡ Done) ⊎ (status ≡ Differs)
done_or_differs Done usage failed = inl refl
done_or_differs Failed usage failed = absurd (failed refl)
done_or_differs Usage usage failed = absurd (usage refl)
done_or_differs Differs usage failed = inr refl

-- runs that were not begun met nothing
pub met_nothing_by_shards : (points : List (List ℕ)) (options : Options) (files : List (Option (List ℕ))) (met : Met) (error : Written)
    → met.stop ≡ None → HasMetByShards points options files met error
met_nothing_by_shards points options files met error none =
    subst (λ (s : Option Stop). IfSome s (λ stop. MetStopByShards points options files stop met.version error)) (sym none) tt

module _ (points : List (List ℕ)) (options : Options) (files : List (Option (List ℕ))) (combined : Combined)
    (runs : AreRunsTogether points options files combined)
  where
    -- the first stop
    pub has_met_by_shards : (met : Met) (so_far error : Written) → met.stop ≡ stop_met combined → met.version ≡ None
        → ((s : Stop) → stop_met combined ≡ Some s → ReportsStop s so_far) → NamesShard combined.stop so_far error
        → HasMetByShards points options files met error
    has_met_by_shards met so_far error stop_is no_version reports named =
        subst (λ (s : Option Stop). IfSome s (λ stop. MetStopByShards points options files stop met.version error)) (sym stop_is)
        (go combined.stop runs.together.stop reports named)
      where
        go : (stop : Option ShardStop)
            → MatchOption stop (All (λ (own : Option Stop). own ≡ None) (map stop_of runs.runs)) (IsFirstStop (map stop_of runs.runs))
            → ((s : Stop) → option_map (λ (met : ShardStop). met.stop) stop ≡ Some s → ReportsStop s so_far)
            → NamesShard stop so_far error
            → IfSome (option_map (λ (met : ShardStop). met.stop) stop)
            (λ s. MetStopByShards points options files s met.version error)
        go None is reports named = tt
        go (Some first) is reports named = record {
          runs = runs.runs;
          each = runs.each;
          first = first;
          is_first = is;
          stop_is = refl;
          no_version = no_version;
          reported = record { so_far = so_far; stop = reports first.stop refl; shard = named };
        }

    module _ (received : List (List Line)) (failures : List ProxyFailure) (lines_are : received ≡ map vec_items combined.lines.items)
        (failures_are : failures ≡ combined.failures.items)
      where
        pub received_count : length received ≡ length files
        received_count =
            ap (λ (l : List (List Line)). length l) lines_are
            ∙ (length-map combined.lines.items vec_items
            ∙ (sym combined.lines.ok.0 ∙ runs.together.lines_count (length files) runs.proxies))

        pub failures_count : length failures ≡ length files
        failures_count =
            ap (λ (l : List ProxyFailure). length l) failures_are
            ∙ (sym combined.failures.ok.0 ∙ runs.together.failures_count (length files) runs.proxies)

        -- nothing failed, so every combined answer is there, and was printed
        pub is_replayed_by_shards : (Printed : List (List Answer) → Type 0)
            → (HasAllAnswers combined → IsResolvedByShards points options.window files (together_of combined))
            → NothingFailed failures (ending_of combined.complete (stop_met combined)) → Printed (map answers_of received)
            → IsReplayedByShardsBy Printed points options files
        is_replayed_by_shards Printed resolved nothing printed =
            let all = all_answers combined failures failures_are nothing in
            record {
              combined = combined;
              runs = runs;
              all = all;
              resolved = resolved all;
              words = λ sent read once.
                  words_serializable options.style.form sent (together_of combined) ((resolved all).serializable sent read once);
              printed = subst (λ (lines : List (List Line)). Printed (map answers_of lines)) lines_are printed;
            }
