use Rattle.std.proofs.Common.{◌≡◌, ℕ, List, length, sym, ap, subst, ◌∙◌, arith, refl}
use Rattle.std.specs.Io.KnownBytes.{IsAtEnd}
use Rattle.std.specs.Prelude.{Option, map, vec_items}
use Rattle.std.proofs.lemmas.List.{length-map}
use Rattle.keyspace.specs.declared.batch.Batch.{Batch}
use Rattle.keyspace.specs.Run.{Step}
use Rattle.resolver.specs.Observed.{HasSeen}
use Rattle.wire.specs.declared.frames.Frames.{Frames}
use Rattle.wire.specs.Frames.{frames_reader}
use Rattle.wire.specs.NextFrame.{TakesFrame}
use Rattle.wire.specs.Batches.{IsFaultAt}
use Rattle.replay_output.specs.declared.options.reports.Reports.{Reports}
use Rattle.replay_output.specs.declared.options.reports.Reports.TheVariants.{Asked, All}
use Rattle.replay_workers.specs.declared.reporting_batches.AskingFrames.{AskingFrames}
use Rattle.replay_workers.specs.Asking.{asking_reader}
use Rattle.replay_workers.specs.Reporting.{TakesResolved, resolved_for}
use Rattle.replay_workers.specs.Occupied.{IsOccupancyOf}
use Rattle.replay_workers.specs.Run.{IsMeasuredRun, IsRun, IsObservedRun, is_complete}
use Rattle.replay_workers.proofs.Seen.{map_twice, run_seen, run_seen_log}
use Rattle.replay_workers.proofs.workers_run.run_observed.Goals as goal

-- a batch of these reports is the one that is resolved under the same reports
resolved_under : (reports given : Reports) (old new : Option (List ℕ)) (batch : Batch) → reports ≡ given
    → TakesResolved given old new batch → TakesResolved reports old new batch
resolved_under reports given old new batch same takes =
    (takes.0, takes.1, takes.2 ∙ ap (λ (r : Reports). resolved_for r takes.0) (sym same))

pub run_over-requires-clause-least : goal.run_over-requires-clause-least
run_over-requires-clause-least g c κs within =
    let streams = c.in_ok-streams-in-Asked.streams in
    let count : length streams.items ≡ length c.args.readers.items =
    sym (length-map streams.items frames_reader) ∙ ap length c.in_ok-streams-in-Asked.ensures.readers in
    omega (arith, count, c.requires.least_readers, streams.ok.0, c.args.readers.ok.0)

pub run_over-requires-clause-most : goal.run_over-requires-clause-most
run_over-requires-clause-most g c κs within =
    let streams = c.in_ok-streams-in-Asked.streams in
    let count : length streams.items ≡ length c.args.readers.items =
    sym (length-map streams.items frames_reader) ∙ ap length c.in_ok-streams-in-Asked.ensures.readers in
    omega (arith, count, c.requires.most_readers, streams.ok.0, c.args.readers.ok.0)

pub run_over-requires-clause-fresh : goal.run_over-requires-clause-fresh
run_over-requires-clause-fresh g c κs within = c.in_ok-streams-in-Asked.ensures.fresh

pub run_over-requires-in-All-clause-least : goal.run_over-requires-in-All-clause-least
run_over-requires-in-All-clause-least g c κs within =
    let streams = c.in_ok-streams-in-All.streams in
    let count : length streams.items ≡ length c.args.readers.items =
    sym (length-map streams.items asking_reader) ∙ ap length c.in_ok-streams-in-All.ensures.readers in
    omega (arith, count, c.requires.least_readers, streams.ok.0, c.args.readers.ok.0)

pub run_over-requires-in-All-clause-most : goal.run_over-requires-in-All-clause-most
run_over-requires-in-All-clause-most g c κs within =
    let streams = c.in_ok-streams-in-All.streams in
    let count : length streams.items ≡ length c.args.readers.items =
    sym (length-map streams.items asking_reader) ∙ ap length c.in_ok-streams-in-All.ensures.readers in
    omega (arith, count, c.requires.most_readers, streams.ok.0, c.args.readers.ok.0)

pub run_over-requires-in-All-clause-fresh : goal.run_over-requires-in-All-clause-fresh
run_over-requires-in-All-clause-fresh g c κs within = c.in_ok-streams-in-All.ensures.fresh

pub returns-in_ok-outcome-in-Asked : goal.returns-in_ok-outcome-in-Asked
returns-in_ok-outcome-in-Asked g c =
    let view = λ (frames : Frames g.row.S.Denot). g.S.Source.remaining (frames_reader frames) in
    let streams = c.in_ok-streams-in-Asked.streams.items in
    let options = c.args.options in
    let reports = options.reports in
    let Gives = λ (old new : Frames g.row.S.Denot). TakesFrame (view old) (view new) in
    let seen = λ (old new : Frames g.row.S.Denot) (batch : Batch) (takes : TakesFrame (view old) (view new) batch).
    resolved_under reports Asked (view old) (view new) batch c.in-Asked.is (batch, takes, refl) in
    let outcome = c.in_ok-outcome-in-Asked.outcome in
    let account = c.in_ok-outcome-in-Asked.account in
    let ended = c.in_ok-outcome-in-Asked.ensures in
    let Seen = g.O.Observer.has_seen c.run_over.new.observer in
    let files : map view streams ≡ map g.S.Source.remaining c.args.readers.items =
    map_twice frames_reader g.S.Source.remaining streams ∙ ap (map g.S.Source.remaining) c.in_ok-streams-in-Asked.ensures.readers in
    record {
      run = subst (λ (files : List (Option (List ℕ))). IsRun options files (map vec_items outcome.lines.items) outcome.failures.items
          (is_complete outcome account) account.stop) files
          (run_seen view Gives (TakesResolved reports) IsAtEnd IsFaultAt seen _ options streams _ _ _ _ ended.run);
      observed = λ first.
          let saw = ended.observed first in
          subst (λ (files : List (Option (List ℕ))). IsObservedRun Seen options files (map vec_items outcome.lines.items)
          outcome.failures.items (is_complete outcome account) account.stop) files
          (record {
            run = run_seen view Gives (TakesResolved reports) IsAtEnd IsFaultAt seen _ options streams _ _ _ _ saw.run;
            seen = subst (λ (log : List Step). HasSeen Seen account.stop options.window log)
                (sym (run_seen_log view Gives (TakesResolved reports) IsAtEnd IsFaultAt seen _ options streams _ _ _ _ saw.run)) saw.seen;
          });
      measured = λ first.
          let saw = ended.measured first in
          let log_is = run_seen_log view Gives (TakesResolved reports) IsAtEnd IsFaultAt seen _ options streams _ _ _ _ saw.observed.run in
          subst (λ (files : List (Option (List ℕ))). IsMeasuredRun Seen outcome.occupancy options files (map vec_items outcome.lines.items)
          outcome.failures.items (is_complete outcome account) account.stop) files
          (record {
            observed = record {
              run = run_seen view Gives (TakesResolved reports) IsAtEnd IsFaultAt seen _ options streams _ _ _ _ saw.observed.run;
              seen = subst (λ (log : List Step). HasSeen Seen account.stop options.window log) (sym log_is) saw.observed.seen;
            };
            occupied = subst (λ (log : List Step). IsOccupancyOf account.stop options.limit options.window log outcome.occupancy)
                (sym log_is) saw.occupied;
          });
      capacity = ended.capacity;
      setting = c.run_over.ensures.setting;
    }

pub returns-in_ok-outcome-in-All : goal.returns-in_ok-outcome-in-All
returns-in_ok-outcome-in-All g c =
    let view = λ (frames : AskingFrames g.row.S.Denot). g.S.Source.remaining (asking_reader frames) in
    let streams = c.in_ok-streams-in-All.streams.items in
    let options = c.args.options in
    let reports = options.reports in
    let Gives = λ (old new : AskingFrames g.row.S.Denot). TakesResolved All (view old) (view new) in
    let seen = λ (old new : AskingFrames g.row.S.Denot) (batch : Batch). resolved_under reports All (view old) (view new) batch c.in-All.is in
    let outcome = c.in_ok-outcome-in-All.outcome in
    let account = c.in_ok-outcome-in-All.account in
    let ended = c.in_ok-outcome-in-All.ensures in
    let Seen = g.O.Observer.has_seen c.run_over-in-All.new.observer in
    let files : map view streams ≡ map g.S.Source.remaining c.args.readers.items =
    map_twice asking_reader g.S.Source.remaining streams ∙ ap (map g.S.Source.remaining) c.in_ok-streams-in-All.ensures.readers in
    record {
      run = subst (λ (files : List (Option (List ℕ))). IsRun options files (map vec_items outcome.lines.items) outcome.failures.items
          (is_complete outcome account) account.stop) files
          (run_seen view Gives (TakesResolved reports) IsAtEnd IsFaultAt seen _ options streams _ _ _ _ ended.run);
      observed = λ first.
          let saw = ended.observed first in
          subst (λ (files : List (Option (List ℕ))). IsObservedRun Seen options files (map vec_items outcome.lines.items)
          outcome.failures.items (is_complete outcome account) account.stop) files
          (record {
            run = run_seen view Gives (TakesResolved reports) IsAtEnd IsFaultAt seen _ options streams _ _ _ _ saw.run;
            seen = subst (λ (log : List Step). HasSeen Seen account.stop options.window log)
                (sym (run_seen_log view Gives (TakesResolved reports) IsAtEnd IsFaultAt seen _ options streams _ _ _ _ saw.run)) saw.seen;
          });
      measured = λ first.
          let saw = ended.measured first in
          let log_is = run_seen_log view Gives (TakesResolved reports) IsAtEnd IsFaultAt seen _ options streams _ _ _ _ saw.observed.run in
          subst (λ (files : List (Option (List ℕ))). IsMeasuredRun Seen outcome.occupancy options files (map vec_items outcome.lines.items)
          outcome.failures.items (is_complete outcome account) account.stop) files
          (record {
            observed = record {
              run = run_seen view Gives (TakesResolved reports) IsAtEnd IsFaultAt seen _ options streams _ _ _ _ saw.observed.run;
              seen = subst (λ (log : List Step). HasSeen Seen account.stop options.window log) (sym log_is) saw.observed.seen;
            };
            occupied = subst (λ (log : List Step). IsOccupancyOf account.stop options.limit options.window log outcome.occupancy)
                (sym log_is) saw.occupied;
          });
      capacity = ended.capacity;
      setting = c.run_over-in-All.ensures.setting;
    }
