-- How full a resolver was in a run, with what an observer has seen of it.
use Rattle.std.specs.Prelude.{◌≡◌, ℕ, ℤ, Bool, List, Option, None, Some}
use Rattle.std.proofs.Common.{refl, subst}
use Rattle.keyspace.specs.Processed.{Processed, version_of}
use Rattle.replay_summary.specs.declared.occupancy.Occupancy.{Occupancy}
use Rattle.limits.specs.declared.stop.Stop.{Stop}
use Rattle.replay_output.specs.declared.failures.ProxyFailure.{ProxyFailure}
use Rattle.replay_output.specs.declared.line.Line.{Line}
use Rattle.replay_output.specs.declared.options.Options.{Options}
use Rattle.replay_workers.specs.Occupied.{IsOccupancyOf, IsOccupancyOver}
use Rattle.replay_workers.specs.Run.{IsMeasuredRun}

module _ (options : Options) (files : List (Option (List ℕ))) (received : List (List Line)) (failures : List ProxyFailure)
    (complete : Bool) (occupancy : Occupancy) (stop : Option Stop) where
  -- whoever has seen it
  pub measured_for_any : {Seen : List Processed → Type 0} → IsMeasuredRun Seen occupancy options files received failures complete stop
      → IsMeasuredRun (λ _. Unit {0}) occupancy options files received failures complete stop
  measured_for_any measured =
      let saw = measured.observed.seen in
      record {
        observed = record {
          run = measured.observed.run;
          seen = record {
            list = saw.list;
            seen = tt;
            no_others = saw.no_others;
            all = saw.all;
            all_before_last = saw.all_before_last;
          };
        };
        occupied = measured.occupied;
      }

  -- what another observer has seen, beside the version
  pub measured_by_other : (Seen : List Processed → Type 0) (version : Option ℤ)
      → IsMeasuredRun (λ ps. Seen ps × (version ≡ Some (version_of ps))) occupancy options files received failures complete stop
      → IsMeasuredRun Seen occupancy options files received failures complete stop
  measured_by_other Seen version measured =
      let saw = measured.observed.seen in
      record {
        observed = record {
          run = measured.observed.run;
          seen = record {
            list = saw.list;
            seen = saw.seen.0;
            no_others = saw.no_others;
            all = saw.all;
            all_before_last = saw.all_before_last;
          };
        };
        occupied = measured.occupied;
      }

  module _ (Seen : List Processed → Type 0) (measured : IsMeasuredRun Seen occupancy options files received failures complete stop) where
    -- these are the batches that it has seen
    pub measured_as : IsMeasuredRun (λ seen. seen ≡ measured.observed.seen.list) occupancy options files received failures complete stop
    measured_as =
        let saw = measured.observed.seen in
        record {
          observed = record {
            run = measured.observed.run;
            seen = record {
              list = saw.list;
              seen = refl;
              no_others = saw.no_others;
              all = saw.all;
              all_before_last = saw.all_before_last;
            };
          };
          occupied = measured.occupied;
        }

    -- without a stop, how full it was over the complete log
    pub occupied_over : stop ≡ None → IsOccupancyOver options.limit options.window measured.observed.run.log occupancy
    occupied_over none =
        subst (λ (met : Option Stop). IsOccupancyOf met options.limit options.window measured.observed.run.log occupancy) none
        measured.occupied
