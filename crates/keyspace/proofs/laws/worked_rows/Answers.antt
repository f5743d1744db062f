use Rattle.std.proofs.Common.{refl}
use Rattle.keyspace.proofs.Limits.{limits}
use Rattle.keyspace.proofs.laws.worked_rows.Goals as goal

pub returns : goal.returns
returns c = record {
  rows = (
    limits,
    record {
      empty_batch = refl;
      snapshot_at_write = refl;
      snapshot_before_write = refl;
      snapshot_at_edge = refl;
      snapshot_below_edge = refl;
      write_only_far_ahead = refl;
      same_batch_ignores_snapshot = refl;
      conflict_writes_do_not_count = refl;
      touching_ranges_do_not_meet = refl;
      empty_read_range = refl;
      report_history_hits = refl;
      report_batch_place = refl;
      batch_place_skips_empty_range = refl;
      repeat_answered_again = refl;
      repeat_after_given_up = refl;
      repeat_by_another_proxy = refl;
      repeat_by_another_proxy_to_proxy_1 = refl;
      held_repeat_answered_twice = refl;
      held_overtaken = refl;
      least_previous_leaves_first = refl;
      least_previous_leaves_first_to_proxy_1 = refl;
      off_chain_and_held = refl;
    },
  );
}
