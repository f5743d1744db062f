use Rattle.std.proofs.Common.{◌≡◌, ◌≤◌, ℕ, [], length, sym, subst, ◌∙◌, arith, Global}
use Rattle.std.specs.Prelude.{map, vec_items, vec_len}
use Rattle.std.specs.List.{All}
use Rattle.std.specs.declared.vec.Vec.{Vec}
use Rattle.std.proofs.lemmas.List.Elements.{All-weaker}
use Rattle.limits.specs.declared.settings.TheConstants.{MAX_PROXIES}
use Rattle.replay_output.specs.Line.{answers_of}
use Rattle.replay_shards.specs.declared.clips.Clips.{Clips}
use Rattle.replay_sharded.specs.declared.shard_run.ShardRun.{ShardRun}
use Rattle.replay_sharded.specs.Combined.{HasProxies}
use Rattle.replay_sharded.proofs.Answered.{all_answered}
use Rattle.replay_sharded.proofs.Committed.{serializable}
use Rattle.replay_sharded.proofs.Resolved.{resolved_except}
use Rattle.replay_sharded.proofs.Taking.{zip_length}
use Rattle.replay_sharded.proofs.Sizes.{count_same, files_count, has_each, sizes_same, some_shard}
use Rattle.replay_sharded.proofs.sharded_run.run_sharded.Goals as goal

pub run_shards-requires-clause-as_many : goal.run_shards-requires-clause-as_many
run_shards-requires-clause-as_many g c κs within =
    c.args.sharded.each_gatekeeper ∙ sym c.args.sharded.each_shard
    ∙ sym (count_same c.in_ok-each.each c.args.sharded.readers c.in_ok-each.ensures.as_many)

pub run_shards-requires-clause-proxies : goal.run_shards-requires-clause-proxies
run_shards-requires-clause-proxies g c κs within =
    let sharded = c.args.sharded in
    All-weaker (λ (own : Vec (Clips g.row.S.Denot) Global). vec_len own ≡ sharded.proxies)
    (λ (own : Vec (Clips g.row.S.Denot) Global). (1 ≤ vec_len own) × (vec_len own ≤ MAX_PROXIES))
    (λ own is. (
      subst (λ (n : ℕ). 1 ≤ n) (sym is) sharded.least,
      subst (λ (n : ℕ). n ≤ MAX_PROXIES) (sym is) sharded.most,
    ))
    c.in_ok-each.each.items
    (sizes_same c.in_ok-each.each.items sharded.readers.items sharded.proxies c.in_ok-each.ensures.as_many sharded.each_proxy)

pub combine_runs-requires-clause-some : goal.combine_runs-requires-clause-some
combine_runs-requires-clause-some g c =
    let sharded = c.args.sharded in
    let runs = c.in_ok-runs.runs in
    let each = c.in_ok-each.each in
    let count = zip_length (λ (clips : Vec (Clips g.row.S.Denot) Global) (run : ShardRun). HasProxies (vec_len clips) run) each.items
    runs.items c.in_ok-runs.ensures.proxies in
    let all = count_same each sharded.readers c.in_ok-each.ensures.as_many in
    omega (arith, runs.ok.0, count, each.ok.0, all, sharded.each_shard, some_shard [] sharded.points)

pub combine_runs-requires-clause-room : goal.combine_runs-requires-clause-room
combine_runs-requires-clause-room g c =
    let sharded = c.args.sharded in
    let runs = c.in_ok-runs.runs in
    let each = c.in_ok-each.each in
    let room = c.in_ok-room.ensures in
    let count = zip_length (λ (clips : Vec (Clips g.row.S.Denot) Global) (run : ShardRun). HasProxies (vec_len clips) run) each.items
    runs.items c.in_ok-runs.ensures.proxies in
    let all = count_same each sharded.readers c.in_ok-each.ensures.as_many in
    let many : vec_len runs ≡ vec_len sharded.readers = runs.ok.0 ∙ (count ∙ (sym each.ok.0 ∙ all)) in
    let sizes = sizes_same each.items sharded.readers.items sharded.proxies c.in_ok-each.ensures.as_many sharded.each_proxy in (
      sharded.proxies,
      has_each sharded.proxies each.items runs.items c.in_ok-runs.ensures.proxies sizes,
      record {
        no_lines = room.lines;
        no_failures = room.failures;
        none_by_shard = room.by_shard;
        no_stops = room.stops;
        lines = room.lines_room;
        failures = room.failures_room;
        by_shard = omega (arith, many, sharded.each_shard, c.shard_count.ensures.count, room.shards_room);
        stops = omega (arith, many, sharded.each_shard, c.shard_count.ensures.count, room.stops_room);
      },
    )

pub returns-clause-together : goal.returns-clause-together
returns-clause-together g c = λ files read.
    let sharded = c.args.sharded in
    let runs = c.in_ok-runs.runs in
    let each = c.in_ok-each.each in
    let sizes = sizes_same each.items sharded.readers.items sharded.proxies c.in_ok-each.ensures.as_many sharded.each_proxy in
    let some : 1 ≤ length sharded.readers.items = omega (arith, sharded.readers.ok.0, sharded.each_shard, some_shard [] sharded.points) in
    let many = files_count g.S.Source.remaining files sharded.proxies sharded.readers.items some sharded.each_proxy read in
    record {
      runs = runs.items;
      each = c.in_ok-runs.ensures.runs sharded.points files (c.in_ok-each.ensures.clips files read);
      proxies =
          subst (λ (n : ℕ). All (HasProxies n) runs.items) many
          (has_each sharded.proxies each.items runs.items c.in_ok-runs.ensures.proxies sizes);
      together = c.combine_runs.ensures.combined;
    }

pub returns-clause-resolved : goal.returns-clause-resolved
returns-clause-resolved g c = λ files read all.
    let sharded = c.args.sharded in
    let window = c.args.options.window in
    let rising = c.shard_count.ensures.points.rising in
    let together = map answers_of (map vec_items c.combine_runs.result.lines.items) in
    resolved_except c.one_spelling.ensures.batches sharded.points c.args.options files c.combine_runs.result rising
    (returns-clause-together g c files read) all
    (λ sent logs of merged count. (
      all_answered sharded.points window sent logs together of merged,
      serializable c.answers_report_verdicts.ensures.known_verdicts c.serializable_among_others.ensures.all sharded.points window sent logs together
          rising count of merged,
    ))

pub returns-clause-lines : goal.returns-clause-lines
returns-clause-lines g c = c.combine_runs.ensures.combined.lines

pub returns-clause-proxies : goal.returns-clause-proxies
returns-clause-proxies g c =
    let sharded = c.args.sharded in
    let runs = c.in_ok-runs.runs in
    let each = c.in_ok-each.each in
    let sizes = sizes_same each.items sharded.readers.items sharded.proxies c.in_ok-each.ensures.as_many sharded.each_proxy in
    let has = has_each sharded.proxies each.items runs.items c.in_ok-runs.ensures.proxies sizes in (
      c.combine_runs.ensures.combined.lines_count sharded.proxies has,
      c.combine_runs.ensures.combined.failures_count sharded.proxies has,
    )
