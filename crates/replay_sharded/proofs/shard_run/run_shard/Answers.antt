use Rattle.std.proofs.Common.{List, ◌∙◌, refl, sym, subst}
use Rattle.std.proofs.lemmas.List.{length-map}
use Rattle.std.specs.Prelude.{Bool, map, vec_items}
use Rattle.std.specs.Io.KnownBytes.{IsAtEnd}
use Rattle.replay_output.specs.declared.line.Line.{Line}
use Rattle.replay_workers.specs.Run.{EndsAt, IsRunOver}
use Rattle.wire.specs.Batches.{IsFaultAt}
use Rattle.replay_shards.specs.Clips.{GivesClip, GivesNoClip, bytes_left}
use Rattle.replay_sharded.specs.declared.shard_run.ShardRun.{ShardRun}
use Rattle.replay_sharded.specs.Runs.{lines_by}
use Rattle.replay_sharded.proofs.Kept.{kept_run}
use Rattle.replay_sharded.proofs.Readings.{run_of_shard}
use Rattle.replay_sharded.proofs.shard_run.run_shard.Goals as goal

pub returns : goal.returns
returns g c =
    let remaining = g.S.Source.remaining in
    let outcome = c.in_ok-outcome.outcome in
    let ended = c.in_ok-outcome.ended in
    let account = c.in_ok-outcome.account in
    let made : ShardRun = record {
      answered = c.answered_each-answered.result;
      failures = outcome.failures;
      complete = c.is_complete-complete.result;
      stop = account.stop;
    } in
    let Ran : List (List Line) → Bool → Type 0 = λ lines complete.
    IsRunOver (GivesClip remaining) (λ own. IsAtEnd (bytes_left remaining own)) (λ own. IsFaultAt (bytes_left remaining own))
    (EndsAt GivesNoClip ended.items) c.args.options c.args.clips.items lines outcome.failures.items complete account.stop in
    let ran : Ran (map lines_by made.answered.items) made.complete =
    subst (λ (lines : List (List Line)). Ran lines c.is_complete-complete.result) (sym c.answered_each-answered.ensures.lines)
    (subst (λ (complete : Bool). Ran (map vec_items outcome.lines.items) complete) (sym c.is_complete-complete.ensures.complete)
    c.in_ok-outcome.ensures.run) in
    record {
      run = record {
        of_files = λ shard files of.
            run_of_shard remaining shard c.args.options files c.args.clips.items ended.items made of
            c.answered_each-answered.ensures.notes ran;
        answered = made.answered.ok.0 ∙ sym (length-map made.answered.items lines_by) ∙ ran.received_count;
        failures = outcome.failures.ok.0 ∙ ran.failures_count;
        kept =
            kept_run (GivesClip remaining) (λ own. IsAtEnd (bytes_left remaining own)) (λ own. IsFaultAt (bytes_left remaining own))
            (EndsAt GivesNoClip ended.items) c.args.options c.args.clips.items (map lines_by made.answered.items) outcome.failures.items
            made.complete account.stop made.answered.items ran refl;
      };
    }
