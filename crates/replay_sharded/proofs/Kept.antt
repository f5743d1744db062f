-- A run over streams, whose lines keep the answers.
use Rattle.std.specs.Prelude.{◌≡◌, ℕ, Bool, List, map, Option, Some, slice_get, slice_index_or}
use Rattle.std.specs.List.{All}
use Rattle.std.proofs.Common.{sym, ap, ◌∙◌}
use Rattle.std.proofs.lemmas.Option.{slice_get-get_or}
use Rattle.keyspace.specs.declared.batch.Batch.{Batch}
use Rattle.limits.specs.declared.stop.Stop.{Stop}
use Rattle.wire.specs.declared.error.WireError.{WireError}
use Rattle.replay_output.specs.declared.failures.ProxyFailure.{ProxyFailure}
use Rattle.replay_output.specs.declared.line.Line.{Line}
use Rattle.replay_output.specs.declared.options.Options.{Options}
use Rattle.replay_output.specs.declared.options.form.Form.{Form}
use Rattle.replay_output.specs.declared.options.form.Form.TheVariants.{Kept}
use Rattle.replay_output.specs.declared.options.style.Style.{Style}
use Rattle.replay_output.specs.Line.{IsLineOf, answer_of, kept_of}
use Rattle.replay_workers.specs.Run.{IsRunOver}
use Rattle.replay_workers.proofs.callers.Lists.{found, mapped_at}
use Rattle.replay_shards.specs.declared.answered.Answered.{Answered}
use Rattle.replay_shards.specs.Answered.{AreKept, IsKept}
use Rattle.replay_sharded.specs.Runs.{lines_by}

-- a line in a style that keeps answers keeps its answer
kept_line : (style : Style) (proxy : ℕ) (l : Line) → style.form ≡ Kept → IsLineOf style proxy l → IsKept l
kept_line style proxy l is reported = record {
  counted = reported.counted;
  reply = reported.kept ∙ ap (λ (form : Form). kept_of form (answer_of l)) is;
}

pub kept_run : {X : Type 0} (Gives : X → X → Batch → Type 0) (IsEnd : X → Type 0) (IsFault : X → WireError → Type 0)
    (KeptOf : ℕ → X → Type 0) (options : Options) (streams : List X) (received : List (List Line)) (failures : List ProxyFailure)
    (complete : Bool) (stop : Option Stop) (answered : List Answered)
    → IsRunOver Gives IsEnd IsFault KeptOf options streams received failures complete stop → map lines_by answered ≡ received
    → options.style.form ≡ Kept → All AreKept answered
kept_run Gives IsEnd IsFault KeptOf options streams received failures complete stop answered run same is = λ k d within.
    let own = slice_index_or answered k d in
    let at : slice_get received k ≡ Some own.lines.items =
    ap (λ (l : List (List Line)). slice_get l k) (sym same)
    ∙ mapped_at lines_by answered k own (slice_get-get_or answered k d within) in
    let first = found received streams k own.lines.items (sym run.received_count) at in
    let failure = found received failures k own.lines.items (run.failures_count ∙ sym run.received_count) at in
    let served = run.each k first.0 own.lines.items failure.0 first.1 at failure.1 in
    λ j e inside. kept_line options.style k (slice_index_or own.lines.items j e) is (served.lines_reported j e inside)
