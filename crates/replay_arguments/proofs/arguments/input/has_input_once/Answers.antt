use Rattle.std.proofs.Common.{◌≡◌, ◌∙◌, ◌+◌, ◌≤◌, ℕ, ap, codes, subst}
use Rattle.std.specs.Prelude.{◌↔◌, IsTrue}
use Rattle.clap.specs.Words.{all_of, first_of, found_of, rows_of}
use Rattle.clap.proofs.WalkLemmas.{first_value-rows, raw_values-rows}
use Rattle.replay_arguments.specs.Arguments.{inputs_in, inputs_of}
use Rattle.replay_arguments.proofs.arguments.input.has_input_once.Goals as goal

pub returns : goal.returns
returns c =
    let found = found_of c.args.matches.now in
    let files : c.inputs_of-files.result ≡ inputs_of (all_of (codes "FILE") (rows_of found)) =
    c.inputs_of-files.ensures.count ∙ ap inputs_of (c.get_strs.ensures ∙ raw_values-rows found (codes "FILE")) in
    let replies : c.inputs_of-replies.result ≡ inputs_of (all_of (codes "check") (rows_of found)) =
    c.inputs_of-replies.ensures.count ∙ ap inputs_of (c.get_strs-2.ensures ∙ raw_values-rows found (codes "check")) in
    let points : c.inputs_in-points.result ≡ inputs_in (first_of (codes "split-points") (rows_of found)) =
    c.inputs_in-points.ensures.count ∙ ap inputs_in (c.get_str.ensures ∙ first_value-rows found (codes "split-points")) in
    let Few : ℕ → ℕ → ℕ → Type 0 = λ a b d. IsTrue c.are_at_most_one.result ↔ (a + (b + d) ≤ 1) in
    record {
      once =
          subst (Few (inputs_of (all_of (codes "FILE") (rows_of found))) (inputs_of (all_of (codes "check") (rows_of found)))) points
          (subst (λ (n : ℕ). Few (inputs_of (all_of (codes "FILE") (rows_of found))) n c.inputs_in-points.result) replies
          (subst (λ (n : ℕ). Few n c.inputs_of-replies.result c.inputs_in-points.result) files c.are_at_most_one.ensures.few));
    }
