use Rattle.std.proofs.Common.{◌≡◌, ◌∙◌, Bool, List, ℕ, Option, ap, codes}
use Rattle.std.specs.Prelude.{◌||◌, option_map}
use Rattle.std.specs.List.{list_any}
use Rattle.clap.specs.Words.{all_of, first_of, found_of, rows_of}
use Rattle.clap.proofs.WalkLemmas.{first_value-rows, raw_values-rows}
use Rattle.replay_arguments.specs.KeptInputs.{is_read, is_read_if_any, given_names, writes_input}
use Rattle.replay_arguments.specs.Names.{texts}
use Rattle.replay_arguments.proofs.arguments.kept_inputs.writes_input.Goals as goal

-- what is found of equal names is the same
of_names : (files files' replies replies' records records' : List (List ℕ)) (points points' output output' summary summary' : Option (List ℕ))
    → files ≡ files' → replies ≡ replies' → points ≡ points' → records ≡ records' → output ≡ output' → summary ≡ summary' → (a b c : Bool)
    → a ≡ is_read_if_any files replies points output → b ≡ is_read_if_any files replies points summary
    → c ≡ list_any (is_read files replies points) records
    → a || (b || c) ≡ writes_input files' replies' points' output' summary' records'
of_names files files' replies replies' records records' points points' output output' summary summary' f p q r o s a b c x y z =
    ap (λ (v : Bool). v || (b || c)) x ∙ ap (λ (v : Bool). is_read_if_any files replies points output || (v || c)) y
    ∙ ap (λ (v : Bool). is_read_if_any files replies points output || (is_read_if_any files replies points summary || v)) z
    ∙ ap (λ (l : List (List ℕ)). writes_input l replies points output summary records) f
    ∙ ap (λ (l : List (List ℕ)). writes_input files' l points output summary records) p
    ∙ ap (λ (l : Option (List ℕ)). writes_input files' replies' l output summary records) q
    ∙ ap (λ (l : Option (List ℕ)). writes_input files' replies' points' l summary records) o
    ∙ ap (λ (l : Option (List ℕ)). writes_input files' replies' points' output' l records) s
    ∙ ap (λ (l : List (List ℕ)). writes_input files' replies' points' output' summary' l) r

pub returns : goal.returns
returns c =
    let found = found_of c.args.matches.now in
    let rows = rows_of found in
    record {
      writes =
          c.is_any_true.ensures.any
          ∙ of_names (texts c.given-files.result) (given_names (all_of (codes "FILE") rows)) (texts c.given-replies.result)
          (given_names (all_of (codes "check") rows)) (texts c.given-records.result) (given_names (all_of (codes "replies") rows))
          (option_map (λ name. name.now) c.get_str-points.result) (first_of (codes "split-points") rows)
          (option_map (λ name. name.now) c.get_str.result) (first_of (codes "output") rows)
          (option_map (λ name. name.now) c.get_str-2.result) (first_of (codes "summary-to") rows)
          (c.given-files.ensures.names ∙ ap given_names (c.get_strs.ensures ∙ raw_values-rows found (codes "FILE")))
          (c.given-replies.ensures.names ∙ ap given_names (c.get_strs-2.ensures ∙ raw_values-rows found (codes "check")))
          (c.get_str-points.ensures ∙ first_value-rows found (codes "split-points"))
          (c.given-records.ensures.names ∙ ap given_names (c.get_strs-3.ensures ∙ raw_values-rows found (codes "replies")))
          (c.get_str.ensures ∙ first_value-rows found (codes "output"))
          (c.get_str-2.ensures ∙ first_value-rows found (codes "summary-to"))
          _ _ _ c.have_if_any-has_output.ensures.any c.have_if_any-has_summary.ensures.any c.have_one_of-has_record.ensures.one;
    }
