use Rattle.std.proofs.Common.{◌∙◌, ap, sym, codes, map, option_map, inl, inr, rules}
use Rattle.clap.specs.Words.{found_of}
use Rattle.clap.proofs.WalkLemmas.{raw_values-rows}
use Rattle.replay_arguments.proofs.Refusals.{no_files, not_as_many}
use Rattle.replay_arguments.proofs.arguments.names.files_of.Goals.{
  then-is_empty-via-then-is_empty,
  then-is_empty-via-else-is_empty+then-files-gt-MAX_PROXIES,
}
use Rattle.replay_arguments.proofs.arguments.names.files_of.Goals as goal

pub returns-clause-files : goal.returns-clause-files
returns-clause-files c =
    sym (raw_values-rows (found_of c.args.matches.now) (codes "FILE")) ∙ sym c.get_strs.ensures
    ∙ ap (option_map (λ s. map (λ v. v.now) s.now)) c.in_ok-files.was

pub returns-in_err-files-clause-none : goal.returns-in_err-files-clause-none
returns-in_err-files-clause-none c = λ is has.
    no_files _ (sym (raw_values-rows (found_of c.args.matches.now) (codes "FILE")) ∙ sym c.get_strs.ensures
    ∙ ap (option_map (λ s. map (λ v. v.now) s.now)) c.in_err-files.was)
    has

pub returns-then-is_empty-clause-none : goal.returns-then-is_empty-clause-none
returns-then-is_empty-clause-none c = λ is has.
    not_as_many _ c.in_ok-files.files.now
    (sym (raw_values-rows (found_of c.args.matches.now) (codes "FILE")) ∙ sym c.get_strs.ensures
    ∙ ap (option_map (λ s. map (λ v. v.now) s.now)) c.in_ok-files.was)
    (elim c.then-is_empty.branch [
      | then-is_empty-via-then-is_empty w ↦ inl (search rules)
      | then-is_empty-via-else-is_empty+then-files-gt-MAX_PROXIES w ↦ inr (search rules)
    ])
    has
