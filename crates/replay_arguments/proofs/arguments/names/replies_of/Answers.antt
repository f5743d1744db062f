use Rattle.std.proofs.Common.{◌∙◌, ap, sym, codes, map, option_map, rules}
use Rattle.clap.specs.Words.{found_of}
use Rattle.clap.proofs.WalkLemmas.{raw_values-rows}
use Rattle.replay_arguments.proofs.Refusals.{no_replies, other_replies}
use Rattle.replay_arguments.proofs.arguments.names.replies_of.Goals as goal

pub returns-in_default-clause-none : goal.returns-in_default-clause-none
returns-in_default-clause-none c = (
  search rules,
  no_replies c.args.file_count _ (sym (raw_values-rows (found_of c.args.matches.now) (codes "check")) ∙ sym c.get_strs.ensures
      ∙ ap (option_map (λ s. map (λ v. v.now) s.now)) c.in_default.is),
)

pub returns-then-replies-file_count-clause-none : goal.returns-then-replies-file_count-clause-none
returns-then-replies-file_count-clause-none c = (
  search rules,
  other_replies c.args.file_count _ c.in-Some.replies.now
      (sym (raw_values-rows (found_of c.args.matches.now) (codes "check")) ∙ sym c.get_strs.ensures
      ∙ ap (option_map (λ s. map (λ v. v.now) s.now)) c.in-Some.is)
      (search rules),
)

pub returns-clause-replies : goal.returns-clause-replies
returns-clause-replies c = λ kept.
    sym (raw_values-rows (found_of c.args.matches.now) (codes "check")) ∙ sym c.get_strs.ensures
    ∙ ap (option_map (λ s. map (λ v. v.now) s.now)) c.in-Some.is
