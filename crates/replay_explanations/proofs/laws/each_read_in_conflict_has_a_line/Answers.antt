use Rattle.replay_explanations.proofs.HasLine.{line_if_in_conflict, reported_has_line}
use Rattle.replay_explanations.proofs.laws.each_read_in_conflict_has_a_line.Goals as goal

pub returns : goal.returns
returns c = record {
  exactly = λ form window ps p chain j i t at_t. line_if_in_conflict form window ps p chain j t at_t i;
  reported = λ form window ps p chain j i t e at_t at_e. reported_has_line form window ps p chain j t at_t e at_e i;
}
