use Rattle.conflict.proofs.UnknownHistory.{hits_covered, commits_covered, hits_below, hits_from_on}
use Rattle.conflict.proofs.laws.unknown_history.Goals as goal

pub returns : goal.returns
returns c = record {
  covered = hits_covered;
  commits = commits_covered;
  below = hits_below;
  from_on = hits_from_on;
}
