use Rattle.shards.proofs.NoMore.{commits_no_more}
use Rattle.shards.proofs.laws.commits_no_more.Goals as goal

pub returns : goal.returns
returns c = record {
  none = λ window points each ps are. commits_no_more window points each ps are (c.serializable.ensures.current window points each ps are);
}
