use Rattle.std.proofs.Common.{ap, ◌∙◌}
use Rattle.std.specs.BTreeMap.{is_at}
use Rattle.std.specs.Map.{lookup}
use Rattle.chain.specs.Replies.{key_cmp}
use Rattle.chain.proofs.KeptKeys.{get-map_of}
use Rattle.chain.proofs.replies.Replies.new.Goals as goal

pub returns-clause-none : goal.returns-clause-none
returns-clause-none c = λ p v. get-map_of c.new.result (p, v)
    ∙ ap (lookup (is_at (key_cmp (p, v)))) c.new.ensures.empty
