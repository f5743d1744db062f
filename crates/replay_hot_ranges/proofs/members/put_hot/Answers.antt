use Rattle.replay_hot_ranges.proofs.Written.{hot_tokens}
use Rattle.replay_hot_ranges.proofs.members.put_hot.Goals as goal

pub returns-clause-tokens : goal.returns-clause-tokens
returns-clause-tokens c =
    hot_tokens _ _ _ _ _ _ _ _ _ c.args.hot.now c.in_ok-begin_object.ensures.ok c.in_ok-key.ensures.ok c.in_ok-put_key.ensures.tokens
    c.in_ok-key-2.ensures.ok c.in_ok-put_key-2.ensures.tokens c.in_ok-key-3.ensures.ok c.in_ok-u64.ensures.ok c.in_ok-end_object.ensures.ok
