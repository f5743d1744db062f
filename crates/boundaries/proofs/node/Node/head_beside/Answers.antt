use Rattle.std.proofs.Common.{sym, ◌∙◌, arith}
use Rattle.boundaries.proofs.Words.{key_at, key_heads_of}
use Rattle.boundaries.proofs.KeyBytes.{common_beside, prefix_beside}
use Rattle.boundaries.proofs.node.Node.head_beside.Goals as goal

pub returns-then-prefix_len-common : goal.returns-then-prefix_len-common
returns-then-prefix_len-common c =
    let s = c.requires.searched in
    let short = rw c.prefix_len.ensures.prefix_len at c.if-prefix_len-common.true in
    let has_prefix = prefix_beside (key_at c.args.keys.now) (key_heads_of c.args.self.now) s.other.key.now c.args.bound.key.now
    c.args.common c.args.other s.head (sym c.is_some.ensures ∙ c.if-is_some.true) short s.common in
    let head_is = rw c.prefix_len-then-prefix_len-common.ensures.prefix_len at c.head.ensures.head in
    record { head = record { has_prefix = has_prefix; head_is = head_is; are_bytes = c.head.ensures.are_bytes } }

pub head_for-requires : goal.head_for-requires
head_for-requires c =
    let s = c.requires.searched in
    let common = common_beside c.args.keys.now s.other c.args.bound c.args.self.now c.args.common_prefix_len c.args.common
    c.min.result s.can_step s.common (omega (arith, c.min.ensures)) (omega (arith, c.min.ensures)) in
    record {
      headed = s.can_step.can_find.headed;
      common_prefix_len = common;
    }
