use Rattle.std.proofs.Common.{◌≢◌, ◌∙◌, sym, get_or, get_or-take, arith, length-take}
use Rattle.boundaries.proofs.Words.{entries_of, key_heads_of, order}
use Rattle.boundaries.proofs.HeadAt.{entry_at, entry_there, key_there, common_at, differs_too}
use Rattle.boundaries.proofs.KeyBytes.{known_bytes}
use Rattle.boundaries.proofs.node.Node.common_prefix_len_in.Goals as goal

pub returns-then-index-eq0 : goal.returns-then-index-eq0
returns-then-index-eq0 c = record { known = λ e there. c.requires.can_step.known e (rw c.if-index-eq0.true at there) }

pub returns-then-self-ne0 : goal.returns-then-self-ne0
returns-then-self-ne0 c = record {
  known = λ e there.
      let node = c.args.self.now in
      let es = entries_of node in
      let first = entry_at es 0 (omega (arith, c.requires.within)) in
      let own = get_or-take node.len node.heads 0 0 (omega (arith, c.requires.within, length-take node.len node.entries)) in
      let filled : get_or (key_heads_of node).heads 0 0 ≢ 0 = λ zero. c.if-self-ne0.true (sym own ∙ zero) in
      let known = c.requires.can_step.known first.0 first.1 in (
        c.requires.is_below e there,
        differs_too _ _ c.requires.can_step.can_find.headed _ _ (order c.args.keys.now c.args.bound) c.args.common_prefix_len first.0.key
            (key_there es 0 first.0 first.1) filled (c.requires.head.none c.in_default.is filled) known.0 known.1 c.args.index
            e.key (key_there es c.args.index e there),
      );
}

pub returns-then-self-index : goal.returns-then-self-index
returns-then-self-index c = record {
  known = λ e there.
      let node = c.args.self.now in
      let same = entry_there node.entries node.len c.args.index e c.index-self-index-then-self-index.result there in
      (c.requires.is_below e there, (λ text is. rw (known_bytes c.args.keys.now e.key text is) at rw same at c.common_prefix_len-then-self-index.ensures.common));
}

pub returns : goal.returns
returns c = record {
  known = λ e there.
      let own = get_or-take node.len node.heads i 0 (omega (arith, c.requires.within, length-take node.len node.entries)) in
      let passed = c.requires.is_below e there in
      let common = common_at _ _ c.requires.can_step.can_find.headed _ _ (order c.args.keys.now c.args.bound) i e.key c.in-Some.head
      c.same_head_bytes.result (key_there (entries_of node) i e there) (rw c.in-Some.is at c.requires.head.head) passed
      (λ differ. c.if-self-index.false (sym own ∙ differ)) same.within (rw own same.same) (λ less e. same.differ less (cc)) in
      (passed, rw c.prefix_len.ensures.prefix_len common);
}
  where
    open c use {args.{self.{now as node}, index as i}, same_head_bytes.{ensures as same}}
