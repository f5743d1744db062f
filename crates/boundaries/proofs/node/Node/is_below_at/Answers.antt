use Rattle.std.proofs.Common.{◌∙◌, get_or-take, length-take, arith}
use Rattle.boundaries.proofs.Words.{order}
use Rattle.boundaries.specs.Node.{entries_of}
use Rattle.boundaries.proofs.HeadAt.{entry_there, key_there, answered_at}
use Rattle.boundaries.proofs.node.Node.is_below_at.Goals as goal

pub returns-in-Some : goal.returns-in-Some
returns-in-Some c = record {
  is_below = λ e there.
      let node = c.args.self.now in
      let i = c.args.index in
      let own = get_or-take node.len node.heads i 0 (omega (arith, c.requires.within, length-take node.len node.entries)) in
      rw (← own) (answered_at _ _ c.requires.headed _ _ (order c.args.keys.now c.args.bound) i e.key c.in-Some.head
      (key_there (entries_of node) i e there) (rw c.in-Some.is at c.requires.head) (λ same. c.if-head-own.true (same ∙ own)));
}

pub returns-in_default : goal.returns-in_default
returns-in_default c = record {
  is_below = λ e there.
      let node = c.args.self.now in
      let same = entry_there node.entries node.len c.args.index e c.index-self-index.result there in
      cc (c.is_below.ensures.is_below);
}
