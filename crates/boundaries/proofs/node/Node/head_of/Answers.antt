use Rattle.std.proofs.Common.{◌≡◌, ◌<◌, ◌∙◌, sym, arith, slice_index_or, eqb-true, length-take-le}
use Rattle.boundaries.proofs.Words.{key_at, head_at, key_heads_of}
use Rattle.boundaries.proofs.HeadChanges.{key_agrees, key_there, head_there}
use Rattle.boundaries.proofs.node.Node.head_of.Goals as goal

pub returns-then-eq : goal.returns-then-eq
returns-then-eq c =
    let bytes = key_at c.args.keys.now in
    let inside : i < node.len = omega (arith, c.requires.within, length-take-le node.len node.entries (omega arith)) in
    let equal = eqb-true (slice_index_or node.entries i e).key c.args.key (sym c.eq.ensures ∙ c.if-eq.true) in
    let same : e.key ≡ c.args.key = cc in
    let there = key_there node.entries node.len i e inside (omega arith) is in
    record {
      head = rw (← same) record {
        begins = key_agrees bytes (key_heads_of node) c.requires.headed e.key there;
        head_is = head_there node.entries node.len i e inside (omega arith) is (head_at bytes node.prefix_len) node.heads
            c.requires.headed.heads;
      };
    }
  where
    open c use {args.{self.{now as node}, index as i}, index-self-index.{result as e, is}}
