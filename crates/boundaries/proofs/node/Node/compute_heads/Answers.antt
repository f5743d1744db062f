use Rattle.std.proofs.Common.{◌<◌, ◌≤◌, ◌∙◌, length, refl, ap, sym, arith, length-set, take_all, ◌≡◌}
use Rattle.boundaries.proofs.Words.{NodeEntry, key_at, head_at, entries_of, keys_of}
use Rattle.boundaries.proofs.HeadChanges.{head_next, keys_count}
use Rattle.boundaries.proofs.node.Node.compute_heads.Goals as goal

pub loop-index-init : goal.loop-index-init
loop-index-init c = record { len = refl; entries = refl; prefix_len = refl; room = omega arith; heads = refl }

pub loop-index-preserved : goal.loop-index-preserved
loop-index-preserved c =
    let bytes = key_at c.args.keys.now in
    let inside : i < node.len = omega (arith, inv.len) in
    let most : node.len ≤ length node.entries = omega (arith, inv.len, ap length inv.entries) in
    let right : c.head_in.result ≡ head_at bytes node.prefix_len e.key =
    c.head_in.ensures.head ∙ ap (λ (x : NodeEntry). head_at bytes node.prefix_len x.key) (sym is) in
    record {
      len = inv.len;
      entries = inv.entries;
      prefix_len = inv.prefix_len;
      room = length-set node.heads i c.head_in.result ∙ inv.room;
      heads = head_next node.entries node.len i e inside most is (head_at bytes node.prefix_len) node.heads
          c.head_in.result (omega (arith, inv.room, inside)) right inv.heads;
    }
  where
    open c use {loop-index.{self as node, invariant as inv, index as i}, index-self-index.{result as e, is}}

pub returns-clause-entries : goal.returns-clause-entries
returns-clause-entries c = rw (c.loop-index.invariant.len, c.loop-index.invariant.entries) refl

pub returns-clause-headed : goal.returns-clause-headed
returns-clause-headed c =
    let size = keys_count node.entries node.len (omega (arith, inv.len, ap length inv.entries)) in
    let end : c.loop-index.index ≡ node.len = omega (arith, inv.len) in
    record {
      prefix = begin.0;
      prefix_len = begin.1 ∙ sym inv.prefix_len;
      begins = rw (← inv.len, ← inv.entries) at begin.2;
      heads = cc (take_all c.loop-index.index (keys_of (entries_of node)) (omega (arith, size, end)), inv.heads);
    }
  where
    open c use {loop-index.{self as node, invariant as inv}, prefix-self.{ensures.{begin}}}
