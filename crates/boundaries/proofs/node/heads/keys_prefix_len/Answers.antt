use Rattle.std.proofs.Common.{◌≡◌, ◌<◌, ◌==◌, ℕ, List, [], Some, length, get_or, eqb-true, sym, ap, ◌∙◌, arith}
use Rattle.std.proofs.Math.Nat.{min-le_left}
use Rattle.std.proofs.lemmas.List.{get_or-map, length-map, nil_from_length, take_all}
use Rattle.boundaries.proofs.Words.{NodeEntry, key_at, keys_of}
use Rattle.boundaries.proofs.HeadChanges.{begin_of_first, first_empty, first_more}
use Rattle.boundaries.proofs.KeyBytes.{known_bytes}
use Rattle.boundaries.proofs.node.heads.keys_prefix_len.Goals as goal

pub loop-entry-init : goal.loop-entry-init
loop-entry-init c = record { most = omega (arith, c.from-count.ensures); common = λ k d inside. absurd (omega (arith, inside)) }

pub loop-entry-preserved : goal.loop-entry-preserved
loop-entry-preserved c =
    let bytes = key_at c.args.keys.now in
    let keys = keys_of xs in
    let key : NodeEntry → ℕ = λ x. x.key in
    let inside : i < length keys = omega (arith, c.loop-entry-test.true, length-map xs key) in
    let here : e.key ≡ get_or keys i e.key = cc (get_or-map key xs i e e.key c.loop-entry-test.true, c.entry-item.is) in
    elim c.if-not-is_empty.branch [
      | goal.then-not-is_empty w ↦
          let same = w.common_prefix_len.ensures in
          let n = w.common_prefix_len.result in
          let is : (a b : List ℕ) → bytes c.args.key ≡ Some a → bytes e.key ≡ Some b
          → (c.bytes_of-last.result.now ≡ a) × (c.bytes_of-own.result.now ≡ b) = λ a b one other.
          (c.bytes_of-last.ensures.bytes ∙ known_bytes c.args.keys.now c.args.key a one, c.bytes_of-own.ensures.bytes ∙ known_bytes c.args.keys.now e.key b other) in
          let more = first_more bytes c.args.key count n i keys e.key inside here
          (λ a b one other. rw ((is a b one other).0, (is a b one other).1) at same.same)
          (λ a b one other. rw ((is a b one other).0, (is a b one other).1) at same.within) inv.common in
          rw (w.count-is, w.min-count.ensures) record { most = omega (arith, inv.most, min-le_left count n); common = more }
      | goal.else-not-is_empty w ↦
          let empty : (b : List ℕ) → bytes e.key ≡ Some b → b ≡ [] = λ b other.
          let own : c.bytes_of-own.result.now ≡ b = c.bytes_of-own.ensures.bytes ∙ known_bytes c.args.keys.now e.key b other in
          let answered = c.is_empty.ensures ∙ ap (λ (t : List ℕ). length t == 0) own in
          nil_from_length b (eqb-true (length b) 0 (sym answered ∙ w.if-not-is_empty.false)) in
          let more = first_empty bytes c.args.key count i keys e.key inside here empty inv.common in
          rw w.count-is record { most = inv.most; common = more }
    ]
  where
    open c use {args.{entries.{now as xs}}, loop-entry.{entry-index as i, count, invariant as inv}, entry-item.{result as e}}

pub overflow_cast-result : goal.overflow_cast-result
overflow_cast-result c = omega (arith, c.loop-entry.invariant.most)

pub returns : goal.returns
returns c =
    let bytes = key_at c.args.keys.now in
    let keys = keys_of c.args.entries.now in
    let count = c.loop-entry.count in
    let size = length-map c.args.entries.now (λ (x : NodeEntry). x.key) in
    let entire = take_all c.loop-entry.entry-index keys (omega (arith, size, c.loop-entry-test.false)) in
    let common = rw entire at c.loop-entry.invariant.common in
    record {
      begin = λ text is. begin_of_first bytes c.args.key count keys c.requires.there c.requires.known common text is
          (c.requires.filled text is);
    }
